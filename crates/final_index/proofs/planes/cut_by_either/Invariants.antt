use Rattle.std.proofs.Common.{◌≡◌, ℕ, ◌+◌, ◌<◌, ◌≤◌, length, slice_index, bit_and, bit_or}
use Rattle.final_index.proofs.planes.cut_by_either.Given as goal

-- the first so many words are cut
abbrev pub invariant-loop-k : goal.invariant-loop-k
invariant-loop-k l = record {
  count : length l.words ≡ length l.fn.words;
  cut : (j : ℕ) → j < l.k → slice_index l.words j ≡ bit_and (slice_index l.fn.words j) (bit_or (slice_index l.one (l.from + j)) (slice_index l.other (l.from + j)));
  rest : (j : ℕ) → l.k ≤ j → slice_index l.words j ≡ slice_index l.fn.words j;
}
