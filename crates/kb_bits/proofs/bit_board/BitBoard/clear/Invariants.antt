use Rattle.std.proofs.Common.{◌≡◌, ℕ, ◌<◌, ◌≤◌, length, slice_index}
use Rattle.kb_bits.specs.declared.bit_board.TheConstants.{WORDS}
use Rattle.kb_bits.proofs.bit_board.BitBoard.clear.Given as goal

-- the words so far are 0, and those behind the words in use still are
abbrev pub invariant-loop-k : goal.invariant-loop-k
invariant-loop-k l = record {
  count : length l.self-inside.words ≡ WORDS;
  before : (j : ℕ) → j < l.k → slice_index l.self-inside.words j ≡ 0;
  behind : (j : ℕ) → l.k-end ≤ j → slice_index l.self-inside.words j ≡ 0;
}
