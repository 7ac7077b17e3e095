use Rattle.std.proofs.Common.{◌≡◌, ℕ, ◌+◌, ◌<◌, length, slice_index}
use Rattle.candidate_sieve.specs.BlockGames.{HaveEach}
use Rattle.candidate_sieve.proofs.candidates.SpanSieve.keep_wanted.Given as goal

-- the wants so far
abbrev pub invariant-loop-k : goal.invariant-loop-k
invariant-loop-k l = record {
  count : length l.words ≡ length l.fn.words;
  kept : (i : ℕ) → i < length l.fn.words → HaveEach l.self.planes.now.games (l.self.base + i) l.self.wants.now (slice_index l.fn.words i) l.k (slice_index l.words i);
}
