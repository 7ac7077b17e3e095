use Rattle.std.proofs.Common.{◌≡◌, ℕ, ◌<◌, slice_index}
use Rattle.std.specs.Int.{bit_at}
use Rattle.candidate_sieve.proofs.candidates.joined.Given as goal

-- the games of the words so far
abbrev pub invariant-loop-k : goal.invariant-loop-k
invariant-loop-k l = (j g : ℕ) → j < l.k → bit_at (slice_index l.words j) g ≡ 1 → bit_at l.games g ≡ 1
