use Rattle.std.proofs.Common.{◌<◌, ℕ}
use Rattle.ready_images.specs.Wants.{IsOfRank, want_at}
use Rattle.ready_images.proofs.class_wants.first_other.Given as goal

-- the wants looked at so far
abbrev pub invariant-loop-k : goal.invariant-loop-k
invariant-loop-k l = (j : ℕ) → j < l.k → IsOfRank 0 (want_at l.wants j)
