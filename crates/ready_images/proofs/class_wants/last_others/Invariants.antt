use Rattle.std.proofs.Common.{◌<◌, ◌≤◌, ℕ, length}
use Rattle.ready_images.specs.Wants.{IsOfRank, want_at}
use Rattle.ready_images.proofs.class_wants.last_others.Given as goal

-- the wants looked at so far
abbrev pub invariant-loop-empties : goal.invariant-loop-empties
invariant-loop-empties l = record {
  least : l.from ≤ l.empties;
  within : l.empties ≤ length l.wants;
  tail : (k : ℕ) → l.empties ≤ k → k < length l.wants → IsOfRank 2 (want_at l.wants k);
}

abbrev pub decreases-loop-empties : goal.decreases-loop-empties
decreases-loop-empties l = l.empties
