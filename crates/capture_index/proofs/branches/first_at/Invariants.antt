use Rattle.std.proofs.Common.{ℕ, ◌-◌, ◌<◌, ◌≤◌, length}
use Rattle.std.specs.Prelude.{slice_index_or}
use Rattle.capture_index.specs.declared.run.Branch.{Branch}
use Rattle.capture_index.proofs.branches.first_at.Given as goal

abbrev pub invariant-loop-low : goal.invariant-loop-low
invariant-loop-low l = record {
  between : l.low ≤ l.high;
  most : l.high ≤ length l.branches;
  before : (k : ℕ) (d : Branch) → k < l.low → (slice_index_or l.branches k d).node < l.node;
  from : (k : ℕ) (d : Branch) → l.high ≤ k → k < length l.branches → l.node ≤ (slice_index_or l.branches k d).node;
}

abbrev pub decreases-loop-low : goal.decreases-loop-low
decreases-loop-low l = l.high - l.low
