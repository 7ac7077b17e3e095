use Rattle.std.proofs.Common.{ℕ, ◌-◌, ◌<◌, ◌≤◌, length}
use Rattle.std.specs.Prelude.{slice_index_or}
use Rattle.capture_index.specs.declared.stretch.Stretch.{Stretch}
use Rattle.capture_index.proofs.begins.count_behind.Given as goal

abbrev pub invariant-loop-low : goal.invariant-loop-low
invariant-loop-low l = record {
  between : l.low ≤ l.high;
  most : l.high ≤ length l.stretches;
  before : (k : ℕ) (d : Stretch) → k < l.low → l.node < (slice_index_or l.stretches k d).from;
  from : (k : ℕ) (d : Stretch) → l.high ≤ k → k < length l.stretches → (slice_index_or l.stretches k d).from ≤ l.node;
}

abbrev pub decreases-loop-low : goal.decreases-loop-low
decreases-loop-low l = l.high - l.low
