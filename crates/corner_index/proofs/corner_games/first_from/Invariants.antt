use Rattle.std.proofs.Common.{ℕ, ◌-◌, ◌<◌, ◌≤◌, length}
use Rattle.std.specs.Prelude.{slice_index}
use Rattle.corner_index.proofs.corner_games.first_from.Given as goal

abbrev pub invariant-loop-low : goal.invariant-loop-low
invariant-loop-low l = record {
  between : l.low ≤ l.high;
  most : l.high ≤ length l.keys;
  before : (k : ℕ) → k < l.low → slice_index l.keys k < l.key;
  from : (k : ℕ) → l.high ≤ k → k < length l.keys → l.key ≤ slice_index l.keys k;
}

abbrev pub decreases-loop-low : goal.decreases-loop-low
decreases-loop-low l = l.high - l.low
