use Rattle.std.proofs.Common.{◌≡◌, ◌+◌, ◌*◌, ◌<◌, ℕ, slice_index_or}
use Rattle.line_matcher.specs.Masks.{TouchesAt, care_of, no_mask}
use Rattle.line_matcher.proofs.mask.rows_touch.Given as goal

-- the rows so far touch no point
abbrev pub invariant-loop-row : goal.invariant-loop-row
invariant-loop-row l = record {
  start : l.start ≡ l.first + l.row-index * l.cols;
  none : (dy k : ℕ) → dy < l.row-index → TouchesAt (care_of l.colour (slice_index_or l.rows dy no_mask)) l.points (l.first + dy * l.cols) k → ⊥;
}
