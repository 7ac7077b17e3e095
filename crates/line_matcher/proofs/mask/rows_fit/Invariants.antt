use Rattle.std.proofs.Common.{◌≡◌, ◌+◌, ◌*◌, ◌<◌, ℕ, slice_index_or}
use Rattle.line_matcher.specs.Masks.{FitsRow, no_mask}
use Rattle.line_matcher.proofs.mask.rows_fit.Given as goal

-- the rows so far fit
abbrev pub invariant-loop-row : goal.invariant-loop-row
invariant-loop-row l = record {
  start : l.start ≡ l.first + l.row-index * l.cols;
  fit : (dy : ℕ) → dy < l.row-index → FitsRow (slice_index_or l.rows dy no_mask) l.black l.white (l.first + dy * l.cols);
}
