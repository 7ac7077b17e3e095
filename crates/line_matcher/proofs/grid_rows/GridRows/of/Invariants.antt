use Rattle.line_matcher.proofs.RowLists.{HaveGridsTo}
use Rattle.line_matcher.proofs.grid_rows.GridRows.of.Given as goal

-- the rectangles so far
abbrev pub invariant-loop-class : goal.invariant-loop-class
invariant-loop-class l = HaveGridsTo l.images.grids l.class l.ranges.items l.rows.items
