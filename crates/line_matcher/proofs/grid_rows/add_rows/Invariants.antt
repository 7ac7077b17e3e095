use Rattle.pattern_images.specs.ImageList.{grid_at}
use Rattle.line_matcher.proofs.RowLists.{HaveRowsTo}
use Rattle.line_matcher.proofs.grid_rows.add_rows.Given as goal

-- the rows so far
abbrev pub invariant-loop-dy : goal.invariant-loop-dy
invariant-loop-dy l = HaveRowsTo (grid_at l.images.grids l.class) l.initial.rows.items l.dy l.rows.items
