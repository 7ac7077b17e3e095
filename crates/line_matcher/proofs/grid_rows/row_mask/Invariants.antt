use Rattle.pattern_images.specs.ImageList.{grid_at}
use Rattle.line_matcher.specs.Masks.{IsRowTo}
use Rattle.line_matcher.proofs.grid_rows.row_mask.Given as goal

-- the columns so far
abbrev pub invariant-loop-dx : goal.invariant-loop-dx
invariant-loop-dx l = IsRowTo (grid_at l.images.grids l.class) l.dy l.dx l.row
