use Rattle.std.proofs.Common.{◌+◌, ◌*◌}
use Rattle.kb_geometry.specs.Board.{cols_of}
use Rattle.kb_geometry.specs.Symmetry.{number_of_label}
use Rattle.pattern_images.specs.Pattern.{grid_of}
use Rattle.pattern_images.specs.Turned.{turned_cell, AreFilledTo}
use Rattle.pattern_images.proofs.turning.fill_row.Given as goal

-- the cells of the rows above, and those of this row so far
abbrev pub invariant-loop-x : goal.invariant-loop-x
invariant-loop-x l = AreFilledTo l.fn.to (turned_cell (number_of_label l.fn.label) l.fn.to (grid_of l.pattern)) (l.y * cols_of l.fn.to + l.x) l.cells
