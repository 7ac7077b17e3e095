use Rattle.std.proofs.Common.{◌*◌}
use Rattle.kb_geometry.specs.Board.{cols_of}
use Rattle.kb_geometry.specs.Symmetry.{number_of_label}
use Rattle.pattern_images.specs.Pattern.{grid_of}
use Rattle.pattern_images.specs.Turned.{turned_cell, AreFilledTo}
use Rattle.pattern_images.proofs.turning.turned_cells.Given as goal

-- the cells of the rows so far
abbrev pub invariant-loop-y : goal.invariant-loop-y
invariant-loop-y l = AreFilledTo l.to (turned_cell (number_of_label l.label) l.to (grid_of l.pattern)) (l.y * cols_of l.to) l.cells.items
