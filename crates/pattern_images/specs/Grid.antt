-- Rectangles of pattern cells, and what an exchange of the colours makes of a cell.
use Rattle.std.specs.Prelude.{ℕ, ◌+◌, ◌*◌, nat_lt, List, slice_index_or, if◌then◌else◌}
use Rattle.pattern_images.specs.declared.cell.PatternCell.{PatternCell}
use Rattle.pattern_images.specs.declared.cell.PatternCell.TheVariants as cell

-- A rectangle of pattern cells, row by row from the upper left.
pub record Grid : Type 0 where
  pub cols : ℕ
  pub rows : ℕ
  pub cells : List PatternCell

-- the cell in column x and row y
abbrev pub cell_in : Grid → ℕ → ℕ → PatternCell
cell_in grid x y = slice_index_or grid.cells (y * grid.cols + x) cell.Any

-- black for white and white for black, and "not white" for "not black"; empty cells and wildcards
-- stay
abbrev pub exchanged_cell : PatternCell → PatternCell
exchanged_cell cell.Empty = cell.Empty
exchanged_cell cell.Black = cell.White
exchanged_cell cell.White = cell.Black
exchanged_cell cell.NotWhite = cell.NotBlack
exchanged_cell cell.NotBlack = cell.NotWhite
exchanged_cell cell.Any = cell.Any

-- what the label with a number makes of a cell: labels from 8 on exchange the colours
abbrev pub labelled_cell : ℕ → PatternCell → PatternCell
labelled_cell label c = if nat_lt label 8 then c else exchanged_cell c
