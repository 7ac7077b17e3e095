-- Definitions of the private functions that turn a pattern: they say cell by cell what the code
-- writes.
use Rattle.std.specs.Prelude.{◌≡◌, ℕ, ◌+◌, ◌-◌, ◌*◌, ◌/◌, ◌%◌, ◌<◌, ◌==◌, if◌then◌else◌, List, length, map, slice_index_or}
use Rattle.std.specs.List.{range_with_len}
use Rattle.kb_geometry.specs.declared.shape.Shape.{Shape}
use Rattle.kb_geometry.specs.declared.shape.Point.{Point}
use Rattle.kb_geometry.specs.Board.{cols_of, rows_of, point_count, IsOnBoard}
use Rattle.kb_geometry.specs.Symmetry.{moved, inverse_number, symmetry_of, turned_cols, point_of}
use Rattle.pattern_images.specs.declared.cell.PatternCell.{PatternCell}
use Rattle.pattern_images.specs.declared.cell.PatternCell.TheVariants as cell
use Rattle.pattern_images.specs.declared.turning.CellTable.{CellTable}
use Rattle.pattern_images.specs.declared.turning.Strides.{Strides}
use Rattle.pattern_images.specs.Grid.{Grid, cell_in, labelled_cell}

-- the point of a rectangle with a number
abbrev pub numbered : Shape → ℕ → Point
numbered size k = point_of (k % cols_of size) (k / cols_of size)

-- the point of the pattern that a label moves to the point of the turned pattern
abbrev pub source : ℕ → Shape → Point → Point
source label to p = moved (inverse_number (symmetry_of label)) to p

-- the cell of the turned pattern at a point
abbrev pub turned_cell : ℕ → Shape → Grid → Point → PatternCell
turned_cell label to grid p = labelled_cell label
    (cell_in grid (source label to p).x (source label to p).y)

-- the first so many cells, row by row, of a rectangle of this size, each cell by its point
abbrev pub first_cells : Shape → (Point → PatternCell) → ℕ → List PatternCell
first_cells size f count = map (λ k. f (numbered size k)) (range_with_len 0 count)

-- a rectangle of this size, each cell by its point
abbrev pub grid_by : Shape → (Point → PatternCell) → Grid
grid_by size f = record {
  cols = cols_of size;
  rows = rows_of size;
  cells = first_cells size f (point_count size);
}

-- The list has a cell for each point of a rectangle of this size, row by row, and the first so many
-- are given by their points.
pub record AreFilledTo (size : Shape) (f : Point → PatternCell) (count : ℕ)
    (cells : List PatternCell) : Type 0 where
  pub all : length cells ≡ point_count size
  pub filled : (k : ℕ) → k < count → slice_index_or cells k cell.Any ≡ f (numbered size k)

-- The steps tell for each point of a rectangle of this size the number of the point that the symmetry
-- moves it to, in the rectangle after the symmetry.
abbrev pub AreStrides : ℕ → Shape → Strides → Type 0
AreStrides n to strides = (p : Point) → IsOnBoard to p →
    (p.y * strides.down + (rows_of to - 1 - p.y) * strides.up) + p.x * strides.forward
    + (cols_of to - 1 - p.x) * strides.backward
    ≡ (moved n to p).y * turned_cols n to + (moved n to p).x

-- what stands in a table for a cell
abbrev pub looked_up : CellTable → PatternCell → PatternCell
looked_up table cell.Empty = slice_index_or table.made 0 cell.Any
looked_up table cell.Black = slice_index_or table.made 1 cell.Any
looked_up table cell.White = slice_index_or table.made 2 cell.Any
looked_up table cell.NotWhite = slice_index_or table.made 3 cell.Any
looked_up table cell.NotBlack = slice_index_or table.made 4 cell.Any
looked_up table cell.Any = slice_index_or table.made 5 cell.Any

-- the table has what the label makes of each cell
abbrev pub IsCellTable : ℕ → CellTable → Type 0
IsCellTable label table = (c : PatternCell) → looked_up table c ≡ labelled_cell label c

-- the upper left point, after a symmetry of the board, of a rectangle of this size that has its
-- upper left point there
abbrev pub upper_left : ℕ → Shape → Shape → Point → Point
upper_left n shape size base =
    if n == 0 then point_of base.x base.y
    else if n == 1 then point_of (cols_of shape - cols_of size - base.x) base.y
    else if n == 2 then point_of base.x (rows_of shape - rows_of size - base.y)
    else if n == 3 then point_of (cols_of shape - cols_of size - base.x)
    (rows_of shape - rows_of size - base.y)
    else if n == 4 then point_of base.y base.x
    else if n == 5 then point_of base.y (cols_of shape - cols_of size - base.x)
    else if n == 6 then point_of (rows_of shape - rows_of size - base.y) base.x
    else point_of (rows_of shape - rows_of size - base.y) (cols_of shape - cols_of size - base.x)
