-- The corners of a board, and the number that tells the cells of a corner.
use Prim.Native.Nat.{zero}
use Rattle.std.specs.Prelude.{◌≡◌, ℕ, suc, ◌+◌, ◌*◌, ◌^◌, ◌<◌, ◌≤◌, ◌↔◌, List, [], slice_index_or, Contains}
use Rattle.kb_geometry.specs.declared.shape.Shape.{Shape}
use Rattle.kb_geometry.specs.declared.stone.Cell.{Cell}
use Rattle.kb_geometry.specs.declared.stone.Cell.TheVariants as cell
use Rattle.kb_geometry.specs.Board.{cols_of, number_of, rows_of}
use Rattle.kb_geometry.specs.Capture.{Position, cell_at}
use Rattle.kb_geometry.specs.Symmetry.{moved, point_of}
use Rattle.capture_board.specs.Deltas.{Deltas, node_count, position_at}

-- A corner has six columns and six rows: a board with a side below 6 has none. Corner 0 is the
-- upper left one, 1 the upper right one, 2 the lower left one and 3 the lower right one.
abbrev pub HasCorners : Shape → Type 0
HasCorners shape = (6 ≤ cols_of shape) × (6 ≤ rows_of shape)

-- The point in this column and row of a corner's frame, by its number on the board. The symmetry
-- with the corner's number moves the corner to the upper left, and back.
abbrev pub point_in_frame : ℕ → Shape → ℕ → ℕ → ℕ
point_in_frame corner shape column row =
    number_of shape (moved corner shape (point_of column row))

-- the digit of a cell
abbrev pub digit_of : Cell → ℕ
digit_of cell.Empty = 0
digit_of cell.Black = 1
digit_of cell.White = 2

-- the sum of what a function gives at each number below the count
abbrev pub sum_below : ℕ → (ℕ → ℕ) → ℕ
sum_below zero f = 0
sum_below (suc n) f = sum_below n f + f n

-- what the cell in this column and row of a corner's frame adds to the corner's number
abbrev pub term_of : ℕ → Shape → Position → ℕ → ℕ → ℕ
term_of corner shape position column row =
    digit_of (cell_at position (point_in_frame corner shape column row)) * 3 ^ (6 * row + column)

-- the number of a corner of a position: the sum over its columns and rows
unfoldable pub corner_number : ℕ → Shape → Position → ℕ
corner_number corner shape position =
    sum_below 6 (λ row. sum_below 6 (λ column. term_of corner shape position column row))

-- the numbers of a corner, of those of all corners
abbrev pub keys_of : List (List ℕ) → ℕ → List ℕ
keys_of keys corner = slice_index_or keys corner []

-- the corner had this number at some node
abbrev pub HadNumber : Deltas → ℕ → ℕ → Type 0
HadNumber deltas corner key = HasCorners deltas.shape × ((n : ℕ) × (n < node_count deltas)
    × (corner_number corner deltas.shape (position_at deltas n) ≡ key))

-- the numbers are exactly those that each corner had
abbrev pub AreNumbersOfGame : Deltas → List (List ℕ) → Type 0
AreNumbersOfGame deltas keys = (corner : ℕ) → corner < 4 → (key : ℕ) →
    Contains (keys_of keys corner) key ↔ HadNumber deltas corner key
