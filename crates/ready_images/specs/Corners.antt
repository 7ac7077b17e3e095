-- The corners of a board that placements cover, and the numbers that their cells have there.
use Prim.Native.Nat.{zero}
use Rattle.std.specs.Prelude.{◌≡◌, ℕ, suc, ◌+◌, ◌-◌, ◌*◌, ◌/◌, ◌%◌, ◌^◌, ◌<◌, ◌≤◌, ◌&&◌, Bool, nat_le, nat_lt, if◌then◌else◌, List, All, Any}
use Rattle.kb_geometry.specs.declared.shape.Shape.{Shape}
use Rattle.kb_geometry.specs.declared.shape.Point.{Point}
use Rattle.kb_geometry.specs.Board.{cols_of, number_of, rows_of}
use Rattle.kb_geometry.specs.Symmetry.{moved, point_of}
use Rattle.pattern_images.specs.declared.cell.PatternCell.{PatternCell}
use Rattle.pattern_images.specs.declared.cell.PatternCell.TheVariants as kind
use Rattle.pattern_images.specs.Grid.{cell_in}
use Rattle.pattern_images.specs.Holds.{number_under}
use Rattle.pattern_images.specs.ImageList.{ImageList, placement_at}
use Rattle.pattern_images.specs.Placements.{Placement}
use Rattle.ready_images.specs.declared.corner_number.CornerNumber.{CornerNumber}

-- A corner has six columns and six rows: a board with a side below 6 has none. Corner 0 is the upper
-- left one, 1 the upper right one, 2 the lower left one and 3 the lower right one.
abbrev pub HasCorners : Shape → Type 0
HasCorners shape = (6 ≤ cols_of shape) × (6 ≤ rows_of shape)

-- The point in this column and row of a corner's frame. The symmetry with the corner's number moves
-- the corner to the upper left, and back.
abbrev pub corner_point : ℕ → Shape → ℕ → ℕ → Point
corner_point corner shape column row = moved corner shape (point_of column row)

-- the pattern's cell is empty, black or white
abbrev pub IsExact : PatternCell → Type 0
IsExact kind.Empty = Unit {0}
IsExact kind.Black = Unit {0}
IsExact kind.White = Unit {0}
IsExact kind.NotWhite = ⊥
IsExact kind.NotBlack = ⊥
IsExact kind.Any = ⊥

-- the placement's cell in column dx and row dy lies on the point in a column and a row of a
-- corner's frame
pub record LiesOn (shape : Shape) (placement : Placement)
    (corner column row dx dy : ℕ) : Type 0 where
  pub in_cols : dx < placement.grid.cols
  pub in_rows : dy < placement.grid.rows
  pub on_point : number_under shape placement dx dy
      ≡ number_of shape (corner_point corner shape column row)

-- the placement covers the corner, with empty, black and white cells alone
abbrev pub CoversCorner : Shape → Placement → ℕ → Type 0
CoversCorner shape placement corner =
    (column row : ℕ) → column < 6 → row < 6 → (dx : ℕ) × (dy : ℕ)
    × LiesOn shape placement corner column row dx dy × IsExact (cell_in placement.grid dx dy)

-- the digit of an empty, black or white cell
abbrev pub digit_of : PatternCell → ℕ
digit_of kind.Empty = 0
digit_of kind.Black = 1
digit_of kind.White = 2
digit_of kind.NotWhite = 0
digit_of kind.NotBlack = 0
digit_of kind.Any = 0

-- the point lies in the placement's rectangle
abbrev pub is_under : Placement → Point → Bool
is_under placement p =
    (nat_le placement.x p.x && nat_lt (p.x - placement.x) placement.grid.cols)
    && (nat_le placement.y p.y && nat_lt (p.y - placement.y) placement.grid.rows)

-- the placement's cell over a point, and a wildcard off its rectangle
abbrev pub cell_over : Placement → Point → PatternCell
cell_over placement p =
    if is_under placement p then cell_in placement.grid (p.x - placement.x) (p.y - placement.y)
    else kind.Any

-- the point on a place of a corner's frame; the places are numbered row by row from 0 to 35
abbrev pub frame_point : ℕ → Shape → ℕ → Point
frame_point corner shape place = corner_point corner shape (place % 6) (place / 6)

-- the placement's cell over a place of a corner's frame
abbrev pub frame_cell : Shape → Placement → ℕ → ℕ → PatternCell
frame_cell shape placement corner place = cell_over placement (frame_point corner shape place)

-- the sum over the first so many places of a corner's frame: the digit of the placement's cell there,
-- times 3 to the power of the place
unfoldable pub number_to : Shape → Placement → ℕ → ℕ → ℕ
number_to shape placement corner zero = 0
number_to shape placement corner (suc k) =
    number_to shape placement corner k + digit_of (frame_cell shape placement corner k) * 3 ^ k

-- The board has the corner, the placement covers it, and the number is the one that it has with the
-- placement's cells.
pub record IsCornerNumber (shape : Shape) (placement : Placement) (corner number : ℕ) : Type 0 where
  pub in_range : corner < 4
  pub sides : HasCorners shape
  pub covers : CoversCorner shape placement corner
  pub is : number ≡ number_to shape placement corner 36

-- the list has exactly the corners of the board that the placement with a number covers, with their
-- numbers
pub record AreCornersOf (images : ImageList) (i : ℕ) (corners : List CornerNumber) : Type 0 where
  pub sound : All (λ (c : CornerNumber). (c.placement ≡ i)
      × IsCornerNumber images.shape (placement_at images.placements i) c.corner c.number) corners
  pub complete : (corner : ℕ) → corner < 4 → HasCorners images.shape →
      CoversCorner images.shape (placement_at images.placements i) corner →
      Any (λ (c : CornerNumber). c.corner ≡ corner) corners
