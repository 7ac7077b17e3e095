-- Positions and the capture rule of Go, by walks over neighbours and whole lists of cells.
use Rattle.std.specs.Prelude.{◌≡◌, ℕ, ◌%◌, ◌/◌, ◌&&◌, nat_le, Bool, if◌then◌else◌, List, length, map, slice_index_or, slice_set, replicate, Option, Some, None}
use Rattle.std.specs.List.{range_with_len}
use Rattle.kb_geometry.specs.declared.shape.Shape.{Shape}
use Rattle.kb_geometry.specs.declared.shape.Point.{Point}
use Rattle.kb_geometry.specs.declared.shape.Rect.{Rect}
use Rattle.kb_geometry.specs.declared.stone.Cell.{Cell}
use Rattle.kb_geometry.specs.declared.stone.Cell.TheVariants as cell
use Rattle.kb_geometry.specs.declared.stone.Colour.{Colour}
use Rattle.kb_geometry.specs.declared.stone.Colour.TheVariants as colour
use Rattle.kb_geometry.specs.Board.{AreNeighbours, cols_of, number_of, point_count}

-- A position is the list of the cells of all points, by their numbers.
abbrev pub Position : Type 0
Position = List Cell

-- the board without a stone
abbrev pub empty_board : Shape → Position
empty_board shape = replicate (point_count shape) cell.Empty

-- what stands on a point
abbrev pub cell_at : Position → ℕ → Cell
cell_at position p = slice_index_or position p cell.Empty

-- the stone of a side
abbrev pub stone_of : Colour → Cell
stone_of colour.Black = cell.Black
stone_of colour.White = cell.White

-- the other side
abbrev pub other_side : Colour → Colour
other_side colour.Black = colour.White
other_side colour.White = colour.Black

-- a walk over neighbours, every point of it with this cell
pub data Walk (shape : Shape) (position : Position) (stone : Cell) : ℕ → ℕ → Type 0 where
  stay : {p : ℕ} → cell_at position p ≡ stone → Walk shape position stone p p
  go : {p q r : ℕ} → Walk shape position stone p q → AreNeighbours shape q r →
      cell_at position r ≡ stone → Walk shape position stone p r

-- q belongs to the group of p: a walk over points with the cell of p leads from p to q
abbrev pub IsInGroup : Shape → Position → ℕ → ℕ → Type 0
IsInGroup shape position p q = Walk shape position (cell_at position p) p q

-- a liberty of the group of p: an empty neighbour of a member
pub record HasLiberty (shape : Shape) (position : Position) (p : ℕ) : Type 0 where
  pub member : ℕ
  pub liberty : ℕ
  pub in_group : IsInGroup shape position p member
  pub neighbour : AreNeighbours shape member liberty
  pub empty : cell_at position liberty ≡ cell.Empty

-- after is before without the stones on the points that are taken
pub record IsWithout (taken : ℕ → Type 0) (before after : Position) : Type 0 where
  pub same_length : length after ≡ length before
  pub gone : (q : ℕ) → taken q → cell_at after q ≡ cell.Empty
  pub kept : (q : ℕ) → ¬ taken q → cell_at after q ≡ cell_at before q

-- q is a stone of this side in a group that touches the point and has no liberty
pub record IsCaptured (shape : Shape) (position : Position) (side : Colour)
    (point q : ℕ) : Type 0 where
  pub touching : ℕ
  pub neighbour : AreNeighbours shape point touching
  pub stone : cell_at position touching ≡ stone_of side
  pub in_group : IsInGroup shape position touching q
  pub surrounded : ¬ HasLiberty shape position touching

-- q is in the group of the point, which has no liberty
pub record IsSuicide (shape : Shape) (position : Position) (point q : ℕ) : Type 0 where
  pub in_group : IsInGroup shape position point q
  pub surrounded : ¬ HasLiberty shape position point

-- The capture rule. The point gets a stone of the side, whatever stood there. Then the groups of
-- the other side that touch the point and have no liberty are removed, then the group of the point
-- if it has no liberty.
pub record IsPlayed (shape : Shape) (before : Position) (side : Colour) (point : ℕ)
    (after : Position) : Type 0 where
  pub between : Position
  pub captures : IsWithout (IsCaptured shape (slice_set before point (stone_of side))
      (other_side side) point) (slice_set before point (stone_of side)) between
  pub suicide : IsWithout (IsSuicide shape between point) between after

-- the position after a move by the capture rule; a pass changes nothing
abbrev pub IsMovePlayed : Shape → Position → Colour → Option Point → Position → Type 0
IsMovePlayed shape before side None after = after ≡ before
IsMovePlayed shape before side (Some p) after = IsPlayed shape before side (number_of shape p) after

-- the point with this number lies in the rectangle
abbrev pub is_inside : Shape → Rect → ℕ → Bool
is_inside shape r p = (nat_le r.x0 (p % cols_of shape)) && (nat_le (p % cols_of shape) r.x1)
    && (nat_le r.y0 (p / cols_of shape)) && (nat_le (p / cols_of shape) r.y1)

-- The rule of setup. Each point of the rectangle gets the cell, and nothing is captured.
abbrev pub with_rect : Shape → Position → Cell → Rect → Position
with_rect shape position stone r = map
    (λ p. if is_inside shape r p then stone else cell_at position p)
    (range_with_len 0 (point_count shape))
