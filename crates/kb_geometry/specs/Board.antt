-- Shapes, points and rectangles: which lie on a board, the numbers of points, and which points are
-- neighbours.
use Rattle.std.specs.Prelude.{◌≡◌, ℕ, ◌+◌, ◌*◌, ◌<◌, ◌≤◌, ◌⊎◌}
use Rattle.kb_geometry.specs.declared.shape.Shape.{Shape}
use Rattle.kb_geometry.specs.declared.shape.Point.{Point}
use Rattle.kb_geometry.specs.declared.shape.Rect.{Rect}

-- how many columns a board has
abbrev pub cols_of : Shape → ℕ
cols_of shape = shape.cols

-- how many rows a board has
abbrev pub rows_of : Shape → ℕ
rows_of shape = shape.rows

-- how many points a board has
abbrev pub point_count : Shape → ℕ
point_count shape = cols_of shape * rows_of shape

-- the point lies on the board
abbrev pub IsOnBoard : Shape → Point → Type 0
IsOnBoard shape p = (p.x < cols_of shape) × (p.y < rows_of shape)

-- the rectangle lies on the board, and its first corner is the upper left one
abbrev pub IsOrderedRectOnBoard : Shape → Rect → Type 0
IsOrderedRectOnBoard shape r =
    (r.x0 ≤ r.x1) × (r.y0 ≤ r.y1) × (r.x1 < cols_of shape) × (r.y1 < rows_of shape)

-- the point lies in the rectangle, to which both corners belong
abbrev pub IsInside : Rect → Point → Type 0
IsInside r p = (r.x0 ≤ p.x) × (p.x ≤ r.x1) × (r.y0 ≤ p.y) × (p.y ≤ r.y1)

-- the number of a point: row by row from the upper left
abbrev pub number_of : Shape → Point → ℕ
number_of shape p = p.y * cols_of shape + p.x

-- one step left, right, up or down
abbrev pub IsOneStep : Point → Point → Type 0
IsOneStep p q = ((p.y ≡ q.y) × ((p.x + 1 ≡ q.x) ⊎ (q.x + 1 ≡ p.x)))
    ⊎ ((p.x ≡ q.x) × ((p.y + 1 ≡ q.y) ⊎ (q.y + 1 ≡ p.y)))

-- Two points of the board, by their numbers, are neighbours if one step leads from one to the
-- other.
pub record AreNeighbours (shape : Shape) (p q : ℕ) : Type 0 where
  pub from : Point
  pub to : Point
  pub from_on_board : IsOnBoard shape from
  pub to_on_board : IsOnBoard shape to
  pub from_number : number_of shape from ≡ p
  pub to_number : number_of shape to ≡ q
  pub one_step : IsOneStep from to
