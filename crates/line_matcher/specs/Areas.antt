-- Rectangles of points where placements can begin to hold: definitions for the private functions.
use Rattle.std.specs.Prelude.{◌≡◌, ℕ, ◌+◌, ◌<◌, ◌≤◌, List, All}
use Rattle.kb_geometry.specs.declared.shape.Shape.{Shape}
use Rattle.kb_geometry.specs.declared.shape.Point.{Point}
use Rattle.kb_geometry.specs.declared.shape.Rect.{Rect}
use Rattle.kb_geometry.specs.declared.stone.Change.{Change}
use Rattle.kb_geometry.specs.Board.{IsInside, IsOnBoard, number_of}

-- the points of the changes lie in the rectangle
abbrev pub HoldsChanges : Shape → List Change → Rect → Type 0
HoldsChanges shape changes r =
    All (λ (c : Change). (p : Point) → IsOnBoard shape p → number_of shape p ≡ c.point →
    IsInside r p) changes

-- the rectangle after holds that before and the point, and reaches no further
pub record IsWidenedBy (before : Rect) (p : Point) (after : Rect) : Type 0 where
  pub kept : (q : Point) → IsInside before q → IsInside after q
  pub point : IsInside after p
  pub columns : (n : ℕ) → before.x1 < n → p.x < n → after.x1 < n
  pub rows : (n : ℕ) → before.y1 < n → p.y < n → after.y1 < n

-- A rectangle of at most so many columns and rows that has a point in common with another one has
-- its upper left point here.
pub record IsReach (into : Rect) (cols rows : ℕ) (r : Rect) : Type 0 where
  pub columns : (x dx : ℕ) → dx < cols → into.x0 ≤ x + dx → x + dx ≤ into.x1 →
      (r.x0 ≤ x) × (x ≤ r.x1)
  pub rows_of_it : (y dy : ℕ) → dy < rows → into.y0 ≤ y + dy → y + dy ≤ into.y1 →
      (r.y0 ≤ y) × (y ≤ r.y1)
  pub right : r.x1 ≡ into.x1
  pub bottom : r.y1 ≡ into.y1
  pub ordered_columns : 1 ≤ cols → r.x0 ≤ r.x1
  pub ordered_rows : 1 ≤ rows → r.y0 ≤ r.y1
