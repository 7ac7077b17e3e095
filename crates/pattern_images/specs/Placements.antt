-- The placements of a query on a board: where its pattern may stand, moved by a symmetry and
-- perhaps with the colours exchanged, each placement once.
use Rattle.std.specs.Prelude.{◌≡◌, ℕ, ◌+◌, ◌*◌, ◌<◌, ◌≤◌, ◌⊎◌, ◌↔◌, List, length, All, Any, AllPairs}
use Rattle.kb_geometry.specs.declared.shape.Shape.{Shape}
use Rattle.kb_geometry.specs.declared.shape.Point.{Point}
use Rattle.kb_geometry.specs.Symmetry.{moved, point_of, symmetry_of}
use Rattle.pattern_images.specs.declared.query.Query.{Query}
use Rattle.pattern_images.specs.Grid.{Grid, cell_in, labelled_cell}
use Rattle.pattern_images.specs.Pattern.{grid_of}
use Rattle.pattern_images.specs.Query.{IsForBoard, IsLabelOf, IsBasePlace}

-- A rectangle of a board with one pattern cell for each of its points: its upper left point, its
-- size and its cells. It carries the number of a label that gives it.
pub record Placement : Type 0 where
  pub label : ℕ
  pub x : ℕ
  pub y : ℕ
  pub grid : Grid

-- the point lies in the rectangle
abbrev pub Covers : Placement → Point → Type 0
Covers placement q =
    (placement.x ≤ q.x) × (q.x < placement.x + placement.grid.cols) × (placement.y ≤ q.y)
    × (q.y < placement.y + placement.grid.rows)

-- where a label moves the point in column dx and row dy of the pattern that stands at a base place
abbrev pub image_point : Shape → ℕ → Point → ℕ → ℕ → Point
image_point shape label base dx dy = moved (symmetry_of label) shape (point_of (base.x + dx)
    (base.y + dy))

-- a label moves some point of the pattern that stands at a base place to this point
abbrev pub IsImagePoint : Query → Shape → ℕ → Point → Point → Type 0
IsImagePoint query shape label base q =
    (dx : ℕ) × (dy : ℕ) × (dx < (grid_of query.pattern).cols) × (dy < (grid_of query.pattern).rows)
    × (image_point shape label base dx dy ≡ q)

-- The placement is what its label makes of the pattern that stands at a base place. Its rectangle
-- is the set of the images of the pattern's points, and each image carries the cell of its point,
-- with the colours exchanged if the label exchanges them.
pub record IsImage (query : Query) (shape : Shape) (base : Point)
    (placement : Placement) : Type 0 where
  pub points : (q : Point) → Covers placement q ↔ IsImagePoint query shape placement.label base q
  pub count : length placement.grid.cells ≡ placement.grid.cols * placement.grid.rows
  pub cells : (dx dy ex ey : ℕ) → dx < (grid_of query.pattern).cols →
      dy < (grid_of query.pattern).rows →
      image_point shape placement.label base dx dy
      ≡ point_of (placement.x + ex) (placement.y + ey) →
      cell_in placement.grid ex ey
      ≡ labelled_cell placement.label (cell_in (grid_of query.pattern) dx dy)

-- The placement is what its label, one of the query's, makes of the pattern at some base place.
pub record IsResult (query : Query) (shape : Shape) (placement : Placement) : Type 0 where
  pub board : IsForBoard query shape
  pub label : IsLabelOf query shape placement.label
  pub base : Point
  pub at_base : IsBasePlace query shape base
  pub image : IsImage query shape base placement

-- two results are one placement: they have the upper left point, the size and the cells in common
pub record IsSame (a b : Placement) : Type 0 where
  pub column : a.x ≡ b.x
  pub row : a.y ≡ b.y
  pub grid : a.grid ≡ b.grid

-- the order of placements: by row, then by column, then by label
abbrev pub IsBefore : Placement → Placement → Type 0
IsBefore a b = (a.y < b.y) ⊎ ((a.y ≡ b.y) × ((a.x < b.x) ⊎ ((a.x ≡ b.x) × (a.label < b.label))))

-- The list has each result of the query on the board once, under the least label that gives it, in
-- order.
pub record ArePlacements (query : Query) (shape : Shape)
    (placements : List Placement) : Type 0 where
  pub complete : (result : Placement) → IsResult query shape result → Any (IsSame result) placements
  pub sound : All (IsResult query shape) placements
  pub least : All (λ placement. (result : Placement) → IsResult query shape result →
      IsSame placement result → placement.label ≤ result.label) placements
  pub distinct : AllPairs (λ a b. ¬ IsSame a b) placements
  pub ordered : AllPairs IsBefore placements
