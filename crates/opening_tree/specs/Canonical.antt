-- The images of a position under the symmetries of its board, and the least of them: the canonical
-- position. Positions that differ by a symmetry alone have one canonical position.
use Rattle.std.specs.Prelude.{◌≡◌, ℕ, ◌<◌, length}
use Rattle.kb_geometry.specs.declared.shape.Shape.{Shape}
use Rattle.kb_geometry.specs.declared.shape.Point.{Point}
use Rattle.kb_geometry.specs.declared.stone.Cell.{Cell}
use Rattle.kb_geometry.specs.declared.stone.Cell.TheVariants as cell
use Rattle.kb_geometry.specs.Board.{IsOnBoard, number_of, point_count}
use Rattle.kb_geometry.specs.Capture.{Position, cell_at}
use Rattle.kb_geometry.specs.Symmetry.{IsAllowed, moved}

-- The symmetry with a number, which the board allows, brings a position to its image: what stands
-- on a point stands, in the image, where the symmetry moves the point.
pub record Brings (shape : Shape) (number : ℕ) (position image : Position) : Type 0 where
  pub is_symmetry : number < 8
  pub is_allowed : IsAllowed number shape
  pub each_point : length image ≡ point_count shape
  pub is_moved : (p : Point) →
      IsOnBoard shape p →
      cell_at image (number_of shape (moved number shape p)) ≡ cell_at position (number_of shape p)

-- an image of a position: under one of the symmetries that the board allows
abbrev pub IsPositionImage : Shape → Position → Position → Type 0
IsPositionImage shape position image = (number : ℕ) × Brings shape number position image

-- the order of cells: empty before black before white
abbrev pub rank_of : Cell → ℕ
rank_of cell.Empty = 0
rank_of cell.Black = 1
rank_of cell.White = 2

-- One position comes before another: at the first point, by its number, at which they differ, its
-- cell comes before that of the other.
pub record IsBefore (one other : Position) : Type 0 where
  pub point : ℕ
  pub same_before : (p : ℕ) → p < point → cell_at one p ≡ cell_at other p
  pub less_there : rank_of (cell_at one point) < rank_of (cell_at other point)

-- The canonical position of a position: one of its images, and no image comes before it.
pub record IsCanonicalPosition (shape : Shape) (position canonical : Position) : Type 0 where
  pub is_image : IsPositionImage shape position canonical
  pub is_least : (image : Position) →
      IsPositionImage shape position image →
      ¬ IsBefore image canonical
