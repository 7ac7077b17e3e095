-- What contracts see of the images of a query.
use Rattle.std.specs.Prelude.{
  ◌≡◌,
  ℕ,
  ◌+◌,
  ◌<◌,
  ◌≤◌,
  List,
  [],
  length,
  slice_index_or,
  All,
  AllPairs,
  Contains,
}
use Rattle.kb_geometry.specs.declared.shape.Shape.{Shape}
use Rattle.kb_geometry.specs.Board.{cols_of, rows_of}
use Rattle.kb_geometry.specs.Symmetry.{number_of_label}
use Rattle.pattern_images.specs.declared.hit.Place.{Place}
use Rattle.pattern_images.specs.Grid.{Grid}
use Rattle.pattern_images.specs.Placements.{Placement, IsBefore}

-- The shape of the board, the rectangles of cells that the placements have, and the placements.
pub record ImageList : Type 0 where
  pub shape : Shape
  pub grids : List Grid
  pub placements : List Placement

-- no cell at all
abbrev pub no_grid : Grid
no_grid = record { cols = 0; rows = 0; cells = [] }

-- the rectangle of cells with this number
abbrev pub grid_at : List Grid → ℕ → Grid
grid_at grids k = slice_index_or grids k no_grid

-- no two rectangles of cells are one: two of them differ in their size or in some cell
abbrev pub AreDistinct : List Grid → Type 0
AreDistinct grids =
    (i j : ℕ) → i < length grids → j < length grids → grid_at grids i ≡ grid_at grids j → i ≡ j

-- no placement at all
abbrev pub no_placement : Placement
no_placement = record { label = 0; x = 0; y = 0; grid = no_grid }

-- the placement with this number
abbrev pub placement_at : List Placement → ℕ → Placement
placement_at placements i = slice_index_or placements i no_placement

-- the place is that of the placement: its upper left point, its size and its label
pub record IsPlaceOf (placement : Placement) (place : Place) : Type 0 where
  pub column : place.x ≡ placement.x
  pub row : place.y ≡ placement.y
  pub columns : place.cols ≡ placement.grid.cols
  pub rows : place.rows ≡ placement.grid.rows
  pub label : number_of_label place.label ≡ placement.label

-- the placement's rectangle has a point and lies on the board
pub record IsPlacedOn (shape : Shape) (placement : Placement) : Type 0 where
  pub some_column : 1 ≤ placement.grid.cols
  pub some_row : 1 ≤ placement.grid.rows
  pub columns : placement.x + placement.grid.cols ≤ cols_of shape
  pub rows : placement.y + placement.grid.rows ≤ rows_of shape

-- The placements lie on the board, in order, and have labels; the cells of each are one of the
-- rectangles of cells, of which no two are one.
pub record AreImages (images : ImageList) : Type 0 where
  pub placed : All (IsPlacedOn images.shape) images.placements
  pub labels : All (λ (p : Placement). p.label < 16) images.placements
  pub ordered : AllPairs IsBefore images.placements
  pub classes : All (λ (p : Placement). Contains images.grids p.grid) images.placements
  pub different : AreDistinct images.grids
