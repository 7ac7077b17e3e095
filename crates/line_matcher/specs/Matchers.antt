-- What a matcher keeps of the images that it was made for.
use Rattle.std.specs.Prelude.{ℕ, ◌<◌, ◌≤◌, List, length, All}
use Rattle.pattern_images.specs.Grid.{Grid}
use Rattle.pattern_images.specs.ImageList.{ImageList, IsPlacedOn, grid_at}
use Rattle.line_matcher.specs.declared.mask.RowMask.{RowMask}
use Rattle.line_matcher.specs.declared.matcher.Size.{Size}
use Rattle.line_matcher.specs.GridRows.{AreGridRows}
use Rattle.line_matcher.specs.Begins.{AreStarts}

-- no rectangle of cells has more columns, and none has more rows
pub record AreMost (grids : List Grid) (most : Size) : Type 0 where
  pub some_column : 1 ≤ most.cols
  pub some_row : 1 ≤ most.rows
  pub columns : (k : ℕ) → k < length grids → (grid_at grids k).cols ≤ most.cols
  pub rows : (k : ℕ) → k < length grids → (grid_at grids k).rows ≤ most.rows

-- The placements lie on the board, and kept are the rows of the rectangles of cells, the placements
-- by their upper left points, and the greatest size.
pub record IsMatcherOf (images : ImageList) (rows : List (List RowMask)) (starts : List ℕ)
    (most : Size) : Type 0 where
  pub placed : All (IsPlacedOn images.shape) images.placements
  pub rows_are : AreGridRows images.grids rows
  pub starts_are : AreStarts images.shape images.placements starts
  pub most_are : AreMost images.grids most
