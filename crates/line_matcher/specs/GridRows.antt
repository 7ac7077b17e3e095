-- The rows of rectangles of cells: definitions for the private functions that make them.
use Rattle.std.specs.Prelude.{◌≡◌, ℕ, ◌<◌, ◌++◌, List, [], length, slice_index_or}
use Rattle.pattern_images.specs.Grid.{Grid}
use Rattle.pattern_images.specs.ImageList.{grid_at}
use Rattle.line_matcher.specs.declared.mask.RowMask.{RowMask}
use Rattle.line_matcher.specs.Masks.{AreRowsOf}

-- the rows of each rectangle, by the numbers of the rectangles
pub record AreGridRows (grids : List Grid) (lists : List (List RowMask)) : Type 0 where
  pub count : length lists ≡ length grids
  pub each : (k : ℕ) → k < length grids → AreRowsOf (grid_at grids k) (slice_index_or lists k [])

-- the rows of a rectangle come behind those that were there
pub record HaveRowsOf (grid : Grid) (before after : List RowMask) : Type 0 where
  pub rows : List RowMask
  pub added : after ≡ before ++ rows
  pub are : AreRowsOf grid rows
