-- What is kept of images that are made ready.
use Rattle.std.specs.Prelude.{ℕ, ◌≡◌, ◌<◌, ◌≤◌, All, List, length}
use Rattle.pattern_images.specs.ImageList.{AreImages, ImageList, grid_at}
use Rattle.ready_images.specs.declared.corner_number.CornerNumber.{CornerNumber}
use Rattle.ready_images.specs.declared.pair.Pair.{Pair}
use Rattle.ready_images.specs.declared.row.Row.{Row}
use Rattle.ready_images.specs.declared.want.Want.{Want}
use Rattle.ready_images.specs.declared.want_lists.ClassRange.{ClassRange}
use Rattle.ready_images.specs.Pairs.{IsPairIn, pairs_at}
use Rattle.ready_images.specs.Rows.{AreRowsOf}
use Rattle.ready_images.specs.StoredCorners.{AreCornersTo}
use Rattle.ready_images.specs.StoredWants.{HaveWantsTo}

-- there is a list for each class of the images, of pairs of its cells
pub record ArePairsOf (images : ImageList) (pairs : List (List Pair)) : Type 0 where
  pub count : length pairs ≡ length images.grids
  pub each : (c : ℕ) → c < length images.grids →
      All (IsPairIn images.shape (grid_at images.grids c)) (pairs_at pairs c)

-- The lists are those of the images: what each class asks of points, its stones beside empty cells, the
-- placements in rows, and the corners that these cover.
pub record AreStored (images : ImageList) (classes : List ClassRange) (wants : List Want)
    (pairs : List (List Pair)) (rows : List Row) (numbers : List ℕ) (corners : List CornerNumber) : Type 0 where
  pub are : AreImages images
  pub few : length images.placements ≤ 65536
  pub few_classes : length images.grids ≤ 16
  pub wanted : HaveWantsTo images.shape images.grids (length images.grids) classes wants
  pub paired : ArePairsOf images pairs
  pub in_rows : AreRowsOf images numbers rows
  pub covered : AreCornersTo images (length images.placements) 0 corners
