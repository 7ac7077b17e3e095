-- What contracts see of images that are made ready.
use Rattle.std.specs.Prelude.{ℕ, List}
use Rattle.pattern_images.specs.ImageList.{ImageList}
use Rattle.ready_images.specs.declared.row.Row.{Row}

-- The images, their placements in rows, and the numbers of the placements, one row behind the other.
pub record ReadyList : Type 0 where
  pub images : ImageList
  pub rows : List Row
  pub numbers : List ℕ
