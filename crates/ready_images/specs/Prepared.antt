-- A placement that is looked for.
use Rattle.std.specs.Prelude.{◌≡◌, ℕ, ◌<◌, length}
use Rattle.pattern_images.specs.ImageList.{ImageList, placement_at}
use Rattle.ready_images.specs.Rows.{HasClass}
use Rattle.ready_images.specs.Wants.{base_of}

-- It is the placement of the images with this number, of this class, with its upper left point on the
-- base.
pub record IsPreparedAs (images : ImageList) (number base class : ℕ) : Type 0 where
  pub in_range : number < length images.placements
  pub has : HasClass images number class
  pub at_base : base ≡ base_of images.shape (placement_at images.placements number)
