-- How the corners that placements cover are listed: definitions for private functions.
use Rattle.std.specs.Prelude.{◌≡◌, ◌⊎◌, ℕ, ◌<◌, List, length, slice_index_or, All, AllPairs, Any}
use Rattle.kb_geometry.specs.declared.shape.Shape.{Shape}
use Rattle.pattern_images.specs.ImageList.{ImageList, placement_at}
use Rattle.pattern_images.specs.Placements.{Placement}
use Rattle.ready_images.specs.declared.corner_number.CornerNumber.{CornerNumber}
use Rattle.ready_images.specs.Corners.{CoversCorner, HasCorners, IsCornerNumber, IsExact, frame_cell, number_to}

-- The placement has an empty, black or white cell over each of the first places of the corner's
-- frame, and the number is the sum over these.
pub record IsNumberTo (shape : Shape) (placement : Placement) (corner count number : ℕ) : Type 0 where
  pub exact : (k : ℕ) → k < count → IsExact (frame_cell shape placement corner k)
  pub is : number ≡ number_to shape placement corner count

-- a corner of one placement, and another corner of this placement with a greater number, or a corner
-- of a placement with a greater number
abbrev pub StandsBefore : CornerNumber → CornerNumber → Type 0
StandsBefore a b = (a.placement < b.placement)
    ⊎ ((a.placement ≡ b.placement) × (a.corner < b.corner))

-- it is one of a placement before this one, or of this one a corner before this one
abbrev pub IsBefore : (count next : ℕ) → (i corner : ℕ) → Type 0
IsBefore count next i corner = (i < count) ⊎ ((i ≡ count) × (corner < next))

-- it is of a placement of the images
pub record IsCornerOf (images : ImageList) (c : CornerNumber) : Type 0 where
  pub in_range : c.placement < length images.placements
  pub is : IsCornerNumber images.shape (placement_at images.placements c.placement) c.corner c.number

-- it is this corner of this placement
abbrev pub IsOf : (i corner : ℕ) → CornerNumber → Type 0
IsOf i corner c = (c.placement ≡ i) × (c.corner ≡ corner)

-- The list has exactly the corners that the first so many placements cover, and of the next one those
-- before a corner, with their numbers, in order.
pub record AreCornersTo (images : ImageList) (count next : ℕ) (corners : List CornerNumber) : Type 0 where
  pub sound : All (IsCornerOf images) corners
  pub before : All (λ (c : CornerNumber). IsBefore count next c.placement c.corner) corners
  pub complete : (i corner : ℕ) → IsBefore count next i corner → corner < 4 →
      HasCorners images.shape →
      CoversCorner images.shape (placement_at images.placements i) corner → Any (IsOf i corner) corners
  pub ordered : AllPairs StandsBefore corners

-- no corner
abbrev pub no_corner : CornerNumber
no_corner = record { placement = 0; corner = 0; number = 0 }

-- the corner at a place of the list
abbrev pub corner_at : List CornerNumber → ℕ → CornerNumber
corner_at corners k = slice_index_or corners k no_corner
