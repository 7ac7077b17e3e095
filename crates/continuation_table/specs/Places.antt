-- The order of places, and the number of a place among placements.
use Rattle.std.specs.Prelude.{◌≡◌, ℕ, ◌<◌, ◌≤◌, ◌⊎◌, List, length}
use Rattle.kb_geometry.specs.Symmetry.{number_of_label}
use Rattle.pattern_images.specs.declared.hit.Place.{Place}
use Rattle.pattern_images.specs.ImageList.{IsPlaceOf, placement_at}
use Rattle.pattern_images.specs.Placements.{Placement}

-- the order of places: by row, then by column, then by label
abbrev pub IsPlaceBefore : Place → Place → Type 0
IsPlaceBefore a b = (a.y < b.y)
    ⊎ ((a.y ≡ b.y) × ((a.x < b.x)
    ⊎ ((a.x ≡ b.x) × (number_of_label a.label < number_of_label b.label))))

-- The placements whose place comes before this one are the first so many.
pub record AreBeforePlace (placements : List Placement) (place : Place) (count : ℕ) : Type 0 where
  pub most : count ≤ length placements
  pub before : (i : ℕ) (other : Place) → i < count → IsPlaceOf (placement_at placements i) other →
      IsPlaceBefore other place
  pub from : (i : ℕ) (other : Place) → count ≤ i → i < length placements →
      IsPlaceOf (placement_at placements i) other → ¬ IsPlaceBefore other place
