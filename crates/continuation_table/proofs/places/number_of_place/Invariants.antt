use Rattle.std.proofs.Common.{ℕ, ◌-◌, ◌<◌, ◌≤◌, length}
use Rattle.pattern_images.specs.declared.hit.Place.{Place}
use Rattle.pattern_images.specs.ImageList.{IsPlaceOf, placement_at}
use Rattle.continuation_table.specs.Places.{IsPlaceBefore}
use Rattle.continuation_table.proofs.places.number_of_place.Given as goal

abbrev pub invariant-loop-from : goal.invariant-loop-from
invariant-loop-from l = record {
  ordered : l.from ≤ l.to;
  within : l.to ≤ length l.images.placements;
  between : (i : ℕ) → i < length l.images.placements → IsPlaceOf (placement_at l.images.placements i) l.place → (l.from ≤ i) × (i ≤ l.to);
  before : (i : ℕ) (other : Place) → i < l.from → IsPlaceOf (placement_at l.images.placements i) other → IsPlaceBefore other l.place;
  behind : (i : ℕ) (other : Place) → l.to ≤ i → i < length l.images.placements → IsPlaceOf (placement_at l.images.placements i) other → ¬ IsPlaceBefore other l.place;
}

abbrev pub decreases-loop-from : goal.decreases-loop-from
decreases-loop-from l = l.to - l.from
