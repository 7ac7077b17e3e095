-- What the calls find: occurrences, each as its node and its place.
use Rattle.std.specs.Prelude.{◌≡◌, ℕ, ◌<◌, List, length, slice_index_or}
use Rattle.pattern_images.specs.declared.hit.Found.{Found}
use Rattle.pattern_images.specs.ImageList.{IsPlaceOf, placement_at}
use Rattle.pattern_images.specs.Placements.{Placement}
use Rattle.pattern_occurrences.specs.declared.occurrence.Occurrence.{Occurrence}

-- what was found is this occurrence
pub record IsOccurrence (placements : List Placement) (occurrence : Occurrence)
    (found : Found) : Type 0 where
  pub node : found.node ≡ occurrence.node
  pub place : IsPlaceOf (placement_at placements occurrence.placement) found.place

-- what was found is these occurrences, one for one and in order
pub record AreFound (placements : List Placement) (occurrences : List Occurrence)
    (found : List Found) : Type 0 where
  pub same_length : length found ≡ length occurrences
  pub each : (k : ℕ) (o : Occurrence) (f : Found) → k < length occurrences →
      IsOccurrence placements (slice_index_or occurrences k o) (slice_index_or found k f)
