-- Where a text ends.
use Rattle.std.proofs.Common.{◌≡◌, refl}
use Rattle.sgf_reader.specs.declared.place.Phase as phases
use Rattle.sgf_reader.specs.declared.place.Place as places
use Rattle.sgf_reader.specs.declared.place.Place.TheVariants as stands
use Rattle.sgf_reader.specs.Reading.{IsPlaceOutside}

-- a place that isn't within a tree is outside
pub outside_from_not : (now : places.Place) → ((phase : phases.Phase) → now ≡ stands.Within phase → ⊥) → IsPlaceOutside now
outside_from_not stands.Outside h = tt
outside_from_not (stands.Before from) h = tt
outside_from_not (stands.Within phase) h = h phase refl
