-- Stored places as placements.
use Rattle.std.proofs.Common.{◌<◌, List, get_or, map}
use Rattle.std.specs.Prelude.{Contains}
use Rattle.std.proofs.lemmas.List.{get_or_default}
use Rattle.std.proofs.lemmas.List.Elements.{All-map, All-weaker}
use Rattle.kb_geometry.specs.declared.shape.Shape.{Shape}
use Rattle.pattern_images.specs.declared.listing.StoredPlace.{StoredPlace}
use Rattle.pattern_images.specs.Grid.{Grid}
use Rattle.pattern_images.specs.ImageList.{AreImages, IsPlacedOn, no_grid}
use Rattle.pattern_images.specs.Listing.{AreStoredOn, IsStoredOn, placement_in}
use Rattle.pattern_images.specs.Placements.{Placement}

-- the places lie on the board, in order, have labels, and each has one of the rectangles of cells
pub AreImages-stored : (shape : Shape) (grids : List Grid) (stored : List StoredPlace) →
    AreStoredOn shape grids stored →
    AreImages (record { shape = shape; grids = grids; placements = map (placement_in grids) stored })
AreImages-stored shape grids stored are = record {
  placed = All-map (IsPlacedOn shape) (placement_in grids) stored
      (All-weaker (IsStoredOn shape grids) (λ s. IsPlacedOn shape (placement_in grids s)) (λ s h. h.1)
      stored are.each);
  labels = All-map (λ (p : Placement). p.label < 16) (placement_in grids) stored
      (λ i default lt. (get_or stored i default).label.in_range);
  ordered = are.ordered;
  classes = All-map (λ (p : Placement). Contains grids p.grid) (placement_in grids) stored
      (All-weaker (IsStoredOn shape grids) (λ s. Contains grids (get_or grids s.class no_grid))
      (λ s h. (s.class, h.0, get_or_default grids s.class (get_or grids s.class no_grid) no_grid h.0))
      stored are.each);
  different = are.different;
}
