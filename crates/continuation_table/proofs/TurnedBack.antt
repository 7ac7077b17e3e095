-- The point of the pattern's own frame, as the code finds it.
use Rattle.std.proofs.Common.{◌≡◌, ℕ, ◌-◌, ap, ◌∙◌}
use Rattle.kb_geometry.specs.declared.shape.Shape.{Shape}
use Rattle.kb_geometry.specs.declared.shape.Point.{Point}
use Rattle.kb_geometry.specs.Board.{cols_of, rows_of}
use Rattle.kb_geometry.specs.Symmetry.{inverse_number, moved, number_of_label, point_of, symmetry_of}
use Rattle.pattern_images.specs.declared.hit.Place.{Place}
use Rattle.pattern_images.specs.ImageList.{IsPlaceOf}
use Rattle.pattern_images.specs.Placements.{Placement}
use Rattle.continuation_table.specs.Continuation.{IsTurnedBack}

pub IsTurnedBack-from : (placement : Placement) (place : Place) → IsPlaceOf placement place →
    (point own : Point) (size : Shape) (symmetry inverse : ℕ) →
    cols_of size ≡ placement.grid.cols → rows_of size ≡ placement.grid.rows →
    symmetry ≡ symmetry_of (number_of_label place.label) → inverse ≡ inverse_number symmetry →
    own ≡ moved inverse size (point_of (point.x - place.x) (point.y - place.y)) →
    IsTurnedBack placement point own
IsTurnedBack-from placement place is point own size symmetry inverse cols rows symmetry_is inverse_is own_is =
    let back : ℕ = inverse_number (symmetry_of placement.label) in
    let same : inverse ≡ back = inverse_is ∙ ap inverse_number (symmetry_is ∙ ap symmetry_of is.label) in
    record {
      size = size;
      columns = cols;
      rows = rows;
      turned = own_is
          ∙ ap (λ n. moved n size (point_of (point.x - place.x) (point.y - place.y))) same
          ∙ ap (λ x. moved back size (point_of (point.x - x) (point.y - place.y))) is.column
          ∙ ap (λ y. moved back size (point_of (point.x - placement.x) (point.y - y))) is.row;
    }
