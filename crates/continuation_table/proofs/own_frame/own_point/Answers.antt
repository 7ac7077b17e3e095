use Rattle.std.proofs.Common.{ap, ◌∙◌}
use Rattle.kb_geometry.specs.Symmetry.{number_of_symmetry, point_of}
use Rattle.pattern_images.specs.Grid.{Grid}
use Rattle.pattern_images.specs.ImageList.{placement_at}
use Rattle.continuation_table.proofs.TurnedBack.{IsTurnedBack-from}
use Rattle.continuation_table.proofs.own_frame.own_point.Goals as goal

pub returns : goal.returns
returns c =
    IsTurnedBack-from (placement_at c.args.images.now.placements c.args.i) c.place-place.result
    c.place-place.ensures.value c.args.p (point_of c.apply_within.result.x c.apply_within.result.y)
    c.class_size-size.result (number_of_symmetry c.symmetry.result) (number_of_symmetry c.inverse.result)
    (c.class_size-size.ensures.cols ∙ ap (λ (g : Grid). g.cols) c.class_of.ensures.cells)
    (c.class_size-size.ensures.rows ∙ ap (λ (g : Grid). g.rows) c.class_of.ensures.cells)
    c.symmetry.ensures c.inverse.ensures.value c.apply_within.ensures.value
