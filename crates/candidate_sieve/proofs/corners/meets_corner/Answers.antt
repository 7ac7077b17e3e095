use Rattle.std.proofs.Common.{refl, sym, subst}
use Rattle.kb_geometry.specs.declared.shape.Shape.{Shape}
use Rattle.pattern_images.specs.ImageList.{IsPlacedOn, placement_at}
use Rattle.ready_images.specs.Corners.{CoversCorner, HasCorners, IsCornerNumber}
use Rattle.candidate_sieve.proofs.CornersTold.{number-told}
use Rattle.candidate_sieve.proofs.corners.meets_corner.Goals as goal

pub returns-in-Some : goal.returns-in-Some
returns-in-Some c deltas same are =
    let placement = placement_at c.args.images.now.placements c.args.i in
    number-told deltas placement (subst (λ (s : Shape). IsPlacedOn s placement) (sym same) c.requires.placed) c.args.corner c.in-Some.number (subst (λ (s : Shape). IsCornerNumber s placement c.args.corner c.in-Some.number) (sym same) c.in-Some.ensures.some) c.args.corners.now are
    c.has.result c.has.ensures

pub returns-in-None : goal.returns-in-None
returns-in-None c deltas same are =
    let placement = placement_at c.args.images.now.placements c.args.i in (
      λ t sides covers. absurd (c.in-None.ensures.none refl (subst HasCorners same sides) (subst (λ (s : Shape). CoversCorner s placement c.args.corner) same covers)),
      λ had. refl,
    )
