use Rattle.std.proofs.Common.{ℕ, ◌≡◌, ◌∙◌, refl, sym, subst, arith}
use Rattle.pattern_images.specs.ImageList.{no_placement, placement_at}
use Rattle.ready_images.specs.Corners.{IsExact}
use Rattle.ready_images.specs.StoredCorners.{IsNumberTo}
use Rattle.ready_images.proofs.CornerCells.{IsNumberTo-more, IsNumberTo-start, number_fits, number-told, open-covers, over_place, power_fits, power_next}
use Rattle.ready_images.proofs.corners.corner_number.Goals as goal

pub loop-place-init : goal.loop-place-init
loop-place-init c = record {
  number = IsNumberTo-start c.args.images.now.shape (placement_at c.args.images.now.placements c.args.i) c.args.corner;
  power = refl;
}

pub overflow_mul-power : goal.overflow_mul-power
overflow_mul-power c = omega (arith, power_fits c.loop-place.power c.loop-place.place c.loop-place.invariant.power c.loop-place-test.true)

pub overflow_mul-number : goal.overflow_mul-number
overflow_mul-number c =
    let images = c.args.images.now in
    let placement = placement_at images.placements c.args.i in
    omega (
      arith,
      number_fits images.shape placement c.args.corner c.loop-place.place c.loop-place.number c.loop-place.invariant.number c.cell_over.result
          (c.cell_over.ensures ∙ over_place placement c.point_on-at.result c.args.corner _ c.loop-place.place images.shape c.shape-shape.result c.point_on-at.ensures.value c.in_ok-symmetry.ensures.made c.shape-shape.ensures.value)
          c.in-Some.digit c.loop-place.power c.in-Some.ensures.some.1 c.loop-place.invariant.power c.loop-place-test.true,
    )

pub overflow_add-number : goal.overflow_add-number
overflow_add-number c =
    let images = c.args.images.now in
    let placement = placement_at images.placements c.args.i in
    omega (
      arith,
      number_fits images.shape placement c.args.corner c.loop-place.place c.loop-place.number c.loop-place.invariant.number c.cell_over.result
          (c.cell_over.ensures ∙ over_place placement c.point_on-at.result c.args.corner _ c.loop-place.place images.shape c.shape-shape.result c.point_on-at.ensures.value c.in_ok-symmetry.ensures.made c.shape-shape.ensures.value)
          c.in-Some.digit c.loop-place.power c.in-Some.ensures.some.1 c.loop-place.invariant.power c.loop-place-test.true,
    )

pub loop-place-preserved : goal.loop-place-preserved
loop-place-preserved c =
    let images = c.args.images.now in
    let placement = placement_at images.placements c.args.i in
    record {
      number = IsNumberTo-more images.shape placement c.args.corner c.loop-place.place c.loop-place.number c.loop-place.invariant.number c.cell_over.result
          (c.cell_over.ensures ∙ over_place placement c.point_on-at.result c.args.corner _ c.loop-place.place images.shape c.shape-shape.result c.point_on-at.ensures.value c.in_ok-symmetry.ensures.made c.shape-shape.ensures.value)
          c.in-Some.digit c.loop-place.power c.in-Some.ensures.some.1 c.loop-place.invariant.power c.in-Some.ensures.some.0;
      power = power_next c.loop-place.power c.loop-place.place c.loop-place.invariant.power;
    }

pub returns-in_default-clause-none : goal.returns-in_default-clause-none
returns-in_default-clause-none c = λ none.
    let images = c.args.images.now in
    let placement = placement_at images.placements c.args.i in
    let over : c.cell_over.result ≡ _ = c.cell_over.ensures ∙ over_place placement c.point_on-at.result c.args.corner _ c.loop-place.place images.shape c.shape-shape.result c.point_on-at.ensures.value c.in_ok-symmetry.ensures.made c.shape-shape.ensures.value in
    open-covers images.shape placement (c.shape-shape.ensures.images.placed c.args.i no_placement c.requires.placement) c.args.corner c.requires.corner c.requires.sides c.loop-place.place c.loop-place-test.true
    (λ exact. c.in_default.ensures.none refl (subst IsExact (sym over) exact))

pub returns-clause-some : goal.returns-clause-some
returns-clause-some c =
    let images = c.args.images.now in
    let placement = placement_at images.placements c.args.i in
    let all : c.loop-place.place ≡ 36 = omega (arith, c.loop-place-test.false, c.loop-place.auto.place-end) in
    number-told images.shape placement (c.shape-shape.ensures.images.placed c.args.i no_placement c.requires.placement) c.args.corner c.requires.corner c.requires.sides c.loop-place.number
    (subst (λ (n : ℕ). IsNumberTo images.shape placement c.args.corner n c.loop-place.number) all c.loop-place.invariant.number)
