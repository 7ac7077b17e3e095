use Rattle.std.proofs.Common.{◌≡◌, ◌<◌, ◌∙◌, ℕ, length, subst, sym, arith}
use Rattle.ready_images.specs.Placing.{AreOfClass, ArePlacedTo}
use Rattle.ready_images.proofs.ClassLists.{list_at-read}
use Rattle.ready_images.proofs.PlacementLists.{placed-next, rows-all}
use Rattle.ready_images.proofs.rows.rows_of.Goals as goal

pub loop-class-preserved : goal.loop-class-preserved
loop-class-preserved c = record {
  placed = placed-next c.args.images.now c.loop-class.class c.add_class.new.made.numbers.items c.in_ok-add_class.ensures.placed;
  rows = c.in_ok-add_class.ensures.rows;
}

pub add_class-requires-clause-of_class : goal.add_class-requires-clause-of_class
add_class-requires-clause-of_class c =
    let images = c.args.images.now in
    let class = c.loop-class.class in
    let vecs = c.in_ok-classes.classes.items in
    let in_range : class < length images.grids = omega (arith, c.loop-class-test.true, c.class_count-class-end.ensures) in
    let below : class < length vecs = omega (arith, in_range, c.in_ok-classes.ensures.count) in
    subst (AreOfClass images class (length images.placements)) (sym (list_at-read vecs class c.index.result.now below c.index.ensures) ∙ sym c.deref.ensures.value) (c.in_ok-classes.ensures.each class in_range)

pub returns-clause-rows : goal.returns-clause-rows
returns-clause-rows c =
    let images = c.args.images.now in
    let all : c.loop-class.class ≡ length images.grids = omega (arith, c.loop-class-test.false, c.loop-class.auto.class-end, c.class_count-class-end.ensures) in
    rows-all images c.loop-class.made.numbers.items c.loop-class.made.rows.items c.len.ensures.images (subst (λ (n : ℕ). ArePlacedTo images n 0 c.loop-class.made.numbers.items) all c.loop-class.invariant.placed) c.loop-class.invariant.rows
