use Rattle.std.proofs.Common.{◌≡◌, ℕ, ◌∙◌, arith, length, refl, slice_index, subst}
use Rattle.std.proofs.lemmas.List.{get_or_past}
use Rattle.ready_images.specs.Placing.{ArePlacedTo, IsRowGrown}
use Rattle.ready_images.specs.Rows.{HasClass}
use Rattle.ready_images.proofs.ClassLists.{placed-first, placed-then}
use Rattle.ready_images.proofs.PlacementLists.{rows-grown}
use Rattle.ready_images.proofs.rows.add_class.Goals as goal

pub loop-i-init : goal.loop-i-init
loop-i-init c = record {
  placed = placed-first c.args.images.now c.args.class c.args.of_class.now c.requires.of_class c.args.made.now.numbers.items c.requires.placed;
  rows = c.requires.rows;
}

pub base-requires : goal.base-requires
base-requires c =
    (c.requires.of_class.sound c.loop-i.i-index c.loop-i-test.true).0

pub loop-i-preserved : goal.loop-i-preserved
loop-i-preserved c =
    let images = c.args.images.now in
    let list = c.args.of_class.now in
    let k = c.loop-i.i-index in
    let i = slice_index list k in
    let own : HasClass images (slice_index list k) c.args.class = (c.requires.of_class.sound k c.loop-i-test.true).1 in
    let start : c.len-start.result ≡ length c.loop-i.made.numbers.items = c.len-start.ensures ∙ c.loop-i.made.numbers.ok.0 in
    rw c.in_ok-push.ensures.items (record {
      placed = placed-then images c.args.class list c.requires.of_class c.base.ensures.images.different k i c.loop-i.made.numbers.items c.loop-i-test.true refl c.loop-i.invariant.placed;
      rows = rows-grown images c.loop-i.made.numbers.items c.loop-i.made.rows.items c.loop-i.invariant.rows c.args.class c.base.result i own c.base.ensures.value c.add_to_rows.new.rows.items
          (subst (λ (n : ℕ). IsRowGrown c.args.class c.base.result n c.loop-i.made.rows.items c.add_to_rows.new.rows.items) start c.in_ok-add_to_rows.ensures);
    })

pub returns-clause-placed : goal.returns-clause-placed
returns-clause-placed c =
    subst (λ (n : ℕ). ArePlacedTo c.args.images.now c.args.class n c.loop-i.made.numbers.items) (get_or_past c.args.of_class.now c.loop-i.i-index (length c.args.images.now.placements) (omega (arith, c.loop-i-test.false))) c.loop-i.invariant.placed
