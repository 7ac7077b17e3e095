use Rattle.std.proofs.Common.{◌++◌, ◌∙◌, ap, arith, length, map, sym, subst, take}
use Rattle.std.specs.Arc.{arc_value}
use Rattle.version_publisher.specs.Contents.{items_in}
use Rattle.search_engine.specs.Items.{AreItems}
use Rattle.segment_store.proofs.VersionGames.{part-more}
use Rattle.search_engine.proofs.VersionGames.{count-more, part-fits}
use Rattle.search_engine.proofs.items.items_of_version.Goals as goal

pub add_items-requires : goal.add_items-requires
add_items-requires c =
    let fits = part-fits arc_value c.parts-part-items.result.now c.loop-part.part-index c.part-item.result c.loop-part-test.true c.part-item.is in
    let all = ap (λ parts. length (items_in parts)) c.parts-part-items.ensures.items in
    omega (arith, fits, all, c.parts-part-items.ensures.fits, c.loop-part.invariant.counted, ap length c.deref-part.ensures)

pub overflow_add-first : goal.overflow_add-first
overflow_add-first c =
    let fits = part-fits arc_value c.parts-part-items.result.now c.loop-part.part-index c.part-item.result c.loop-part-test.true c.part-item.is in
    let all = ap (λ parts. length (items_in parts)) c.parts-part-items.ensures.items in
    omega (arith, fits, all, c.parts-part-items.ensures.fits, c.loop-part.invariant.counted, ap length c.deref-part.ensures, c.game_count-first.ensures.value)

pub loop-part-preserved : goal.loop-part-preserved
loop-part-preserved c =
    let parts = c.parts-part-items.result.now in
    let before = items_in (map arc_value (take c.loop-part.part-index parts)) in
    let next = part-more arc_value parts c.loop-part.part-index c.part-item.result c.loop-part-test.true c.part-item.is ∙ ap (λ games. before ++ games) (sym c.deref-part.ensures) in
    record {
      counted = count-more arc_value parts c.loop-part.part-index c.part-item.result c.loop-part.first c.game_count-first.result c.loop-part-test.true c.part-item.is c.loop-part.invariant.counted (c.game_count-first.ensures.value ∙ ap length c.deref-part.ensures);
      items = subst (λ games. AreItems 0 games c.add_items.new.items.items) (sym next) (c.in_ok-add_items.ensures 0 before c.loop-part.invariant.items (omega (arith, c.loop-part.invariant.counted)));
    }
