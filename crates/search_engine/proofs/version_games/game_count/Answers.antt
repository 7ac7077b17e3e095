use Rattle.std.proofs.Common.{◌∙◌, ap, arith, length}
use Rattle.std.specs.Arc.{arc_value}
use Rattle.version_publisher.specs.Contents.{items_in}
use Rattle.search_engine.proofs.VersionGames.{count-more, counted, part-fits}
use Rattle.search_engine.proofs.version_games.game_count.Goals as goal

pub overflow_add-count : goal.overflow_add-count
overflow_add-count c =
    let parts = c.parts-part-items.result.now in
    let fits = part-fits arc_value parts c.loop-part.part-index c.part-item.result c.loop-part-test.true c.part-item.is in
    let all = ap (λ ps. length (items_in ps)) c.parts-part-items.ensures.items in
    omega (arith, fits, all, c.parts-part-items.ensures.fits, c.loop-part.invariant, c.game_count-count.ensures.value, ap length c.deref.ensures)

pub loop-part-preserved : goal.loop-part-preserved
loop-part-preserved c =
    count-more arc_value c.parts-part-items.result.now c.loop-part.part-index c.part-item.result c.loop-part.count c.game_count-count.result c.loop-part-test.true c.part-item.is
    c.loop-part.invariant (c.game_count-count.ensures.value ∙ ap length c.deref.ensures)

pub returns-clause-value : goal.returns-clause-value
returns-clause-value c = counted arc_value c.parts-part-items.result.now c.args.version.now.parts c.loop-part.part-index c.loop-part.count c.loop-part-test.false c.parts-part-items.ensures.items c.loop-part.invariant

pub returns-clause-most : goal.returns-clause-most
returns-clause-most c =
    let all = counted arc_value c.parts-part-items.result.now c.args.version.now.parts c.loop-part.part-index c.loop-part.count c.loop-part-test.false c.parts-part-items.ensures.items c.loop-part.invariant in
    omega (arith, all, c.parts-part-items.ensures.fits)
