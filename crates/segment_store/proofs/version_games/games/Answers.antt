use Rattle.std.proofs.Common.{◌∙◌, ◌++◌, ap, sym, map, take}
use Rattle.std.specs.Arc.{arc_value}
use Rattle.version_publisher.specs.Contents.{items_in}
use Rattle.segment_store.proofs.VersionGames.{part-more}
use Rattle.segment_store.proofs.version_games.games.Goals as goal

pub loop-part-preserved : goal.loop-part-preserved
loop-part-preserved c =
    let parts = c.parts-part-items.result.now in
    let before = items_in (map arc_value (take c.loop-part.part-index parts)) in
    c.in_ok-add_part.ensures
    ∙ ap (λ gs. gs ++ c.deref-part.result.now) c.loop-part.invariant
    ∙ ap (λ gs. before ++ gs) c.deref-part.ensures
    ∙ sym (part-more arc_value parts c.loop-part.part-index c.part-item.result c.loop-part-test.true c.part-item.is)
