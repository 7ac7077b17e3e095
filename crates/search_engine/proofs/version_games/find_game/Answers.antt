use Rattle.std.proofs.Common.{◌≡◌, ◌-◌, ◌∙◌, Some, ap, arith, length, slice_get, sym, subst}
use Rattle.std.specs.Arc.{arc_value}
use Rattle.version_publisher.specs.Contents.{items_in}
use Rattle.search_engine.proofs.VersionGames.{count-more, found-in-part, none-behind}
use Rattle.search_engine.proofs.version_games.find_game.Goals as goal

pub returns-then-number-first : goal.returns-then-number-first
returns-then-number-first c =
    let parts = c.parts-part-items.result.now in
    let found = found-in-part arc_value parts c.loop-part.part-index c.part-item.result c.args.number c.finished.result.now c.loop-part-test.true c.part-item.is
    (omega (arith, c.loop-part.invariant.behind, c.loop-part.invariant.low))
    (subst (λ n. slice_get (arc_value c.part-item.result) (c.args.number - n) ≡ Some c.finished.result.now) c.loop-part.invariant.behind
    (subst (λ games. slice_get games (c.args.number - c.loop-part.first) ≡ Some c.finished.result.now) c.deref-part.ensures c.finished.ensures)) in
    sym (ap (λ ps. slice_get (items_in ps) c.args.number) (sym c.parts-part-items.ensures.items) ∙ found)

pub loop-part-preserved : goal.loop-part-preserved
loop-part-preserved c = record {
  behind = count-more arc_value c.parts-part-items.result.now c.loop-part.part-index c.part-item.result c.loop-part.first c.game_count-first.result c.loop-part-test.true c.part-item.is
      c.loop-part.invariant.behind (c.game_count-first.ensures.value ∙ ap length c.deref-part.ensures);
  low = omega (arith, c.if-number-first.false, c.game_count.ensures.value, c.game_count-first.ensures.value, c.loop-part.invariant.low);
}

pub returns : goal.returns
returns c =
    sym (none-behind arc_value c.parts-part-items.result.now c.args.version.now.parts c.loop-part.part-index c.loop-part.first c.args.number
    c.loop-part-test.false c.parts-part-items.ensures.items c.loop-part.invariant.behind c.loop-part.invariant.low)
