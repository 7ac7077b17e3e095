use Rattle.std.proofs.Common.{ap, map, subst, ◌∙◌, arith}
use Rattle.std.proofs.lemmas.List.{take_all}
use Rattle.std.specs.Arc.{arc_value}
use Rattle.segment_store.specs.Orders.{AreOrdersOn}
use Rattle.segment_store.proofs.OrdersOfGames.{orders-more, orders-start}
use Rattle.segment_store.proofs.block_order.order_on.Goals as goal

pub loop-game-init : goal.loop-game-init
loop-game-init c = record {
  shape = c.in_ok-order.ensures.shape;
  on = orders-start c.in_ok-order.order c.in_ok-order.ensures.count;
}

pub loop-game-preserved : goal.loop-game-preserved
loop-game-preserved c = record {
  shape = c.in_ok-add_game.ensures.shape ∙ c.loop-game.invariant.shape;
  on =
      orders-more arc_value c.args.games.now c.loop-game.game-index c.game-item.result c.loop-game.order c.add_game.new.order _ c.loop-game-test.true c.game-item.is
      (ap (λ g. g.tree) c.deref.ensures) c.loop-game.invariant.on c.in_ok-add_game.ensures;
}

pub returns-clause-on : goal.returns-clause-on
returns-clause-on c =
    subst (λ games. AreOrdersOn (map arc_value games) c.loop-game.order) (take_all c.loop-game.game-index c.args.games.now (omega (arith, c.loop-game-test.false))) c.loop-game.invariant.on
