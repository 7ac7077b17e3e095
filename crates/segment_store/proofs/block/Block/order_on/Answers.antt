use Rattle.std.proofs.Common.{ap, arith, length, subst}
use Rattle.std.proofs.lemmas.List.{length-map}
use Rattle.std.specs.Arc.{arc_value}
use Rattle.std.specs.Prelude.{All}
use Rattle.segment_store.specs.Orders.{AreOrdersOn}
use Rattle.segment_store.proofs.OrdersOfGames.{order-found}
use Rattle.segment_store.proofs.block.Block.order_on.Goals as goal

pub returns-clause-value : goal.returns-clause-value
returns-clause-value c =
    order-found c.args.self.now c.self.inside.orders.items c.args.shape c.order_with.result
    (subst (λ games. All (AreOrdersOn games) c.self.inside.orders.items) c.self.view_is c.self.invariant.4) (rw c.as_slice.ensures.value at c.order_with.ensures)

pub returns-clause-few : goal.returns-clause-few
returns-clause-few c = omega (arith, c.self.invariant.1, length-map c.self.inside.games.items arc_value, ap length c.self.view_is)
