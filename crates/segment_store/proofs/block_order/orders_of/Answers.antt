use Rattle.std.proofs.Common.{map}
use Rattle.std.proofs.lemmas.List.Elements.{All-push}
use Rattle.std.specs.Arc.{arc_value}
use Rattle.segment_store.specs.Orders.{AreOrdersOn}
use Rattle.segment_store.proofs.block_order.orders_of.Goals as goal

pub loop-shape-preserved : goal.loop-shape-preserved
loop-shape-preserved c =
    rw c.in_ok-push.ensures.items (All-push (AreOrdersOn (map arc_value c.args.games.now)) c.loop-shape.orders.items c.in_ok-order_on.field-0 c.loop-shape.invariant c.in_ok-order_on.ensures.on)

pub returns : goal.returns
returns c = rw c.shrink_to_fit.ensures.items c.loop-shape.invariant
