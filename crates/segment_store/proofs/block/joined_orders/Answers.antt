use Rattle.std.proofs.Common.{◌++◌}
use Rattle.std.proofs.lemmas.List.Elements.{All-push}
use Rattle.segment_store.specs.Orders.{AreOrdersOn}
use Rattle.segment_store.proofs.block.joined_orders.Goals as goal

pub loop-shape-preserved : goal.loop-shape-preserved
loop-shape-preserved c =
    rw c.in_ok-push.ensures.items (All-push (AreOrdersOn (c.args.a.now ++ c.args.b.now)) c.loop-shape.orders.items c.in_ok-joined_order.field-0 c.loop-shape.invariant c.in_ok-joined_order.ensures)

pub returns : goal.returns
returns c = rw c.shrink_to_fit.ensures.items c.loop-shape.invariant
