use Rattle.std.proofs.Common.{map}
use Rattle.std.specs.Arc.{arc_value}
use Rattle.std.specs.Prelude.{All}
use Rattle.segment_store.specs.Orders.{AreOrdersOn}
use Rattle.segment_store.proofs.block_order.orders_of.Given as goal

abbrev pub invariant-loop-shape : goal.invariant-loop-shape
invariant-loop-shape l = All (AreOrdersOn (map arc_value l.games)) l.orders.items
