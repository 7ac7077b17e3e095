use Rattle.std.proofs.Common.{◌++◌}
use Rattle.std.specs.Prelude.{All}
use Rattle.segment_store.specs.Orders.{AreOrdersOn}
use Rattle.segment_store.proofs.block.joined_orders.Given as goal

abbrev pub invariant-loop-shape : goal.invariant-loop-shape
invariant-loop-shape l = All (AreOrdersOn (l.a ++ l.b)) l.orders.items
