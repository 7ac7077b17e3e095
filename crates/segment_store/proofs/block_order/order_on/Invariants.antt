use Rattle.std.proofs.Common.{◌≡◌, map, take}
use Rattle.std.specs.Arc.{arc_value}
use Rattle.segment_store.specs.Orders.{AreOrdersOn}
use Rattle.segment_store.proofs.block_order.order_on.Given as goal

abbrev pub invariant-loop-game : goal.invariant-loop-game
invariant-loop-game l = record {
  shape : l.order.shape ≡ l.fn.shape;
  on : AreOrdersOn (map arc_value (take l.game-index l.games)) l.order;
}
