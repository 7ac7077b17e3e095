use Rattle.std.proofs.Common.{◌≤◌, ◌+◌, IfSome}
use Rattle.game_tree.specs.NodeValues.{IsMoveOnBoard}
use Rattle.game_tree.proofs.ReadValues.{BuiltSoFar}
use Rattle.game_tree.proofs.node_values.read_values.Given as goal

abbrev pub invariant-loop-pair : goal.invariant-loop-pair
invariant-loop-pair l = record {
  read : BuiltSoFar l.fn.text l.fn.shape l.fn.pairs l.pair-index l.played l.fn.builder l.builder;
  room : l.builder.setup_count ≤ l.fn.builder.setup_count + l.pair-index;
  on_board : IfSome l.played (IsMoveOnBoard l.fn.shape);
}
