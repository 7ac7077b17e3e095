use Rattle.std.proofs.Common.{◌≡◌, ◌≤◌, length}
use Rattle.game_tree.proofs.Lines.{line_built}
use Rattle.game_tree.proofs.line.tree_of_moves.Given as goal

abbrev pub invariant-loop-number : goal.invariant-loop-number
invariant-loop-number l = record {
  built : l.builder ≡ line_built l.fn.shape l.fn.moves l.number;
  most : l.number ≤ length l.fn.moves;
}
