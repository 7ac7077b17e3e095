use Rattle.std.proofs.Common.{◌≡◌}
use Rattle.capture_board.specs.Walking.{node_before}
use Rattle.node_position.proofs.Following.{Followed}
use Rattle.node_position.proofs.building.deltas_with.Given as goal

abbrev pub invariant-loop-n : goal.invariant-loop-n
invariant-loop-n l = record {
  followed : Followed l.tree l.deltas l.board l.n;
  here : l.here ≡ node_before l.n;
}
