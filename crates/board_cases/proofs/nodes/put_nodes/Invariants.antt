use Rattle.std.proofs.Common.{◌≡◌}
use Rattle.capture_board.specs.Walking.{StandsIn, node_before}
use Rattle.board_cases.proofs.nodes.put_nodes.Given as goal

abbrev pub invariant-loop-n : goal.invariant-loop-n
invariant-loop-n g l = StandsIn l.deltas l.walker × (l.walker.here ≡ node_before l.n)
