use Rattle.capture_board.specs.Walking.{StandsIn}
use Rattle.capture_board.proofs.WalkerSteps.{height}
use Rattle.board_cases.proofs.nodes.put_way_back.Given as goal

abbrev pub invariant-loop-n : goal.invariant-loop-n
invariant-loop-n l = StandsIn l.deltas l.walker

abbrev pub decreases-loop-n : goal.decreases-loop-n
decreases-loop-n l = height l.walker.here
