use Rattle.capture_board.proofs.WalkerSteps.{IsLeaving, height, walker_at}
use Rattle.node_position.proofs.building.go_back.Given as goal

abbrev pub invariant-loop-above : goal.invariant-loop-above
invariant-loop-above l = IsLeaving l.deltas l.above (walker_at l.here l.board)

abbrev pub decreases-loop-above : goal.decreases-loop-above
decreases-loop-above l = height l.here
