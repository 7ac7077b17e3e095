use Rattle.capture_board.proofs.WalkerSteps.{IsLeaving, height}
use Rattle.capture_board.proofs.walker.Walker.leave_to.Given as goal

abbrev pub invariant-loop-above : goal.invariant-loop-above
invariant-loop-above l = IsLeaving l.deltas l.above l.self

abbrev pub decreases-loop-above : goal.decreases-loop-above
decreases-loop-above l = height l.self.here
