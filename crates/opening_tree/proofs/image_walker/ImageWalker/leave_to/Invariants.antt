use Rattle.capture_board.proofs.WalkerSteps.{height}
use Rattle.opening_tree.proofs.TurnedWalks.{IsLeavingTurned}
use Rattle.opening_tree.proofs.image_walker.ImageWalker.leave_to.Given as goal

abbrev pub invariant-loop-above : goal.invariant-loop-above
invariant-loop-above l = IsLeavingTurned l.deltas l.above l.fn.self.shape l.self

abbrev pub decreases-loop-above : goal.decreases-loop-above
decreases-loop-above l = height l.self.here
