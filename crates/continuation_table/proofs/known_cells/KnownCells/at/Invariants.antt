use Rattle.capture_board.proofs.WalkerSteps.{height}
use Rattle.continuation_table.proofs.Rebuilt.{IsRebuilt}
use Rattle.continuation_table.proofs.known_cells.KnownCells.at.Given as goal

abbrev pub invariant-loop-here : goal.invariant-loop-here
invariant-loop-here l = IsRebuilt l.deltas l.node l.known.cells l.here

abbrev pub decreases-loop-here : goal.decreases-loop-here
decreases-loop-here l = height l.here
