use Rattle.capture_index.proofs.NextRuns.{AreBehind}
use Rattle.capture_index.proofs.node_cells.next_run.Given as goal

abbrev pub invariant-loop-run : goal.invariant-loop-run
invariant-loop-run l = AreBehind l.runs l.end l.node l.run-index l.next
