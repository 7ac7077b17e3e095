use Rattle.capture_board.specs.ChangedPoints.{NotesChanges}
use Rattle.capture_board.specs.Runs.{IsRunSet}
use Rattle.capture_board.proofs.board.rects.set_run.Given as goal

abbrev pub invariant-loop-point : goal.invariant-loop-point
invariant-loop-point l = record {
  set : IsRunSet l.cell l.first l.point l.initial.cells l.cells;
  noted : NotesChanges l.initial.cells l.initial.changed l.cells l.changed;
}
