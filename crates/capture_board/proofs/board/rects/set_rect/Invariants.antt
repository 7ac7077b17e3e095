use Rattle.capture_board.specs.ChangedPoints.{NotesChanges}
use Rattle.capture_board.proofs.Rects.{AreRowsSet}
use Rattle.capture_board.proofs.board.rects.set_rect.Given as goal

abbrev pub invariant-loop-y : goal.invariant-loop-y
invariant-loop-y l = record {
  rows : AreRowsSet l.shape l.rect l.cell l.y l.initial.cells l.cells;
  noted : NotesChanges l.initial.cells l.initial.changed l.cells l.changed;
}
