use Rattle.kb_geometry.specs.declared.stone.Cell.TheVariants as cell
use Rattle.capture_board.specs.ChangedPoints.{NotesChanges}
use Rattle.capture_board.proofs.Writes.{IsWritten}
use Rattle.capture_board.proofs.board.captures.take_off.Given as goal

abbrev pub invariant-loop-index : goal.invariant-loop-index
invariant-loop-index l = record {
  written : IsWritten cell.Empty l.points l.initial.cells l.cells l.index;
  noted : NotesChanges l.initial.cells l.initial.changed l.cells l.changed;
}
