use Rattle.capture_board.proofs.NetChanges.{AreTakenBack}
use Rattle.capture_board.proofs.board.take_back.Given as goal

abbrev pub invariant-loop-change : goal.invariant-loop-change
invariant-loop-change l = AreTakenBack l.initial.cells l.changes l.cells l.change-index
