use Rattle.std.proofs.Common.{false}
use Rattle.capture_board.proofs.Writes.{IsWritten}
use Rattle.capture_board.proofs.board.point_set.unmark.Given as goal

abbrev pub invariant-loop-point : goal.invariant-loop-point
invariant-loop-point l = IsWritten false l.points l.initial.has l.has l.point-index
