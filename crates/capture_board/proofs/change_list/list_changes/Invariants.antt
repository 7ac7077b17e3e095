use Rattle.std.proofs.Common.{◌-◌}
use Rattle.capture_board.specs.declared.board.TheConstants.{ROOM}
use Rattle.capture_board.specs.ChangedPoints.{AreListedBelow}
use Rattle.capture_board.proofs.change_list.list_changes.Given as goal

abbrev pub invariant-loop-point : goal.invariant-loop-point
invariant-loop-point l = AreListedBelow l.changed l.cells l.room l.from

abbrev pub decreases-loop-point : goal.decreases-loop-point
decreases-loop-point l = ROOM - l.from
