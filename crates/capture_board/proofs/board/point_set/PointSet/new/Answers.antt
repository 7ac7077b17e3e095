use Rattle.capture_board.proofs.board.point_set.PointSet.new.Goals as goal
use Rattle.capture_board.specs.declared.board.TheConstants.{ROOM}
use Rattle.capture_board.proofs.PointSets.{IsPointSet-none}

pub invariant_of-result : goal.invariant_of-result
invariant_of-result c = IsPointSet-none ROOM ROOM
