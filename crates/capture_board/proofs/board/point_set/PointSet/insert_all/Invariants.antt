use Rattle.capture_board.proofs.PointSets.{AreInserted}
use Rattle.capture_board.proofs.board.point_set.PointSet.insert_all.Given as goal

abbrev pub invariant-loop-index : goal.invariant-loop-index
invariant-loop-index l = AreInserted l.initial.self l.others l.self l.index
