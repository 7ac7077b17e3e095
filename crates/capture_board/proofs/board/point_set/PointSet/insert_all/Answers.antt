use Rattle.std.proofs.Common.{arith}
use Rattle.capture_board.proofs.PointSets.{AreInserted-more, AreInserted-all}
use Rattle.capture_board.proofs.board.point_set.PointSet.insert_all.Goals as goal

pub loop-index-preserved : goal.loop-index-preserved
loop-index-preserved c = AreInserted-more c.args.self.now c.args.others.now c.loop-index.self c.loop-index.index c.loop-index.invariant (omega arith) c.insert.new.self (rw c.at.ensures.value at c.insert.ensures)

pub returns : goal.returns
returns c = AreInserted-all c.args.self.now c.args.others.now c.loop-index.self c.loop-index.index c.loop-index.invariant (omega arith)
