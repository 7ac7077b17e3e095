use Rattle.import_work.proofs.MadePieces.{AreCutBefore}
use Rattle.import_work.proofs.making.cut.Given as goal

abbrev pub invariant-loop-left : goal.invariant-loop-left
invariant-loop-left l = AreCutBefore l.fn.start l.fn.first l.fn.count l.pieces.items l.next l.left l.parts

abbrev pub decreases-loop-left : goal.decreases-loop-left
decreases-loop-left l = l.left
