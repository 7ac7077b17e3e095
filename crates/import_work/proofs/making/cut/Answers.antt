use Rattle.import_work.proofs.MadePieces.{AreCutBefore-more, AreCutBefore-start}
use Rattle.import_work.proofs.making.cut.Goals as goal

pub loop-left-init : goal.loop-left-init
loop-left-init c = rw c.new-pieces.ensures.items (AreCutBefore-start c.args.start c.args.first c.args.count c.args.most c.requires.some c.requires.most c.requires.few)

pub loop-left-preserved : goal.loop-left-preserved
loop-left-preserved c =
    AreCutBefore-more c.args.start c.args.first c.args.count c.loop-left.pieces.items _ c.loop-left.next c.loop-left.left c.loop-left.parts c.share_of-own.result c.requires.fits c.loop-left.invariant c.in_ok-push.ensures.items
    c.loop-left-test.true c.share_of-own.ensures.some c.share_of-own.ensures.within c.share_of-own.ensures.last
