use Rattle.final_index.proofs.AddedChanges.{AreUntouchedBelow-start, AreUntouchedBelow-more, AreUntouchedBelow-end}
use Rattle.final_index.proofs.ever_sets.untouched.Goals as goal

pub loop-change-init : goal.loop-change-init
loop-change-init c = AreUntouchedBelow-start c.args.count c.args.changes.now c.below-points.result c.below-points.ensures

pub loop-change-preserved : goal.loop-change-preserved
loop-change-preserved c = AreUntouchedBelow-more c.args.count c.args.changes.now c.loop-change.change-index c.loop-change.points c.loop-change.invariant _ c.loop-change-test.true c.remove.new.self c.remove.ensures

pub returns : goal.returns
returns c = AreUntouchedBelow-end c.args.count c.args.changes.now c.loop-change.change-index c.loop-change.points c.loop-change.invariant c.loop-change-test.false
