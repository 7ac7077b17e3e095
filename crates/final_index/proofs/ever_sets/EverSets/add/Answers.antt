use Rattle.final_index.proofs.AddedChanges.{AreAddedBelow-start, AreAddedBelow-more, AreAddedBelow-end}
use Rattle.final_index.proofs.ever_sets.EverSets.add.Goals as goal

pub loop-change-init : goal.loop-change-init
loop-change-init c = AreAddedBelow-start c.args.self.now c.args.changes.now

pub loop-change-preserved : goal.loop-change-preserved
loop-change-preserved c = AreAddedBelow-more c.args.self.now c.args.changes.now c.loop-change.change-index c.loop-change.self c.loop-change.invariant _ c.loop-change-test.true c.insert.new.self c.insert.ensures

pub returns : goal.returns
returns c = AreAddedBelow-end c.args.self.now c.args.changes.now c.loop-change.change-index c.loop-change.self c.loop-change.invariant c.loop-change-test.false
