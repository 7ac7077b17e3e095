use Rattle.final_index.proofs.AddedChanges.{AreAddedBelow}
use Rattle.final_index.proofs.ever_sets.EverSets.add.Given as goal

abbrev pub invariant-loop-change : goal.invariant-loop-change
invariant-loop-change l = AreAddedBelow l.change-index l.fn.self l.changes l.self
