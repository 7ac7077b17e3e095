use Rattle.final_index.proofs.AddedChanges.{AreUntouchedBelow}
use Rattle.final_index.proofs.ever_sets.untouched.Given as goal

abbrev pub invariant-loop-change : goal.invariant-loop-change
invariant-loop-change l = AreUntouchedBelow l.change-index l.count l.changes l.points
