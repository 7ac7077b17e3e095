use Rattle.final_index.specs.Gathering.{AreGathered}
use Rattle.final_index.proofs.ever_sets.gathered.Given as goal

abbrev pub invariant-loop-n : goal.invariant-loop-n
invariant-loop-n l = AreGathered l.deltas l.n l.sets
