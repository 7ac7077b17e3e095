use Rattle.capture_index.specs.Branches.{AreBranchesTo}
use Rattle.capture_index.specs.Building.{AreBuilt}
use Rattle.capture_index.proofs.packed_runs.PackedRuns.of.Given as goal

abbrev pub invariant-loop-n : goal.invariant-loop-n
invariant-loop-n l = AreBuilt l.deltas l.n l.growing × AreBranchesTo l.deltas l.n l.branches.items
