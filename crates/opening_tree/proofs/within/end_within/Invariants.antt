use Rattle.opening_tree.specs.GameFrames.{IsPastFrom}
use Rattle.opening_tree.proofs.within.end_within.Given as goal

abbrev pub invariant-loop-end : goal.invariant-loop-end
invariant-loop-end l = IsPastFrom l.depth l.tree l.end

abbrev pub decreases-loop-end : goal.decreases-loop-end
decreases-loop-end l = l.end
