use Rattle.capture_index.proofs.Narrowing.{AreEmptied}
use Rattle.capture_index.proofs.packed_runs.PackedRuns.with_empties.Given as goal

-- the points so far
abbrev pub invariant-loop-k : goal.invariant-loop-k
invariant-loop-k l = AreEmptied l.self l.base l.class.wants.now l.class.empties l.k l.earliest l.listed
