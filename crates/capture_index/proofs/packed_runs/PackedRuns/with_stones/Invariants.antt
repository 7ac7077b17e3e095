use Rattle.capture_index.proofs.Narrowing.{AreStones}
use Rattle.capture_index.proofs.packed_runs.PackedRuns.with_stones.Given as goal

-- the stones so far
abbrev pub invariant-loop-k : goal.invariant-loop-k
invariant-loop-k l = AreStones l.self l.base l.class.wants.now l.k l.latest l.listed
