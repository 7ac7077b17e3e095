use Rattle.capture_index.specs.Narrowing.{IsLeftByLists}
use Rattle.capture_index.proofs.packed_runs.PackedRuns.left_by_lists.Given as goal

-- the lists so far
abbrev pub invariant-loop-k : goal.invariant-loop-k
invariant-loop-k l = IsLeftByLists l.self l.base l.wants l.k l.hull
