use Rattle.capture_index.specs.Narrowing.{IsLeftBy}
use Rattle.capture_index.proofs.packed_runs.PackedRuns.with_mixed.Given as goal

-- the wants so far
abbrev pub invariant-loop-k : goal.invariant-loop-k
invariant-loop-k l = IsLeftBy l.self l.base l.class.wants.now l.k (record { nodes = l.nodes; listed = l.listed })
