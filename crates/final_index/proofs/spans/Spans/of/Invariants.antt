use Rattle.final_index.specs.Spans.{AreSpansTo}
use Rattle.final_index.proofs.spans.Spans.of.Given as goal

-- the nodes so far
abbrev pub invariant-loop-n : goal.invariant-loop-n
invariant-loop-n l = AreSpansTo l.deltas l.n l.spans
