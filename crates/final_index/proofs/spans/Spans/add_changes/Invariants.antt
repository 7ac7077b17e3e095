use Rattle.final_index.specs.Spans.{AreAllNoted}
use Rattle.final_index.proofs.spans.Spans.add_changes.Given as goal

-- the changes so far
abbrev pub invariant-loop-change : goal.invariant-loop-change
invariant-loop-change l = AreAllNoted l.changes l.change-index l.n l.end l.fn.self l.self
