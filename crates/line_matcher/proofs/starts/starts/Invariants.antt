use Rattle.line_matcher.proofs.StartLists.{HaveStartsTo}
use Rattle.line_matcher.proofs.starts.starts.Given as goal

-- the points so far
abbrev pub invariant-loop-p : goal.invariant-loop-p
invariant-loop-p l = HaveStartsTo l.images l.p l.next l.starts.items
