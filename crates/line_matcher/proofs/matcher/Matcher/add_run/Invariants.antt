use Rattle.line_matcher.specs.Visits.{IsFoundAt}
use Rattle.line_matcher.proofs.matcher.Matcher.add_run.Given as goal

-- the placements so far
abbrev pub invariant-loop-i : goal.invariant-loop-i
invariant-loop-i l = IsFoundAt l.self.images.now l.visit l.from l.i l.initial.found.items l.found.items
