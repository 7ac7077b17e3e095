use Rattle.pattern_syntax.specs.Reading.{IsPatternReadTo}
use Rattle.pattern_syntax.proofs.read.read_pattern.Given as goal

abbrev pub invariant-loop-at : goal.invariant-loop-at
invariant-loop-at l = IsPatternReadTo l.text l.at l.progress l.cells.items
