use Rattle.std.proofs.Common.{length}
use Rattle.query_script.proofs.JoinedConditions.{AreConditionsTo}
use Rattle.query_script.proofs.conditions.filter_of.Given as goal

abbrev pub invariant-loop-joining : goal.invariant-loop-joining
invariant-loop-joining l = AreConditionsTo l.fn.words l.conditions.items l.joining l.rest

abbrev pub decreases-loop-joining : goal.decreases-loop-joining
decreases-loop-joining l = length l.rest
