use Rattle.std.proofs.Common.{length}
use Rattle.query_script.proofs.Numbers.{AreDigitsTo}
use Rattle.query_script.proofs.number.value_of.Given as goal

abbrev pub invariant-loop-rest : goal.invariant-loop-rest
invariant-loop-rest l = AreDigitsTo l.fn.digits l.value l.rest

abbrev pub decreases-loop-rest : goal.decreases-loop-rest
decreases-loop-rest l = length l.rest
