use Rattle.query_script.proofs.Numbers.{AreDigitsTo-more, AreDigitsTo-start}
use Rattle.query_script.proofs.number.value_of.Goals as goal

pub loop-rest-init : goal.loop-rest-init
loop-rest-init c = AreDigitsTo-start _ c.requires

pub loop-rest-preserved : goal.loop-rest-preserved
loop-rest-preserved c = AreDigitsTo-more _ _ _ _ c.loop-rest.invariant c.in-len1-up.len_at_least c.in_ok-value.ensures.some.1 c.in_ok-value.ensures.some.0
