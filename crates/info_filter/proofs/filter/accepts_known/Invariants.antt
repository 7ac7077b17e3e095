use Rattle.std.proofs.Common.{take, All}
use Rattle.info_filter.specs.declared.condition.Condition.{Condition}
use Rattle.info_filter.specs.Filter.{IsMetBy}
use Rattle.info_filter.proofs.filter.accepts_known.Given as goal

abbrev pub invariant-loop-condition : goal.invariant-loop-condition
invariant-loop-condition l = All (λ (c : Condition). IsMetBy c l.info) (take l.condition-index l.condition-items)
