use Rattle.std.proofs.Common.{◌≡◌, take}
use Rattle.info_filter.proofs.filter.Filter.copy.Given as goal

abbrev pub invariant-loop-condition : goal.invariant-loop-condition
invariant-loop-condition l = l.conditions.items ≡ take l.condition-index l.condition-items
