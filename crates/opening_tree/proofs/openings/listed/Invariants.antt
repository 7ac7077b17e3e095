use Rattle.std.proofs.Common.{◌≡◌, take}
use Rattle.std.specs.Map.{values_of}
use Rattle.std.specs.Prelude.{filter, nat_le}
use Rattle.opening_tree.specs.declared.answer.Opening.{Opening}
use Rattle.opening_tree.proofs.openings.listed.Given as goal

abbrev pub invariant-loop-at : goal.invariant-loop-at
invariant-loop-at l = l.listed.items ≡ filter (λ (o : Opening). nat_le l.least o.count) (values_of (take l.at l.openings.entries))
