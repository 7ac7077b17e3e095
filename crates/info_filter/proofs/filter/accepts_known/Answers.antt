use Rattle.std.proofs.Common.{List, ◌∙◌, All, refl, rules, subst}
use Rattle.std.proofs.lemmas.List.{take_all}
use Rattle.std.proofs.lemmas.List.Elements.{All-more}
use Rattle.info_filter.specs.declared.condition.Condition.{Condition}
use Rattle.info_filter.specs.Filter.{IsMetBy}
use Rattle.info_filter.proofs.filter.accepts_known.Goals as goal

pub loop-condition-preserved : goal.loop-condition-preserved
loop-condition-preserved c =
    All-more (λ (x : Condition). IsMetBy x c.args.info.now) c.as_slice-condition-items.result.now c.loop-condition.condition-index c.condition-item.result c.loop-condition-test.true c.loop-condition.invariant
    (subst (λ (x : Condition). IsMetBy x c.args.info.now) c.condition-item.is (c.is_met.ensures.0 (search rules)))

pub returns : goal.returns
returns c =
    let whole = take_all c.loop-condition.condition-index c.as_slice-condition-items.result.now c.loop-condition-test.false ∙ c.as_slice-condition-items.ensures in
    (λ _. subst (λ (xs : List Condition). All (λ (x : Condition). IsMetBy x c.args.info.now) xs) whole c.loop-condition.invariant, λ _. refl)
