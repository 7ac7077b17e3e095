use Rattle.std.proofs.Common.{◌≡◌, ◌++◌, ◌∷◌, [], ◌∙◌, codes, rules, subst, sym}
use Rattle.std.proofs.lemmas.Bool.{eqb-true}
use Rattle.std.proofs.lemmas.List.{nil_from_length}
use Rattle.query_script.proofs.JoinedConditions.{AreConditionsTo, AreConditionsTo-end, AreConditionsTo-more}
use Rattle.query_script.proofs.conditions.filter_of.Goals as goal

pub loop-joining-preserved : goal.loop-joining-preserved
loop-joining-preserved c =
    let pushed : c.push.new.self.items ≡ c.loop-joining.conditions.items ++ c.in-Ok-Some.condition ∷ [] = search rules in
    let (kind, value, is, spelled) = rw c.in-Ok-Some.field-0-is at c.in-Ok-Some.ensures.some in
    subst (λ l. AreConditionsTo c.args.words.now l (codes "and") c.in-Ok-Some.behind.now) (sym pushed)
    (AreConditionsTo-more _ _ _ _ c.loop-joining.invariant c.in-Ok-Some.condition kind value _ is spelled)

pub returns-clause-some : goal.returns-clause-some
returns-clause-some c =
    rw c.new.ensures (AreConditionsTo-end _ _ _ _ c.loop-joining.invariant (nil_from_length _ (eqb-true _ 0 (sym c.is_empty.ensures ∙ c.loop-joining-test.false))))
