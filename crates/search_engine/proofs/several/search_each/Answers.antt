use Rattle.std.proofs.Common.{◌≡◌, ◌-◌, ◌∙◌, List, ap, drop, length, subst, take}
use Rattle.std.proofs.lemmas.List.{take_rest}
use Rattle.std.proofs.lemmas.Result.{IfOk-weaker}
use Rattle.search_engine.specs.declared.several.Asked.{Asked}
use Rattle.search_engine.specs.Several.{AreMade}
use Rattle.search_engine.proofs.SeveralAnswers.{answers_of_all}
use Rattle.search_engine.proofs.several.search_each.Goals as goal

pub returns : goal.returns
returns g c =
    let asked = c.args.asked.now in
    let little = c.in_ok-little.little.items in
    let made = c.in_ok-made.made.items in
    let left : take (length asked - c.len.result) (drop c.len.result asked) ≡ drop (length little) asked = take_rest asked c.len.result ∙ ap (λ n. drop n asked) (c.len.ensures ∙ c.in_ok-little.little.ok.0) in
    let others = subst (λ (left : List Asked). AreMade left made) left c.in_ok-made.ensures in
    IfOk-weaker c.with_all.result _ _ (λ all joined. answers_of_all asked little made all.items c.in_ok-little.ensures.answered others joined) c.with_all.ensures
