use Rattle.std.proofs.Common.{◌≡◌, ◌∙◌, [], append-nil, arith, refl, rules, subst, sym}
use Rattle.std.proofs.lemmas.Grind.{common_steps}
use Rattle.std.proofs.lemmas.Iterator.Adapters.{YieldsList-from_vec}
use Rattle.std.proofs.lemmas.Iterator.Consumers.{YieldsList-end}
use Rattle.std.proofs.lemmas.List.{map-id}
use Rattle.search_engine.specs.Several.{AreAllAdded}
use Rattle.search_engine.proofs.SeveralAnswers.{AreAllAdded-more}
use Rattle.search_engine.proofs.several.with_all.Goals as goal

pub loop-answer-init : goal.loop-answer-init
loop-answer-init c = record { more = []; good = refl; added = sym (append-nil c.args.answers.items) }

pub loop-answer-preserved : goal.loop-answer-preserved
loop-answer-preserved c = AreAllAdded-more c.args.answers.items c.loop-answer.all.items c.push.new.self.items c.loop-answer.yielded c.in-Some.answer c.in_ok-answer.field-0 c.in_ok-answer.was c.loop-answer.invariant c.in_ok-push.ensures.items

pub returns : goal.returns
returns c =
    let all : c.loop-answer.yielded ≡ c.args.made.items = sym (map-id c.loop-answer.yielded) ∙ (YieldsList-end (YieldsList-from_vec {s = c.into_iter-answer-iterator.result} c.args.made.items (first_of (search rules, grind (arith, common_steps))) (first_of (search rules, grind (arith, common_steps)))) c.loop-answer.yielded c.loop-answer.answer-iterator c.loop-answer.yielded_by c.next.result c.next.new.self c.in-None.is c.next.ensures.steps).0 in
    subst (λ made. AreAllAdded c.args.answers.items made c.loop-answer.all.items) all c.loop-answer.invariant
