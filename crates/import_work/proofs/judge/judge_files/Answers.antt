use Rattle.std.proofs.Common.{◌≡◌, ◌∙◌, ◌++◌, append-nil, arith, ap, refl, rules, subst, sym}
use Rattle.std.proofs.lemmas.Grind.{common_steps}
use Rattle.std.proofs.lemmas.Iterator.Adapters.{YieldsList-from_vec}
use Rattle.std.proofs.lemmas.Iterator.Consumers.{YieldsList-end}
use Rattle.std.proofs.lemmas.List.{map-id}
use Rattle.import_work.specs.Judged.{AreFoundFiles, games_in_files}
use Rattle.import_work.proofs.Judges.{judged-more, judged-start, whole-more}
use Rattle.import_work.proofs.judge.judge_files.Goals as goal

pub loop-file-init : goal.loop-file-init
loop-file-init c = record {
  judged = λ texts none. judged-start texts _ _ _ none;
  counted = c.requires;
  whole = λ all. sym (append-nil c.args.games.now);
}

pub loop-file-preserved : goal.loop-file-preserved
loop-file-preserved c = record {
  judged = λ texts are. judged-more texts c.loop-file.yielded c.in-Some.file _ c.loop-file.counts c.in_ok-outcome.after c.in_ok-outcome.outcome _ _ _ _ _ _ _ c.loop-file.invariant.judged c.in_ok-outcome.ensures.judged c.in_ok-push.ensures.items refl refl are;
  counted = c.in_ok-outcome.ensures.counted;
  whole = λ all.
      let room = c.had_room-all.ensures all in
      whole-more c.loop-file.yielded c.in-Some.file c.args.games.now c.loop-file.games _ (c.loop-file.invariant.whole room.0) (c.in_ok-outcome.ensures.whole room.1);
}

pub returns-clause-judged : goal.returns-clause-judged
returns-clause-judged c = λ texts are.
    let all : c.loop-file.yielded ≡ c.args.files.items = sym (map-id c.loop-file.yielded) ∙ (YieldsList-end (YieldsList-from_vec {s = c.into_iter-file-iterator.result} c.args.files.items (first_of (search rules, grind (arith, common_steps))) (first_of (search rules, grind (arith, common_steps)))) c.loop-file.yielded c.loop-file.file-iterator c.loop-file.yielded_by c.next.result c.next.new.self c.in-None.is c.next.ensures.steps).0 in
    c.loop-file.invariant.judged texts (subst (λ fs. AreFoundFiles texts fs) (sym all) are)

pub returns-clause-whole : goal.returns-clause-whole
returns-clause-whole c = λ room.
    let all : c.loop-file.yielded ≡ c.args.files.items = sym (map-id c.loop-file.yielded) ∙ (YieldsList-end (YieldsList-from_vec {s = c.into_iter-file-iterator.result} c.args.files.items (first_of (search rules, grind (arith, common_steps))) (first_of (search rules, grind (arith, common_steps)))) c.loop-file.yielded c.loop-file.file-iterator c.loop-file.yielded_by c.next.result c.next.new.self c.in-None.is c.next.ensures.steps).0 in
    c.loop-file.invariant.whole room ∙ ap (λ fs. c.args.games.now ++ games_in_files fs) all
