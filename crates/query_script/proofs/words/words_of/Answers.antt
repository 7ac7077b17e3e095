use Rattle.std.proofs.Common.{◌≡◌, ◌++◌, ◌∙◌, [], ◌∷◌, subst, rules, sym}
use Rattle.std.proofs.lemmas.Bool.{eqb-true}
use Rattle.std.proofs.lemmas.List.{nil_from_length}
use Rattle.query_script.specs.Reading.{AreWordsTo}
use Rattle.query_script.proofs.LineWords.{AreWordsTo-end, AreWordsTo-more, AreWordsTo-start}
use Rattle.query_script.proofs.words.words_of.Goals as goal

pub loop-rest-init : goal.loop-rest-init
loop-rest-init c = record {
  read = subst (λ words. AreWordsTo c.args.line.now words c.without_blanks-rest.result.now) (sym c.new-words.ensures.items) (AreWordsTo-start _ _ c.without_blanks-rest.ensures.split c.without_blanks-rest.ensures.first);
  first = c.without_blanks-rest.ensures.first;
}

pub loop-rest-preserved : goal.loop-rest-preserved
loop-rest-preserved c =
    let pushed : c.push.new.self.items ≡ c.loop-rest.words.items ++ c.in-Ok-Some.word ∷ [] = search rules in
    let found = rw c.in-Ok-Some.field-0-is at c.in-Ok-Some.ensures in
    record {
      read = subst (λ words. AreWordsTo c.args.line.now words c.without_blanks-rest-in-Ok-Some.result.now) (sym pushed) (AreWordsTo-more _ _ _ _ _ _ c.loop-rest.invariant.read found.some c.without_blanks-rest-in-Ok-Some.ensures.split c.without_blanks-rest-in-Ok-Some.ensures.first);
      first = c.without_blanks-rest-in-Ok-Some.ensures.first;
    }

pub returns-clause-some : goal.returns-clause-some
returns-clause-some c = AreWordsTo-end _ _ _ c.loop-rest.invariant.read (nil_from_length _ (eqb-true _ 0 (sym c.is_empty.ensures ∙ c.loop-rest-test.false)))
