-- The answers of several searches in one list.
use Rattle.std.proofs.Common.{◌≡◌, ℕ, suc, ◌+◌, ◌<◌, List, [], ◌∷◌, ◌++◌, ◌∙◌, ap, append_assoc, arith, drop, get_or, length, map, subst, sym, take}
use Rattle.std.specs.List.{AllZip}
use Rattle.std.specs.Prelude.{IfSome, Option, Some}
use Rattle.std.proofs.lemmas.List.{length-append, map-append, take-append-drop, take_more}
use Rattle.std.proofs.lemmas.Slice.Zip.{all_zipped_more}
use Rattle.search_engine.specs.declared.answer.Answer.{Answer}
use Rattle.search_engine.specs.declared.several.Asked.{Asked}
use Rattle.search_engine.specs.Answers.{IsAnswerOf}
use Rattle.search_engine.specs.Several.{AreAllAdded, AreMade, Made, made_of}

-- the answer of one search more is found
pub answers_more : (asked : List Asked) (k : ℕ) (answers new : List Answer) (d one : Asked) (found : Option Answer) (answer : Answer) → k < length asked → one ≡ get_or asked k d → length answers ≡ k → AllZip IsAnswerOf (take (length answers) asked) answers → IfSome found (λ (a : Answer). IsAnswerOf one a) → found ≡ Some answer → new ≡ answers ++ answer ∷ [] → (length new ≡ k + 1) × AllZip IsAnswerOf (take (length new) asked) new
answers_more asked k answers new d one found answer below at as_many are is found_is pushed =
    let count : length new ≡ k + 1 = ap (λ (all : List Answer). length all) pushed ∙ omega (arith, length-append answers (answer ∷ []), as_many) in
    let first : AllZip IsAnswerOf (take k asked) answers = subst (λ n. AllZip IsAnswerOf (take n asked) answers) as_many are in
    let own : IsAnswerOf one answer = subst (λ (r : Option Answer). IfSome r (λ (a : Answer). IsAnswerOf one a)) found_is is in
    let next : IsAnswerOf (get_or asked k d) answer = subst (λ (a : Asked). IsAnswerOf a answer) at own in (
      count,
      subst (λ n. AllZip IsAnswerOf (take n asked) new) (sym count)
          (subst (λ (all : List Answer). AllZip IsAnswerOf (take (k + 1) asked) all) (sym pushed)
          (subst (λ (first : List Asked). AllZip IsAnswerOf first (answers ++ answer ∷ [])) (sym (take_more asked k d below))
          (all_zipped_more IsAnswerOf (take k asked) answers (get_or asked k d) answer first next))),
    )

-- the list of answers grows by one
pub AreAllAdded-more : (old now new : List Answer) (made : List Made) (one : Made) (answer : Answer) → one ≡ made_of answer → AreAllAdded old made now → new ≡ now ++ answer ∷ [] → AreAllAdded old (made ++ one ∷ []) new
AreAllAdded-more old now new made one answer is are pushed = record {
  more = are.more ++ answer ∷ [];
  good = ap (λ (ms : List Made). ms ++ one ∷ []) are.good ∙ (ap (λ (m : Made). map made_of are.more ++ m ∷ []) is ∙ sym (map-append made_of are.more (answer ∷ [])));
  added = pushed ∙ (ap (λ (answers : List Answer). answers ++ answer ∷ []) are.added ∙ append_assoc old are.more (answer ∷ []));
}

-- what was made of searches, where there was memory for each, are their answers
answers_of_made : (asked : List Asked) (more : List Answer) → AreMade asked (map made_of more) → AllZip IsAnswerOf asked more
answers_of_made [] [] are = tt
answers_of_made [] (answer ∷ more) are = absurd (omega (arith, are.as_many))
answers_of_made (one ∷ asked) [] are = absurd (omega (arith, are.as_many))
answers_of_made (one ∷ asked) (answer ∷ more) are = (
  are.each 0 (made_of answer) one (omega arith),
  answers_of_made asked more (record {
    as_many = omega (arith, are.as_many);
    each = λ i d a lt. are.each (suc i) d a (omega (arith, lt));
  }),
)

-- what holds place by place of two lists and of two others holds of the first with the others behind them
AllZip-append : {A B : Type 0} (R : A → B → Type 0) (xs : List A) (ys : List B) (us : List A) (vs : List B) → AllZip R xs ys → AllZip R us vs → AllZip R (xs ++ us) (ys ++ vs)
AllZip-append R [] [] us vs first then = then
AllZip-append R [] (y ∷ ys) us vs first then = absurd first
AllZip-append R (x ∷ xs) [] us vs first then = absurd first
AllZip-append R (x ∷ xs) (y ∷ ys) us vs first then = (first.0, AllZip-append R xs ys us vs first.1 then)

-- the answers of the first searches, with those of the others behind them, are those of all
pub answers_of_all : (asked : List Asked) (first : List Answer) (made : List Made) (all : List Answer) → AllZip IsAnswerOf (take (length first) asked) first → AreMade (drop (length first) asked) made → AreAllAdded first made all → AllZip IsAnswerOf asked all
answers_of_all asked first made all are others joined =
    let n = length first in
    let rest = answers_of_made (drop n asked) joined.more (subst (λ (ms : List Made). AreMade (drop n asked) ms) joined.good others) in
    subst (λ (whole : List Asked). AllZip IsAnswerOf whole all) (take-append-drop n asked)
    (subst (λ (answers : List Answer). AllZip IsAnswerOf (take n asked ++ drop n asked) answers) (sym joined.added)
    (AllZip-append IsAnswerOf (take n asked) first (drop n asked) joined.more are rest))
