use Rattle.std.proofs.Common.{ℕ, List, IfOk, subst, sym}
use Rattle.std.specs.Option.{IfNone}
use Rattle.query_script.specs.declared.word.Word.{Word}
use Rattle.query_script.specs.Words.{AreWords}
use Rattle.query_script.proofs.words.first_word.Goals as goal

pub returns-in-Some-clause-none : goal.returns-in-Some-clause-none
returns-in-Some-clause-none c =
    let Holds : List ℕ → Type 0 = λ text. IfOk c.quoted_word.result (λ found. IfNone found ((words : List Word) → ¬ AreWords text words)) in
    subst Holds (sym c.in-Some.ensures.some) c.quoted_word.ensures.none
