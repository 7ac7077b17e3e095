use Rattle.std.proofs.Common.{◌≡◌, ◌++◌, ◌∷◌, rules, sym, subst}
use Rattle.query_script.specs.declared.word.Word.TheVariants as word
use Rattle.query_script.specs.Reading.{BeginsWithWord}
use Rattle.query_script.specs.Words.{IsWordEnd, escaped}
use Rattle.query_script.proofs.LineWords.{quoted_no_end, quoted_not, quoted_there}
use Rattle.query_script.proofs.words.quoted_word.Goals as goal

pub returns-in_default-clause-none : goal.returns-in_default-clause-none
returns-in_default-clause-none c = quoted_not _ (rw c.in_default.is at c.in_ok-bytes.ensures.none)

pub returns-then-not-is_word_end-clause-none : goal.returns-then-not-is_word_end-clause-none
returns-then-not-is_word_end-clause-none c =
    let text : c.args.inner.now ≡ escaped c.in-Some.bytes.items ++ 34 ∷ c.in-Some.behind.now = rw c.in-Some.is at c.in_ok-bytes.ensures.some in
    let no_end : ¬ IsWordEnd c.in-Some.behind.now = search rules in
    quoted_no_end _ c.in-Some.bytes.items _ text no_end

pub returns-clause-some : goal.returns-clause-some
returns-clause-some c =
    let text : c.args.inner.now ≡ escaped c.in-Some.bytes.items ++ 34 ∷ c.in-Some.behind.now = rw c.in-Some.is at c.in_ok-bytes.ensures.some in
    let end : IsWordEnd c.in-Some.behind.now = search rules in
    subst (λ bytes. BeginsWithWord (34 ∷ c.args.inner.now) (word.Quoted bytes) c.in-Some.behind.now) (sym c.new.ensures) (quoted_there _ c.in-Some.bytes.items _ text end)
