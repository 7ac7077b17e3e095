use Rattle.std.proofs.Common.{◌≡◌, subst, rules}
use Rattle.query_script.specs.declared.word.Word.TheVariants as word
use Rattle.query_script.specs.Reading.{BeginsWithWord}
use Rattle.query_script.proofs.LineWords.{bare_no_end, bare_there}
use Rattle.query_script.proofs.words.bare_word.Goals as goal

pub returns-then-not-is_word_end-clause-none : goal.returns-then-not-is_word_end-clause-none
returns-then-not-is_word_end-clause-none c =
    bare_no_end _ _ _ c.requires.some c.requires.first c.requires.bare c.split_bare.ensures.split c.split_bare.ensures.bare c.split_bare.ensures.ends (search rules)

pub returns-clause-some : goal.returns-clause-some
returns-clause-some c =
    let same : c.split_bare.result.0.now ≡ c.new.result = search rules in
    subst (λ bytes. BeginsWithWord c.args.text.now (word.Bare bytes) c.split_bare.result.1.now) same
    (bare_there _ _ _ c.requires.some c.requires.first c.requires.bare c.split_bare.ensures.split c.split_bare.ensures.bare c.split_bare.ensures.ends (search rules))
