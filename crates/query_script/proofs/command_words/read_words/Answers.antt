use Rattle.std.proofs.Common.{◌∙◌, map, string_bytes, sym, ap, subst, true≢false}
use Rattle.std.specs.Prelude.{codes}
use Rattle.std.specs.Str.{bytes_eq}
use Rattle.std.proofs.lemmas.Result.{IfOk-weaker}
use Rattle.clap.proofs.WalkLemmas.{list_any-map}
use Rattle.clap.specs.Faults.{fault_of, is_simple_and_free}
use Rattle.clap.specs.Kinds.{FailsBy}
use Rattle.clap.specs.Simple.{is_simple, matches_of}
use Rattle.clap.specs.Words.{found_of, rows_of}
use Rattle.query_script.proofs.LawfulWords.{found_no_fault, lawful_has_none, other_error, read_is_lawful, refused_is_unlawful, unread_is_unlawful}
use Rattle.query_script.proofs.command_words.read_words.Goals as goal

pub returns-then-has_double_hyphen-clause-bad : goal.returns-then-has_double_hyphen-clause-bad
returns-then-has_double_hyphen-clause-bad c = λ _ read is.
    true≢false (c.if-has_double_hyphen.ensures ∙ list_any-map (λ word. bytes_eq word (codes "--")) string_bytes c.args.words.now ∙ lawful_has_none is)

pub returns-in-Ok-clause-read : goal.returns-in-Ok-clause-read
returns-in-Ok-clause-read c =
    let words = map string_bytes c.args.words.now in
    let app = c.in_ok-command.ensures in
    let rows = ap (λ a. matches_of a words) app in
    let same = (c.in-Ok.ensures.matches (ap is_simple app)).0 ∙ rows in
    let fails = subst (λ a. FailsBy (fault_of a words) c.try_get_matches_from.result) app (c.try_get_matches_from.ensures.kinds (ap is_simple_and_free app)) in
    let hyphens = sym (c.if-has_double_hyphen.ensures ∙ list_any-map (λ word. bytes_eq word (codes "--")) string_bytes c.args.words.now) in
    IfOk-weaker c.words_of.result _ _ (λ read says. read_is_lawful words (rows_of (found_of c.in-Ok.matches)) same read hyphens (found_no_fault _ _ c.in-Ok.matches fails c.in-Ok.is) says) c.words_of.ensures.read

pub returns-in-Ok-clause-bad : goal.returns-in-Ok-clause-bad
returns-in-Ok-clause-bad c = λ is read.
    let words = map string_bytes c.args.words.now in
    let app = c.in_ok-command.ensures in
    let same = (c.in-Ok.ensures.matches (ap is_simple app)).0 ∙ ap (λ a. matches_of a words) app in
    unread_is_unlawful words (rows_of (found_of c.in-Ok.matches)) same (c.words_of.ensures.bad is) read

pub returns-in-Err-clause-bad : goal.returns-in-Err-clause-bad
returns-in-Err-clause-bad c = λ is read.
    let words = map string_bytes c.args.words.now in
    let app = c.in_ok-command.ensures in
    let fails = subst (λ a. FailsBy (fault_of a words) c.try_get_matches_from.result) app (c.try_get_matches_from.ensures.kinds (ap is_simple_and_free app)) in
    refused_is_unlawful words c.try_get_matches_from.result c.in-Err.error fails c.in-Err.is (λ memory. other_error is (c.refusal_of.ensures.1 memory)) read
