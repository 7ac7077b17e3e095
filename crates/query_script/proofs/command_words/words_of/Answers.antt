use Rattle.std.proofs.Common.{◌∙◌, codes, sym, subst}
use Rattle.clap.specs.Words.{found_of, one_text}
use Rattle.clap.proofs.WalkLemmas.{first_value-rows, one_text-rows}
use Rattle.query_script.specs.CommandLine.{SaysBatch}
use Rattle.query_script.proofs.LawfulWords.{flag_is}
use Rattle.query_script.proofs.command_words.words_of.Goals as goal

pub returns-in_default-clause-bad : goal.returns-in_default-clause-bad
returns-in_default-clause-bad c = λ _ batch says.
    let found = found_of c.args.matches.now in
    let same = c.get_str.ensures ∙ first_value-rows found (codes "batch") in
    c.batch_said.ensures.none c.in_default.is batch (subst (λ o. SaysBatch o batch) (sym same) says)

pub returns-clause-read : goal.returns-clause-read
returns-clause-read c =
    let found = found_of c.args.matches.now in
    let same = c.get_str.ensures ∙ first_value-rows found (codes "batch") in
    record {
      serial = λ given is. flag_is (one_text found (codes "serial")) c.get_flag-serial.result c.get_flag-serial.ensures.value c.get_flag-serial.ensures.other given (one_text-rows found (codes "serial") ∙ is);
      batch = subst (λ o. SaysBatch o c.in-Some.batch) same c.in-Some.ensures.some;
    }
