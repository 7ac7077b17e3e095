-- The command line as the library that reads its words sees it. Definitions of private functions.
use Rattle.std.specs.Prelude.{◌≡◌, ℕ, Bool, true, if◌then◌else◌, List, Option, Some, None, codes}
use Rattle.clap.specs.Words.{App, Row, Rule, first_of, new_app, new_rule, one_of, with_rule}
use Rattle.clap.specs.declared.builder.action.ArgAction.TheVariants.{Set, SetTrue}
use Rattle.query_script.specs.declared.command_words.Words.{Words}
use Rattle.query_script.specs.CommandWords.{IsBatch}

abbrev pub serial_option : Rule
serial_option = record (new_rule (codes "serial")) {
  long = Some (codes "serial");
  action = Some SetTrue;
}

abbrev pub batch_option : Rule
batch_option = record (new_rule (codes "batch")) { long = Some (codes "batch"); action = Some Set }

-- a command of the two options, without the name of the program and without help
abbrev pub command_line : App
command_line =
    let bare = new_app (codes "gobase") in
    let alone = record bare {
      top = record bare.top { no_binary_name = true; disable_help_flag = true };
    } in
    with_rule (with_rule alone serial_option) batch_option

-- how many files come into the base at a time, by what stands behind `--batch`, if it is there
abbrev pub SaysBatch : Option (List ℕ) → ℕ → Type 0
SaysBatch (Some digits) batch = IsBatch digits batch
SaysBatch None batch = batch ≡ 64

-- the text of a flag
abbrev pub flag_text : Bool → List ℕ
flag_text is_given = if is_given then codes "true" else codes "false"

-- What the options say, by the values that were found for them.
pub record SayOptions (rows : List Row) (words : Words) : Type 0 where
  pub serial : (given : Bool) → one_of (codes "serial") rows ≡ Some (flag_text given) →
      words.serial ≡ given
  pub batch : SaysBatch (first_of (codes "batch") rows) words.batch
