-- The text of a statement over one version, by what the statements before it left; and the line of what
-- is said of a record.
use Rattle.std.specs.Prelude.{◌≡◌, ℕ, List}
use Rattle.query_script.specs.Texts.{until_text}
use Rattle.query_script.specs.declared.statement.Statement.{Statement}
use Rattle.query_script.specs.declared.statement.Statement.TheVariants as statement
use Rattle.session_core.specs.Answers.{IsAnswer, IsAnswered, View}
use Rattle.session_core.specs.SessionState.{SessionState}
use Rattle.run_audit.specs.Verdict.{departs_text, lawful_text, too_long_text}
use Rattle.run_audit.specs.declared.verdict.Verdict.{Verdict}
use Rattle.run_audit.specs.declared.verdict.Verdict.TheVariants as told

-- the text of a statement over what is seen of the base, and what it leaves; an `until` tells the version
-- alone
abbrev pub IsTextOver : ℕ → View → SessionState → Statement → List ℕ → SessionState → Type 0
IsTextOver line view session (statement.Until number) text after =
    (text ≡ until_text line number view.version) × (after ≡ session)
IsTextOver line view session other text after = IsAnswer line view session other text after

-- the statement has such a text
abbrev pub IsOver : Statement → Type 0
IsOver (statement.Until number) = Unit {0}
IsOver other = IsAnswered other

-- the line of what is said of a record
abbrev pub verdict_text : Verdict → List ℕ
verdict_text told.Lawful = lawful_text
verdict_text (told.Departs at) = departs_text at
verdict_text told.TooLong = too_long_text
