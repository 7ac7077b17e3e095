-- The words of an audit, and which task the words of a command line ask for.
use Rattle.std.specs.Prelude.{◌≡◌, ◌≢◌, ℕ, List, [], ◌∷◌, codes}
use Rattle.query_script.specs.CommandWords.{AreLawful}
use Rattle.query_script.specs.declared.command_words.Words.{Words}
use Rattle.session_core.specs.Lawful.{Rules}

-- the byte `-`
abbrev pub hyphen : ℕ
hyphen = 45

-- the word is the path of a record: it isn't empty, and no hyphen stands in front
abbrev pub IsRecordPath : List ℕ → Type 0
IsRecordPath [] = ⊥
IsRecordPath (byte ∷ bytes) = byte ≢ hyphen

-- the words are the path of a record, and behind it the words of the run that made it, which say this
pub record AreAuditWords (words : List (List ℕ)) (path : List ℕ) (read : Words) : Type 0 where
  pub others : List (List ℕ)
  pub words_are : words ≡ path ∷ others
  pub is_path : IsRecordPath path
  pub lawful : AreLawful others read

-- how a run with these words names versions
abbrev pub rules_of : Words → Rules
rules_of read = record { batch = read.batch; serial = read.serial }

-- the name of the file that is audited
abbrev pub record_name : List ℕ
record_name = codes "record"

-- the first of these words asks for an audit
abbrev pub AsksForAudit : List (List ℕ) → Type 0
AsksForAudit [] = ⊥
AsksForAudit (word ∷ words) = word ≡ codes "audit"
