-- What a whole audit writes.
use Rattle.std.specs.Prelude.{◌≡◌, ℕ, List, ◌++◌, Option, Some}
use mathlib.Core.List.{IsPrefix}
use Rattle.kb_edges.specs.Files.{File, content_of}
use Rattle.hit_collectors.specs.Tallies.{BoxTally}
use Rattle.query_script.specs.declared.command_words.Words.{Words}
use Rattle.query_script.specs.declared.statement.Placed.{Placed}
use Rattle.serial_run.specs.Script.{IsScript}
use Rattle.run_audit.specs.AuditWords.{AreAuditWords, record_name, rules_of}
use Rattle.run_audit.specs.Verdict.{HaveOneLineNames, IsUnlawful, IsVerdict, IsVerdictLine, departs_text}

-- The words are lawful, and this line is the verdict of the record under their path for the script's
-- statements, by the words of the run and where the boxes tell this at the start. Where no file's name
-- and no box's name has a line feed, a record that is told to depart is no lawful output.
pub record IsAudited (words : List (List ℕ)) (boxes : List BoxTally) (script : List ℕ)
    (files : List File) (line : List ℕ) : Type 0 where
  pub path : List ℕ
  pub read : Words
  pub say : AreAuditWords words path read
  pub placed : List Placed
  pub spelled : IsScript script placed
  pub recorded : List ℕ
  pub is_record : content_of files path record_name ≡ Some recorded
  pub verdict : IsVerdict files (rules_of read) boxes placed recorded line
  pub unlawful : HaveOneLineNames files boxes → (offset : ℕ) → line ≡ departs_text offset →
      IsUnlawful files (rules_of read) boxes placed recorded

-- the verdict was written
pub record WritesVerdict (words : List (List ℕ)) (boxes : List BoxTally) (script : List ℕ)
    (files : List File) (before : List ℕ) (written : Option (List ℕ)) : Type 0 where
  pub line : List ℕ
  pub audited : IsAudited words boxes script files line
  pub written_is : written ≡ Some (before ++ line)

-- a prefix of the verdict was written
pub record WritesVerdictPrefix (words : List (List ℕ)) (boxes : List BoxTally) (script : List ℕ)
    (files : List File) (before : List ℕ) (written : Option (List ℕ)) : Type 0 where
  pub line : List ℕ
  pub audited : IsAudited words boxes script files line
  pub text : List ℕ
  pub prefix : IsPrefix text line
  pub written_is : written ≡ Some (before ++ text)

-- one of the lines of an audit was written, whatever the folder tells
pub record WritesLine (before : List ℕ) (written : Option (List ℕ)) : Type 0 where
  pub line : List ℕ
  pub is_line : IsVerdictLine line
  pub written_is : written ≡ Some (before ++ line)

-- a prefix of one of the lines of an audit was written, whatever the folder tells
pub record WritesLinePrefix (before : List ℕ) (written : Option (List ℕ)) : Type 0 where
  pub line : List ℕ
  pub is_line : IsVerdictLine line
  pub text : List ℕ
  pub prefix : IsPrefix text line
  pub written_is : written ≡ Some (before ++ text)
