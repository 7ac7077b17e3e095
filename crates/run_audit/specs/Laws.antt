-- The laws of guided outputs and of verdicts. The statements are those of a script, and a version has
-- the games of one file at least.
use Rattle.std.specs.Prelude.{◌≡◌, ◌↔◌, ℕ, ◌<◌, ◌≤◌, List, length}
use Rattle.kb_edges.specs.Files.{File}
use Rattle.hit_collectors.specs.Tallies.{BoxTally}
use Rattle.query_script.specs.declared.statement.Placed.{Placed}
use Rattle.import_work.specs.Course.{ImportCourse}
use Rattle.session_core.specs.Lawful.{IsLawful, Rules}
use Rattle.serial_run.specs.Script.{IsScript}
use Rattle.run_audit.specs.Guided.{IsGuided, IsGuidedBy}
use Rattle.run_audit.specs.Verdict.{HaveOneLineNames, IsUnlawful, IsVerdict, departs_text, lawful_text, most_record_bytes, too_long_text}

-- each record has a guided output
abbrev pub EachRecordHasAGuidedOutput : Type 0
EachRecordHasAGuidedOutput = (files : List File) (rules : Rules) (boxes : List BoxTally)
    (script : List ℕ) (placed : List Placed) (recorded : List ℕ) →
    1 ≤ rules.batch → IsScript script placed →
    (guided : List ℕ) × IsGuided files rules boxes placed recorded guided

-- a record has one guided output only
abbrev pub ARecordHasOneGuidedOutput : Type 0
ARecordHasOneGuidedOutput = (files : List File) (rules : Rules) (boxes : List BoxTally)
    (script : List ℕ) (placed : List Placed) (recorded one other : List ℕ) →
    1 ≤ rules.batch → IsScript script placed →
    IsGuided files rules boxes placed recorded one →
    IsGuided files rules boxes placed recorded other → one ≡ other

-- a guided output is lawful, by the course that the record shows
abbrev pub AGuidedOutputIsLawful : Type 0
AGuidedOutputIsLawful = (files : List File) (rules : Rules) (boxes : List BoxTally)
    (placed : List Placed) (recorded : List ℕ) (course : List ImportCourse) (guided : List ℕ) →
    IsGuidedBy files rules boxes placed recorded course guided →
    IsLawful files rules boxes course placed guided

-- a lawful output is its own guided output, by its own course, where no file's name and no box's name
-- has a line feed
abbrev pub ALawfulOutputGuidesItself : Type 0
ALawfulOutputGuidesItself = (files : List File) (rules : Rules) (boxes : List BoxTally)
    (script : List ℕ) (placed : List Placed) (course : List ImportCourse) (out : List ℕ) →
    1 ≤ rules.batch → IsScript script placed → HaveOneLineNames files boxes →
    IsLawful files rules boxes course placed out →
    IsGuidedBy files rules boxes placed out course out

-- each record has a verdict, and one only
abbrev pub EachRecordHasAVerdict : Type 0
EachRecordHasAVerdict = (files : List File) (rules : Rules) (boxes : List BoxTally)
    (script : List ℕ) (placed : List Placed) (recorded : List ℕ) →
    1 ≤ rules.batch → IsScript script placed → HaveOneLineNames files boxes →
    (line : List ℕ) × IsVerdict files rules boxes placed recorded line

abbrev pub ARecordHasOneVerdict : Type 0
ARecordHasOneVerdict = (files : List File) (rules : Rules) (boxes : List BoxTally)
    (script : List ℕ) (placed : List Placed) (recorded one other : List ℕ) →
    1 ≤ rules.batch → IsScript script placed → HaveOneLineNames files boxes →
    IsVerdict files rules boxes placed recorded one →
    IsVerdict files rules boxes placed recorded other → one ≡ other

-- A record is told lawful exactly where it isn't too long and is a lawful output, and too long exactly
-- where it is; one that is told to depart is no lawful output.
pub record VerdictsAreExact (files : List File) (rules : Rules) (boxes : List BoxTally)
    (placed : List Placed) (recorded : List ℕ) : Type 0 where
  pub lawful : IsVerdict files rules boxes placed recorded lawful_text
      ↔ ((length recorded ≤ most_record_bytes)
      × ((course : List ImportCourse) × IsLawful files rules boxes course placed recorded))
  pub too_long : IsVerdict files rules boxes placed recorded too_long_text
      ↔ (most_record_bytes < length recorded)
  pub departs : (offset : ℕ) → IsVerdict files rules boxes placed recorded (departs_text offset) →
      IsUnlawful files rules boxes placed recorded

abbrev pub AVerdictIsExact : Type 0
AVerdictIsExact = (files : List File) (rules : Rules) (boxes : List BoxTally) (script : List ℕ)
    (placed : List Placed) (recorded : List ℕ) → 1 ≤ rules.batch → IsScript script placed →
    HaveOneLineNames files boxes → VerdictsAreExact files rules boxes placed recorded
