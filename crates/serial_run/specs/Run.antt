-- What a run of a script leaves: what it wrote, and what it lost to faults of the folder.
use Rattle.std.specs.Prelude.{◌≡◌, ℕ, List, ◌++◌, Option, Some, true}
use mathlib.Core.List.{IsPrefix}
use Rattle.kb_edges.specs.Faults.{RoseBy}
use Rattle.kb_edges.specs.Files.{File}
use Rattle.hit_collectors.specs.Tallies.{BoxTally}
use Rattle.query_script.specs.declared.statement.Placed.{Placed}
use Rattle.import_work.specs.Course.{ImportCourse, losses_of}
use Rattle.session_core.specs.Lawful.{IsLawful, Rules}

-- how a serial run names versions: so many files make one
abbrev pub serial_rules : ℕ → Rules
serial_rules batch = record { batch = batch; serial = true }

-- A lawful output of these statements was written, where the boxes tell this at the start, by a
-- course whose losses are at most the rise of the folder's count.
pub record WritesLawful (rules : Rules) (files : List File) (boxes : List BoxTally)
    (placed : List Placed) (before : List ℕ) (written : Option (List ℕ))
    (faults_before faults_now : ℕ) : Type 0 where
  pub course : List ImportCourse
  pub text : List ℕ
  pub lawful : IsLawful files rules boxes course placed text
  pub written_is : written ≡ Some (before ++ text)
  pub paid : RoseBy (losses_of course) faults_before faults_now

-- A prefix of a lawful output of these statements was written, and the losses of its course are at
-- most the rise of the folder's count.
pub record WritesPrefix (rules : Rules) (files : List File) (boxes : List BoxTally)
    (placed : List Placed) (before : List ℕ) (written : Option (List ℕ))
    (faults_before faults_now : ℕ) : Type 0 where
  pub course : List ImportCourse
  pub whole : List ℕ
  pub lawful : IsLawful files rules boxes course placed whole
  pub text : List ℕ
  pub prefix : IsPrefix text whole
  pub written_is : written ≡ Some (before ++ text)
  pub paid : RoseBy (losses_of course) faults_before faults_now
