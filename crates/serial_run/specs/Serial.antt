-- What a whole run writes, for words of the command line, and a script, a folder and a sink that
-- tell their contents.
use Rattle.std.specs.Prelude.{◌≡◌, ◌++◌, ℕ, List, Option, Some}
use Rattle.kb_edges.specs.Files.{File}
use Rattle.hit_collectors.specs.Tallies.{BoxTally}
use Rattle.import_work.specs.Course.{ImportCourse, losses_of}
use Rattle.session_core.specs.Lawful.{IsLawful}
use Rattle.serial_run.specs.Run.{WritesLawful, WritesPrefix, serial_rules}
use Rattle.serial_run.specs.Script.{IsScript}
use Rattle.query_script.specs.CommandWords.{AreLawful}
use Rattle.query_script.specs.declared.command_words.Words.{Words}
use Rattle.query_script.specs.declared.statement.Placed.{Placed}

-- The words are lawful, and a lawful output for the script's statements was written, where the boxes
-- tell this at the start, by batches of as many files as the words say and by a course whose losses
-- are at most the rise of the folder's count.
pub record Prints (words : List (List ℕ)) (boxes : List BoxTally) (script : List ℕ)
    (files : List File) (before : List ℕ) (written : Option (List ℕ))
    (faults_before faults_now : ℕ) : Type 0 where
  pub read : Words
  pub say : AreLawful words read
  pub placed : List Placed
  pub spelled : IsScript script placed
  pub lawful :
      WritesLawful (serial_rules read.batch) files boxes placed before written faults_before faults_now

-- The words are lawful, and a lawful output for the script's statements was written, by batches of
-- as many files as the words say and by a course by which nothing was lost: no import is unlisted
-- and no file unread by a fault of the folder.
pub record PrintsAll (words : List (List ℕ)) (boxes : List BoxTally) (script : List ℕ)
    (files : List File) (before : List ℕ) (written : Option (List ℕ)) : Type 0 where
  pub read : Words
  pub say : AreLawful words read
  pub placed : List Placed
  pub spelled : IsScript script placed
  pub course : List ImportCourse
  pub text : List ℕ
  pub lawful : IsLawful files (serial_rules read.batch) boxes course placed text
  pub written_is : written ≡ Some (before ++ text)
  pub nothing_lost : losses_of course ≡ 0

-- The words are lawful, and a prefix of a lawful output for the script's statements was written, by
-- batches of as many files as the words say; the losses of its course are at most the rise of the
-- folder's count.
pub record PrintsPrefix (words : List (List ℕ)) (boxes : List BoxTally) (script : List ℕ)
    (files : List File) (before : List ℕ) (written : Option (List ℕ))
    (faults_before faults_now : ℕ) : Type 0 where
  pub read : Words
  pub say : AreLawful words read
  pub placed : List Placed
  pub spelled : IsScript script placed
  pub prefix :
      WritesPrefix (serial_rules read.batch) files boxes placed before written faults_before faults_now
