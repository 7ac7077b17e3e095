-- What a run with a base leaves that stopped amid its statements.
use Rattle.std.specs.Prelude.{◌≡◌, ℕ, List, ◌++◌, Option, Some, false, true}
use mathlib.Core.List.{IsPrefix}
use Rattle.kb_edges.specs.Faults.{RoseBy}
use Rattle.kb_edges.specs.Files.{File}
use Rattle.hit_collectors.specs.Tallies.{BoxTally}
use Rattle.query_script.specs.CommandWords.{AreLawful}
use Rattle.query_script.specs.declared.command_words.Words.{Words}
use Rattle.query_script.specs.declared.statement.Placed.{Placed}
use Rattle.node_position.specs.Games.{Game}
use Rattle.version_publisher.specs.declared.state.PublisherState.{PublisherState}
use Rattle.import_work.specs.Course.{ImportCourse, losses_of}
use Rattle.import_work.specs.Log.{Segment}
use Rattle.session_core.specs.Lawful.{HasPrinted, Rules, State, waiting_text}
use Rattle.serial_run.specs.Run.{WritesPrefix, serial_rules}
use Rattle.serial_run.specs.Script.{IsScript}
use Rattle.search_run.specs.Run.{beside_rules}

-- A prefix of a lawful output of these statements was written, and what was published is a prefix of
-- the log of the same course. The losses of the course are at most the rise of the folder's count.
pub record WritesPublishedPrefix (rules : Rules) (files : List File) (boxes : List BoxTally)
    (placed : List Placed) (before : List ℕ) (written : Option (List ℕ))
    (faults_before faults_now : ℕ) (published : List Segment) : Type 0 where
  pub course : List ImportCourse
  pub text : List ℕ
  pub state : State
  pub printed : HasPrinted files rules boxes course placed state text
  pub part : List ℕ
  pub prefix : IsPrefix part (text ++ waiting_text state)
  pub written_is : written ≡ Some (before ++ part)
  pub paid : RoseBy (losses_of course) faults_before faults_now
  pub log : IsPrefix published state.log

-- The words are lawful, and the run stopped amid the script's statements. With the word `--serial` a
-- prefix of a lawful output was written, as PrintsPrefix tells, and the publisher came back as it was
-- given. Without it imports went on beside the statements: a prefix of a lawful output was written,
-- and the log of the publisher that came back is a prefix of that of the same course.
pub record PrintsStopped (words : List (List ℕ)) (boxes : List BoxTally) (script : List ℕ)
    (files : List File) (before : List ℕ) (written : Option (List ℕ))
    (faults_before faults_now : ℕ) (given back : PublisherState Game) : Type 0 where
  pub read : Words
  pub say : AreLawful words read
  pub placed : List Placed
  pub spelled : IsScript script placed
  pub one_by_one : read.serial ≡ true →
      WritesPrefix (serial_rules read.batch) files boxes placed before written faults_before
      faults_now × (back ≡ given)
  pub published : read.serial ≡ false →
      WritesPublishedPrefix (beside_rules read.batch) files boxes placed before written
      faults_before faults_now back.log
