-- What a run with a base leaves: what it wrote, what it lost to faults of the folder, and the log of
-- its publisher.
use Rattle.std.specs.Prelude.{◌≡◌, ℕ, List, ◌++◌, Option, Some, false, true}
use Rattle.kb_edges.specs.Faults.{Rose, RoseBy}
use Rattle.kb_edges.specs.Files.{File}
use Rattle.hit_collectors.specs.Tallies.{BoxTally}
use Rattle.query_script.specs.CommandWords.{AreLawful}
use Rattle.query_script.specs.declared.command_words.Words.{Words}
use Rattle.query_script.specs.declared.statement.Placed.{Placed}
use Rattle.node_position.specs.Games.{Game}
use Rattle.version_publisher.specs.declared.state.PublisherState.{PublisherState}
use Rattle.import_work.specs.Course.{ImportCourse, losses_of}
use Rattle.import_segments.specs.Merged.{AreMerged}
use Rattle.import_segments.specs.Publishing.{IsIdle}
use Rattle.session_core.specs.Lawful.{HasPrinted, Rules, State, waiting_text}
use Rattle.serial_run.specs.Run.{WritesLawful, serial_rules}
use Rattle.serial_run.specs.Script.{IsScript}

-- how a run whose imports go on beside its statements names versions: so many files make one
abbrev pub beside_rules : ℕ → Rules
beside_rules batch = record { batch = batch; serial = false }

-- A lawful output of these statements was written, and the publisher's log is that of the same
-- course, with nothing pending. Of its published parts the last has fewer games than the one before
-- it, where there are two. The losses of the course are at most the rise of the folder's count,
-- so that without a rise nothing is lost.
pub record WritesPublished (rules : Rules) (files : List File) (boxes : List BoxTally)
    (placed : List Placed) (before : List ℕ) (written : Option (List ℕ))
    (faults_before faults_now : ℕ) (publisher : PublisherState Game) : Type 0 where
  pub course : List ImportCourse
  pub text : List ℕ
  pub state : State
  pub printed : HasPrinted files rules boxes course placed state text
  pub written_is : written ≡ Some (before ++ (text ++ waiting_text state))
  pub paid : RoseBy (losses_of course) faults_before faults_now
  pub nothing_lost : ¬ Rose faults_before faults_now → losses_of course ≡ 0
  pub log : publisher.log ≡ state.log
  pub idle : IsIdle publisher
  pub merged : AreMerged publisher.parts

-- The words are lawful, and a lawful output for the script's statements was written, as Prints
-- tells. With the word `--serial` it is one in which each statement was done before the next began,
-- and the publisher came back as it was given. Without it imports went on beside the statements, and
-- the log of the publisher that came back is that of the same course.
pub record PrintsPublished (words : List (List ℕ)) (boxes : List BoxTally) (script : List ℕ)
    (files : List File) (before : List ℕ) (written : Option (List ℕ))
    (faults_before faults_now : ℕ) (given back : PublisherState Game) : Type 0 where
  pub read : Words
  pub say : AreLawful words read
  pub placed : List Placed
  pub spelled : IsScript script placed
  pub one_by_one : read.serial ≡ true →
      WritesLawful (serial_rules read.batch) files boxes placed before written faults_before
      faults_now × (back ≡ given)
  pub published : read.serial ≡ false →
      WritesPublished (beside_rules read.batch) files boxes placed before written faults_before
      faults_now back
