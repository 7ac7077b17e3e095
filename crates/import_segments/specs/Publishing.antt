-- What an importer publishes of one import.
use Rattle.std.specs.Prelude.{◌≡◌, ◌≤◌, ℕ, List, [], ◌++◌, false, length}
use Rattle.std.specs.declared.option.Option.{Option}
use Rattle.kb_edges.specs.Files.{File}
use Rattle.kb_edges.specs.Told.{IfTold}
use Rattle.node_position.specs.Games.{Game}
use Rattle.version_publisher.specs.Contents.{items_in}
use Rattle.version_publisher.specs.declared.state.PublisherState.{PublisherState}
use Rattle.import_work.specs.Course.{trees_in}
use Rattle.import_work.specs.Imports.{GivesAll, GivesFirst, HasGiven, ImportState, IsListed}
use Rattle.import_work.specs.Log.{Segment}
use Rattle.import_work.specs.Outcome.{counts_of}
use Rattle.import_work.specs.Rooms.{AreCountsWithinLimits}
use Rattle.import_work.specs.declared.report.Report.{Report}

-- nothing is pending
abbrev pub IsIdle : PublisherState Game → Type 0
IsIdle publisher = (publisher.has_pending ≡ false) × (publisher.pending ≡ [])

-- The import was opened with this log, its number and its games and nodes, and has given no segment.
pub record IsOpenedWith (log : List Segment) (import : ImportState) : Type 0 where
  pub none_given : import.given ≡ 0
  pub number : import.number ≡ length log
  pub few : length log ≤ 9000000000000000000
  pub counts : import.counts ≡ counts_of (trees_in (items_in log))
  pub listed : IsListed import.source import.body import.left

-- the games and nodes of the log are within the limits of the base
abbrev pub IsLogWithinLimits : List Segment → Type 0
IsLogWithinLimits log = AreCountsWithinLimits (counts_of (trees_in (items_in log)))

-- The log has grown by segments that the import has given, in order, at a time when the count of
-- faults was at most what it is now. In a folder that tells its files they are the first of what the
-- import finds in it.
pub record PublishesFirst (told : Option (List File)) (batch : ℕ) (start : ImportState)
    (log_before log_now : List Segment) (faults_before faults_now : ℕ) : Type 0 where
  pub segments : List Segment
  pub now : ImportState
  pub faults : ℕ
  pub grown : log_now ≡ log_before ++ segments
  pub given : HasGiven told batch start faults_before segments now faults
  pub later : faults ≤ faults_now
  pub first : IfTold told (λ all. GivesFirst all batch start segments faults_before faults_now)

-- The log has grown by exactly the segments of the import, and the report is the import's: no name
-- is left, and its version is the last one. In a folder that tells its files the segments are what
-- the import finds in it, and the report tells that.
pub record PublishesAll (told : Option (List File)) (batch : ℕ) (start : ImportState)
    (log_before log_now : List Segment) (report : Report) (faults_before faults_now : ℕ)
    : Type 0 where
  pub segments : List Segment
  pub now : ImportState
  pub grown : log_now ≡ log_before ++ segments
  pub given : HasGiven told batch start faults_before segments now faults_now
  pub nothing_left : now.left ≡ []
  pub line : report.line ≡ start.line
  pub body : report.body ≡ now.body
  pub version : report.version ≡ length log_now
  pub all : IfTold told
      (λ all. GivesAll all batch start segments report.body faults_before faults_now)
