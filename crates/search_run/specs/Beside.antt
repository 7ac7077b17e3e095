-- What is printed while an import is under way, and how an import ends: definitions of the private
-- functions.
use Rattle.std.specs.Prelude.{◌≡◌, ◌≤◌, ◌+◌, ℕ, List, [], ◌∷◌, ◌++◌, length, Option, Some, Result, Ok, IfOk}
use mathlib.Core.List.{IsPrefix}
use Rattle.kb_edges.specs.Faults.{RoseBy}
use Rattle.kb_edges.specs.Files.{File}
use Rattle.kb_edges.specs.Told.{IfTold}
use Rattle.kb_geometry.specs.declared.memory.NoMemory.{NoMemory}
use Rattle.hit_collectors.specs.Tallies.{BoxTally}
use Rattle.query_script.specs.declared.statement.Placed.{Placed}
use Rattle.query_script.specs.declared.statement.PlacedSearch.{PlacedSearch}
use Rattle.query_script.specs.declared.statement.Statement.{Statement}
use Rattle.query_script.specs.declared.statement.Statement.TheVariants as statement
use Rattle.node_position.specs.Games.{Game}
use Rattle.version_publisher.specs.Contents.{BookName, items_in}
use Rattle.version_publisher.specs.declared.state.PublisherState.{PublisherState}
use Rattle.version_publisher.specs.declared.state.SearcherState.{SearcherState}
use Rattle.import_work.specs.Course.{Finding, ImportCourse, IsImported, losses_of, trees_in}
use Rattle.import_work.specs.Imports.{games_reported}
use Rattle.import_work.specs.Log.{Segment, games_of_segments, segments_of}
use Rattle.import_work.specs.Outcome.{counts_of}
use Rattle.import_work.specs.declared.report.Report.{Report}
use Rattle.import_work.specs.declared.source.Source.{Source}
use Rattle.session_core.specs.Lawful.{HasPrinted, Rules, State}
use Rattle.session_core.specs.SessionState.{SessionState}
use Rattle.import_segments.specs.Merged.{AreMerged}
use Rattle.import_segments.specs.Publishing.{IsIdle, IsLogWithinLimits}
use Rattle.session_core.specs.ImportTexts.{told_text}
use Rattle.search_run.specs.Run.{beside_rules}
use Rattle.serial_run.specs.Steps.{HasRun, Kept}
use Rattle.session_core.specs.ImportTexts.{report_text}
use Rattle.search_run.specs.declared.importer.ImportJob.{ImportJob}

-- ---- what is printed beside an import

-- These statements print this text and lead to a state with this log, in which this report waits;
-- the floor is at most this number, and this is left.
pub record IsPrintedWith (files : List File) (rules : Rules) (start : List BoxTally)
    (course : List ImportCourse) (placed : List Placed) (log : List Segment) (report : List ℕ)
    (floor : ℕ) (session : SessionState) (text : List ℕ) : Type 0 where
  pub state : State
  pub printed : HasPrinted files rules start course placed state text
  pub log_is : state.log ≡ log
  pub waiting_is : state.waiting ≡ Some report
  pub floor_at_most : state.floor ≤ floor
  pub session_is : state.session ≡ session

-- An import from this source, whose report has this line, is under way. It began in this state, by this
-- course. Whatever it finds, if the log with its segments agrees with all that was seen of it, these
-- statements, the import among them, print this text.
abbrev pub PrintsBeside : List File → Rules → List BoxTally → State → ℕ → Source →
    List ImportCourse → (List Segment → Type 0) → ℕ → SessionState → List Placed → List ℕ → Type 0
PrintsBeside files rules start began line source course IsSeen floor session placed text =
    (entry : ImportCourse) (finding : Finding) →
    IsImported files source (counts_of (trees_in (games_of_segments began.log))) entry finding →
    IsSeen (began.log ++ segments_of rules.batch finding) →
    IsPrintedWith files rules start (course ++ entry ∷ []) placed
    (began.log ++ segments_of rules.batch finding)
    (report_text line finding (length (began.log ++ segments_of rules.batch finding)))
    floor session text

-- Beside whatever import is under way these statements print this text more. It lists what was seen
-- of the log before and is now, the floor before and now, and what was left before and is now.
abbrev pub GoesOnBeside : Rules → (List Segment → Type 0) → ℕ → SessionState → List Placed →
    List ℕ → (List Segment → Type 0) → ℕ → SessionState → Type 0
GoesOnBeside rules WasSeen floor session more text IsSeen floor_now session_now =
    (files : List File) (start : List BoxTally) (began : State) (line : ℕ) (source : Source)
    (course : List ImportCourse) (placed : List Placed) (printed : List ℕ) →
    PrintsBeside files rules start began line source course WasSeen floor session placed printed →
    PrintsBeside files rules start began line source course IsSeen floor_now session_now
    (placed ++ more) (printed ++ text)

-- ---- how an import ends

-- what an import from this source, in a base with this log, finds in these files, by an entry of the
-- course whose losses are at most the rise of the folder's count
pub record Finds (files : List File) (source : Source) (log : List Segment)
    (faults_before faults_now : ℕ) : Type 0 where
  pub entry : ImportCourse
  pub finding : Finding
  pub imported : IsImported files source (counts_of (trees_in (games_of_segments log))) entry
      finding
  pub paid : RoseBy (losses_of (entry ∷ [])) faults_before faults_now

-- the log has grown by the segments of what it found, and the report tells that
pub record EndsWith (files : List File) (job : ImportJob) (log_before log_now : List Segment)
    (faults_before faults_now : ℕ) (report : Report) : Type 0 where
  pub finds : Finds files job.source log_before faults_before faults_now
  pub grown : log_now ≡ log_before ++ segments_of job.batch finds.finding
  pub text : told_text report.line report.body report.version
      ≡ report_text job.line finds.finding (length log_now)

-- the log has grown by the first segments of what it found, or by all or none
pub record EndsWithFirst (files : List File) (job : ImportJob) (log_before log_now : List Segment)
    (faults_before faults_now : ℕ) : Type 0 where
  pub finds : Finds files job.source log_before faults_before faults_now
  pub segments : List Segment
  pub grown : log_now ≡ log_before ++ segments
  pub first : IsPrefix segments (segments_of job.batch finds.finding)

-- How the import of this job ends, which began with this opening and this log.
pub record HasEnded (told : Option (List File)) (faults_before : ℕ) (job : ImportJob)
    (opening : BookName) (log : List Segment) (told_now : Option (List File)) (faults_now : ℕ)
    (publisher : PublisherState Game) (report : Result Report NoMemory) : Type 0 where
  pub opened : publisher.opening ≡ opening
  pub few : length publisher.log ≤ length log + 4294967295
  pub limits : IsLogWithinLimits publisher.log
  pub same : told_now ≡ told
  pub later : faults_before ≤ faults_now
  pub idle : IfOk report (λ r. IsIdle publisher)
  pub merged : IfOk report (λ r. AreMerged publisher.parts)
  pub few_told : IfOk report (λ r. games_reported r.body ≤ 400000)
  pub ends : IfTold told (λ files. IfOk report
      (EndsWith files job log publisher.log faults_before faults_now))
  pub first : IfTold told (λ files.
      EndsWithFirst files job log publisher.log faults_before faults_now)

-- ---- a run between two imports

-- A run so far, as HasRun tells, and the log of its imports is this.
pub record HasRunTo (rules : Rules) (files : List File) (start : List BoxTally)
    (placed : List Placed) (kept : Kept) (session : SessionState) (log : List Segment)
    (before : List ℕ) (written : Option (List ℕ)) (faults_before faults_now : ℕ) : Type 0 where
  pub run : HasRun rules files start placed kept session before written faults_before faults_now
  pub log_is : run.state.log ≡ log

-- Where a run stands while no import is under way: the publisher has this opening, nothing pending
-- and its parts merged, the session's searcher has seen its whole log, and the last version is kept.
pub record StandsStill (opening : BookName) (publisher : PublisherState Game)
    (own : SearcherState Game) (kept : Kept) : Type 0 where
  pub opened : publisher.opening ≡ opening
  pub idle : IsIdle publisher
  pub merged : AreMerged publisher.parts
  pub limits : IsLogWithinLimits publisher.log
  pub own_seen : own.seen ≡ publisher.log
  pub version : kept.version ≡ length publisher.log
  pub games : kept.games ≡ items_in publisher.log

-- an import may be begun: the job's counts are those of the log, and files come at least one at a
-- time
pub record MayBegin (opening : BookName) (publisher : PublisherState Game) (job : ImportJob)
    : Type 0 where
  pub opened : publisher.opening ≡ opening
  pub idle : IsIdle publisher
  pub merged : AreMerged publisher.parts
  pub limits : IsLogWithinLimits publisher.log
  pub some : 1 ≤ job.batch
  pub at_most : job.batch ≤ 4096
  pub few : length publisher.log ≤ 9000000000000000000
  pub counted : job.before ≡ counts_of (trees_in (items_in publisher.log))

-- the job is that of an import by batches of this size, at this line and from this source, where
-- this is kept
pub record IsJobOf (job : ImportJob) (batch line : ℕ) (source : Source) (kept : Kept)
    : Type 0 where
  pub source_is : job.source ≡ source
  pub line_is : job.line ≡ line
  pub batch_is : job.batch ≡ batch
  pub before : job.before ≡ counts_of (trees_in kept.games)

-- What is kept when an import was joined whose publisher has this log: the last version, and the
-- report that waits.
pub record IsImportJoined (log : List Segment) (report : Result Report NoMemory) (kept : Kept)
    : Type 0 where
  pub told : Report
  pub report_is : report ≡ Ok told
  pub version : kept.version ≡ length log
  pub games : kept.games ≡ items_in log
  pub waiting : kept.waiting ≡ Some (told_text told.line told.body told.version)

-- ---- statements that are answered beside an import

-- a block of these searches at this line
abbrev pub block_at : ℕ → List PlacedSearch → Placed
block_at line searches = record { line = line; statement = statement.Together searches }

-- a statement that awaits a version is answered from one that is at least as late
abbrev pub Reaches : Statement → ℕ → Type 0
Reaches (statement.Until number) version = number ≤ version
Reaches other version = Unit {0}

-- These statements were answered beside an import by batches of this size, and their text is
-- written.
pub record HasAnswered (batch : ℕ) (WasSeen : List Segment → Type 0) (floor : ℕ)
    (session : SessionState) (placed : List Placed) (IsSeen : List Segment → Type 0)
    (floor_now : ℕ) (session_now : SessionState) (before : List ℕ) (written : Option (List ℕ))
    : Type 0 where
  pub text : List ℕ
  pub goes_on :
      GoesOnBeside (beside_rules batch) WasSeen floor session placed text IsSeen floor_now session_now
  pub written_is : written ≡ Some (before ++ text)

-- So were these, and the floor is at most what was seen.
pub record HasAnsweredAll (WasSeen : List Segment → Type 0) (floor : ℕ) (session : SessionState)
    (placed : List Placed) (IsSeen : List Segment → Type 0) (session_now : SessionState)
    (before : List ℕ) (written : Option (List ℕ)) : Type 0 where
  pub floor_now : ℕ
  pub floor_seen : (log : List Segment) → IsSeen log → floor_now ≤ length log
  pub answered : (batch : ℕ) →
      HasAnswered batch WasSeen floor session placed IsSeen floor_now session_now before written

-- The answers to statements stopped beside an import by batches of this size: of the text that the
-- first of these print, whatever the import finds, a part is written. The last of them may be one that
-- is printed in part or not at all.
pub record StopsBeside (batch : ℕ) (WasSeen : List Segment → Type 0) (floor : ℕ)
    (session : SessionState) (placed : List Placed) (IsSeen : List Segment → Type 0)
    (before : List ℕ) (written : Option (List ℕ)) : Type 0 where
  pub first : List Placed
  pub left : List Placed
  pub split : placed ≡ first ++ left
  pub text : List ℕ
  pub floor_now : ℕ
  pub session_now : SessionState
  pub goes_on : GoesOnBeside (beside_rules batch) WasSeen floor session first text IsSeen
      floor_now session_now
  pub part : List ℕ
  pub prefix : IsPrefix part text
  pub written_is : written ≡ Some (before ++ part)
