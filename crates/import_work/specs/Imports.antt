-- An import: where it stands, what it gives step by step, and what its report tells.
use Rattle.std.specs.Prelude.{◌≡◌, ◌≢◌, ℕ, ◌+◌, ◌<◌, ◌≤◌, List, [], ◌∷◌, ◌++◌, length, replicate, take, drop, All, AllPairs, None}
use Rattle.std.specs.Cmp.Lexicographic.{slice_cmp}
use Rattle.std.specs.Ordering.{nat_cmp}
use Rattle.std.specs.declared.cmp.Ordering.TheVariants.{Less}
use Rattle.std.specs.declared.option.Option.{Option}
use mathlib.Core.List.{IsPrefix}
use Rattle.kb_edges.specs.Faults.{RoseBy}
use Rattle.kb_edges.specs.Files.{File, HasPath, IsSgfName}
use Rattle.import_work.specs.Batches.{AreImportedInTurn, ArePaid, full_told, games_told, line_reports, names_in, unread_in}
use Rattle.import_work.specs.Course.{AreMade, AreNames, Files, Finding, HasMade, HasTooMany, ImportCourse, ImportFile, IsImported, Made, TooMany, Unlisted, games_of_files, made_name, reports_of, trees_in}
use Rattle.import_work.specs.Log.{Segment, games_of_segments, segments_of}
use Rattle.import_work.specs.Outcome.{with_games}
use Rattle.import_work.specs.Rooms.{AreAdded, AreCountsWithinLimits}
use Rattle.import_work.specs.declared.batch.FileLine.{FileLine}
use Rattle.import_work.specs.declared.outcome.Counts.{Counts}
use Rattle.import_work.specs.declared.report.ReportBody.{ReportBody}
use Rattle.import_work.specs.declared.report.ReportBody.TheVariants as report
use Rattle.import_work.specs.declared.source.Source.{Source}
use Rattle.import_work.specs.declared.source.Source.TheVariants as source

-- Where an import stands: its source, the line of its report, the number of the version before its
-- first segment, the names of the files that are left, what its report tells so far, the counts of
-- the base with the games of its segments, and how many segments it has given. Made games are files
-- of one name.
pub record ImportState : Type 0 where
  pub source : Source
  pub line : ℕ
  pub number : ℕ
  pub left : List (List ℕ)
  pub body : ReportBody
  pub counts : Counts
  pub given : ℕ

-- the files that a report tells
abbrev pub lines_in : ReportBody → List FileLine
lines_in (report.Files lines) = lines
lines_in report.Unlisted = []
lines_in (report.TooMany listed) = []
lines_in (report.Made games full) = []

-- how many games a report tells as added
abbrev pub games_reported : ReportBody → ℕ
games_reported (report.Files lines) = games_told (line_reports lines)
games_reported report.Unlisted = 0
games_reported (report.TooMany listed) = 0
games_reported (report.Made games full) = games

-- ---- how an import begins

-- an import from this source, in a base with these counts and this number, that has given no segment
abbrev pub IsOpened : Source → ℕ → Counts → ℕ → ImportState → Type 0
IsOpened source line before number i = i ≡ record {
  source = source;
  line = line;
  number = number;
  left = i.left;
  body = i.body;
  counts = before;
  given = 0;
}

-- names as an import goes through them: each once, in byte order, with the ending `.sgf`
pub record AreSortedNames (names : List (List ℕ)) : Type 0 where
  pub ascending : AllPairs (λ x y. slice_cmp nat_cmp x y ≡ Less) names
  pub sgf : All IsSgfName names

-- What the listing of a folder left to an import, before any file: the names of its files, 100,000
-- at most, or no name where there are more, or where nothing was listed.
abbrev pub IsFolderListed : ReportBody → List (List ℕ) → Type 0
IsFolderListed (report.Files lines) left =
    (lines ≡ []) × AreSortedNames left × (length left ≤ 100000)
IsFolderListed report.Unlisted left = left ≡ []
IsFolderListed (report.TooMany listed) left = (100000 < listed) × (left ≡ [])
IsFolderListed (report.Made games full) left = ⊥

-- What is left to an import at first: what the listing left to it, or so many made games, fewer than
-- 4,294,967,296, of which nothing is told yet.
abbrev pub IsListed : Source → ReportBody → List (List ℕ) → Type 0
IsListed (source.Under path) body left = IsFolderListed body left
IsListed (source.Made games start) body left = (body ≡ report.Made 0 0)
    × (left ≡ replicate games made_name) × (games < 4294967296)

-- In a folder that tells these files what was listed is what is there: the names of an import of
-- this path, or so many of them that they are too many.
abbrev pub IsPathListed : List File → List ℕ → ReportBody → List (List ℕ) → Type 0
IsPathListed all path (report.Files lines) left = HasPath all path × AreNames all path left
IsPathListed all path report.Unlisted left = Unit {0}
IsPathListed all path (report.TooMany listed) left = HasTooMany all path listed
IsPathListed all path (report.Made games full) left = Unit {0}

-- the same of an import from a source, where made games want no folder
abbrev pub IsListedIn : List File → Source → ReportBody → List (List ℕ) → Type 0
IsListedIn all (source.Under path) body left = IsPathListed all path body left
IsListedIn all (source.Made games start) body left = Unit {0}

-- these files have none under the path of the source
abbrev pub IsNotThere : List File → Source → Type 0
IsNotThere files (source.Under path) = ¬ HasPath files path
IsNotThere files (source.Made games start) = ⊥

-- ---- how it goes on

-- An import of a path gives one segment: the files of the next names, so many or as many as are left,
-- are imported in their turn, and the segment has their games. Those that were not read number at
-- most the rise of the count of faults, but for those that a folder which tells its files doesn't
-- have. The segment has a game only where the base stays within its limits with it.
pub record IsFileStep (told : Option (List File)) (path : List ℕ) (batch : ℕ)
    (before after : ImportState) (segment : Segment) (faults_before faults_now : ℕ) : Type 0 where
  pub lines : List FileLine
  pub more : List FileLine
  pub under : before.source ≡ source.Under path
  pub some : before.left ≢ []
  pub listed : before.body ≡ report.Files lines
  pub named : names_in (line_reports more) ≡ take batch before.left
  pub in_turn : AreImportedInTurn told path before.counts faults_before (line_reports more)
      segment faults_now
  pub goes_on : after ≡ record before {
    left = drop batch before.left;
    body = report.Files (lines ++ more);
    counts = with_games before.counts (trees_in segment);
    given = before.given + 1;
  }
  pub paid : ArePaid told path (unread_in (line_reports more)) faults_before faults_now
  pub untold : told ≡ None →
      RoseBy (length (unread_in (line_reports more))) faults_before faults_now
  pub room : segment ≢ [] → AreCountsWithinLimits after.counts

-- Made games give one segment: the next, so many or as many as are left, are judged in their turn, and
-- the segment has those for which there was room. The report tells how many these are, and how many
-- the others. The first of them has as its number how many games had their turn before, added or
-- not, as the report told.
pub record IsMadeStep (games start batch : ℕ) (before after : ImportState) (segment : Segment)
    : Type 0 where
  pub added : ℕ
  pub full : ℕ
  pub files : List ImportFile
  pub made_from : before.source ≡ source.Made games start
  pub some : before.left ≢ []
  pub told : before.body ≡ report.Made added full
  pub many : length files ≡ length (take batch before.left)
  pub made : AreMade start (added + full) before.counts files
  pub segment_is : segment ≡ games_of_files files
  pub goes_on : after ≡ record before {
    left = drop batch before.left;
    body = report.Made (added + length segment) (full + full_told (reports_of files));
    counts = with_games before.counts (trees_in segment);
    given = before.given + 1;
  }
  pub room : segment ≢ [] → AreCountsWithinLimits after.counts

-- an import gives one segment: of files that it takes from a folder, or of made games, by which no
-- fault of the folder is counted
pub data IsStep (told : Option (List File)) (batch : ℕ) (before after : ImportState)
    (segment : Segment) (faults_before faults_now : ℕ) : Type 0 where
  of_files : (path : List ℕ) →
      IsFileStep told path batch before after segment faults_before faults_now →
      IsStep told batch before after segment faults_before faults_now
  of_made : (games start : ℕ) → IsMadeStep games start batch before after segment →
      faults_now ≡ faults_before →
      IsStep told batch before after segment faults_before faults_now

-- An import that stood so at first has given these segments, one after another and each of so many
-- files, and stands so now; these are the folder's counts of faults at first and now.
pub data HasGiven (told : Option (List File)) (batch : ℕ) (start : ImportState) (first : ℕ) :
    List Segment → ImportState → ℕ → Type 0 where
  nothing : HasGiven told batch start first [] start first
  one_more : {segments : List Segment} {between : ImportState} {faults : ℕ} (now : ImportState)
      (segment : Segment) (faults_now : ℕ) →
      HasGiven told batch start first segments between faults →
      IsStep told batch between now segment faults faults_now →
      HasGiven told batch start first (segments ++ segment ∷ []) now faults_now

-- ---- what it gives in all

-- What an import has added, whatever the folder tells: the counts are those at first with the games
-- of its segments, and the report tells as many games; each segment took at least one name. It has
-- added a game only where the base stays within its limits.
pub record AddsUp (start now : ImportState) (segments : List Segment) : Type 0 where
  pub source : now.source ≡ start.source
  pub line : now.line ≡ start.line
  pub number : now.number ≡ start.number
  pub counted : AreAdded start.counts now.counts (trees_in (games_of_segments segments))
  pub given : now.given ≡ start.given + length segments
  pub told : games_reported now.body
      ≡ games_reported start.body + length (games_of_segments segments)
  pub few : length segments + length now.left ≤ length start.left
  pub room : games_of_segments segments ≢ [] → AreCountsWithinLimits now.counts

-- a report tells what an import found
abbrev pub Tells : ReportBody → Finding → Type 0
Tells report.Unlisted finding = finding ≡ Unlisted
Tells (report.TooMany listed) finding = finding ≡ TooMany listed
Tells (report.Files lines) finding = (files : List ImportFile) × (finding ≡ Files files)
    × (line_reports lines ≡ reports_of files)
Tells (report.Made games full) finding = (files : List ImportFile) × (finding ≡ Made files)
    × (games ≡ length (games_of_files files)) × (full ≡ full_told (reports_of files))

-- What an import that stood so at first finds in these files, by an entry of the course whose unread
-- files number at most the rise of the count of faults. It finds nothing listed only if it was
-- opened so.
pub record FindsIn (all : List File) (start : ImportState) (first last : ℕ) : Type 0 where
  pub entry : ImportCourse
  pub finding : Finding
  pub imported : IsImported all start.source start.counts entry finding
  pub unlisted : finding ≡ Unlisted → start.body ≡ report.Unlisted
  pub paid : RoseBy (length entry.unread) first last

-- These segments and this report are those of what such an import finds; the unread files of the
-- course are those of the report.
pub record GivesAll (all : List File) (batch : ℕ) (start : ImportState) (segments : List Segment)
    (body : ReportBody) (first last : ℕ) : Type 0 where
  pub finds : FindsIn all start first last
  pub segments_are : segments ≡ segments_of batch finds.finding
  pub tells : Tells body finds.finding
  pub unread_are : finds.entry.unread ≡ unread_in (line_reports (lines_in body))

-- these segments are the first of what such an import finds
pub record GivesFirst (all : List File) (batch : ℕ) (start : ImportState) (segments : List Segment)
    (first last : ℕ) : Type 0 where
  pub finds : FindsIn all start first last
  pub prefix : IsPrefix segments (segments_of batch finds.finding)

-- These segments and this report are those of so many made games, of which the first begins with this
-- number.
pub record GivesMade (batch games seed : ℕ) (start now : ImportState) (segments : List Segment)
    : Type 0 where
  pub files : List ImportFile
  pub made : HasMade games seed start.counts files
  pub segments_are : segments ≡ segments_of batch (Made files)
  pub tells : Tells now.body (Made files)
