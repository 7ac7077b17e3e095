-- What an import keeps, and what contracts see of it.
use Rattle.std.specs.Prelude.{◌≡◌, ◌≢◌, ℕ, ◌+◌, ◌-◌, ◌<◌, ◌≤◌, List, [], drop, length, map, replicate, string_bytes}
use Rattle.std.specs.declared.option.Option.{Option}
use Rattle.kb_edges.specs.Files.{File}
use Rattle.import_work.specs.Course.{made_name}
use Rattle.import_work.specs.Imports.{ImportState, IsStep}
use Rattle.import_work.specs.Listings.{body_of}
use Rattle.import_work.specs.Log.{Segment}
use Rattle.import_work.specs.declared.files.FileWork.{FileWork}
use Rattle.import_work.specs.declared.import.Import.TheInside.{Inside}
use Rattle.import_work.specs.declared.import.Work.{Work}
use Rattle.import_work.specs.declared.import.Work.TheVariants as work
use Rattle.import_work.specs.declared.listing.Listing.TheVariants as listing
use Rattle.import_work.specs.declared.made.MadeWork.{MadeWork}
use Rattle.import_work.specs.declared.outcome.Counts.{Counts}
use Rattle.import_work.specs.declared.report.ReportBody.{ReportBody}
use Rattle.import_work.specs.declared.report.ReportBody.TheVariants as report
use Rattle.import_work.specs.declared.source.Source.{Source}
use Rattle.import_work.specs.declared.source.Source.TheVariants as source

-- where its games come from
abbrev pub source_of : Work → Source
source_of (work.Files files) = source.Under files.path
source_of (work.Made made) = source.Made made.games made.start

-- how many files had their turn
abbrev pub taken_of : Work → ℕ
taken_of (work.Files files) = files.next
taken_of (work.Made made) = made.added + made.full

-- the names of the files that are left
abbrev pub left_of : Work → List (List ℕ)
left_of (work.Files files) = map string_bytes (drop files.next files.names.items)
left_of (work.Made made) = replicate (made.games - (made.added + made.full)) made_name

-- what the report tells so far
abbrev pub told_by : Work → ReportBody
told_by (work.Files files) = body_of files.listing files.lines.items
told_by (work.Made made) = report.Made made.added made.full

-- where an import with this work stands
abbrev pub state_with : Work → ℕ → ℕ → Counts → ℕ → ImportState
state_with w line number counts given = record {
  source = source_of w;
  line = line;
  number = number;
  left = left_of w;
  body = told_by w;
  counts = counts;
  given = given;
}

-- where an import with these fields stands
abbrev pub state_of : Inside → ImportState
state_of i = state_with i.work i.line i.number i.counts i.given

-- The names are few; there are names only where they were listed.
pub record AreFilesKept (files : FileWork) : Type 0 where
  pub passed : files.next ≤ length files.names.items
  pub few : length files.names.items ≤ 100000
  pub listed : files.names.items ≢ [] → files.listing ≡ listing.Names

-- no more games had their turn than there are, and their number is one of 32 bits
pub record IsMadeKept (made : MadeWork) : Type 0 where
  pub passed : made.added + made.full ≤ made.games
  pub few : made.games < 4294967296

abbrev pub IsWorkKept : Work → Type 0
IsWorkKept (work.Files files) = AreFilesKept files
IsWorkKept (work.Made made) = IsMadeKept made

-- What an import keeps is in order: its names or made games are, each segment took one of the files
-- at least, and the number is one that a version may have.
pub record IsImportKept (i : Inside) : Type 0 where
  pub kept : IsWorkKept i.work
  pub given : i.given ≤ taken_of i.work
  pub number : i.number ≤ 9000000000000000000

-- the work of an import gives this segment, whatever its line and numbers
abbrev pub TakesOne : Option (List File) → ℕ → Work → Work → Counts → Counts → Segment → ℕ → ℕ →
    Type 0
TakesOne told batch old new before after segment faults_before faults_now =
    (line number given : ℕ) →
    IsStep told batch (state_with old line number before given)
    (state_with new line number after (given + 1)) segment faults_before faults_now
