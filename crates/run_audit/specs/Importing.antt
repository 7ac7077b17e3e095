-- What an audit imports, by what a record shows of the import.
use Rattle.std.specs.Prelude.{◌≡◌, ◌⊎◌, ◌*◌, ℕ, Bool, true, false, List, [], ◌++◌, filter, length, Some}
use Rattle.kb_edges.specs.Files.{File}
use Rattle.game_tree.specs.Tree.{Tree}
use Rattle.node_position.specs.Games.{Game}
use Rattle.import_work.specs.Batches.{line_reports}
use Rattle.import_work.specs.Course.{AreRead, Files, FindsBy, IsContent, ImportFile, games_from, games_of_files, names_of, reports_of, trees_in}
use Rattle.import_work.specs.Imports.{Tells}
use Rattle.import_work.specs.Log.{segments_of}
use Rattle.import_work.specs.Outcome.{IsOutcome, with_games}
use Rattle.import_work.specs.declared.batch.FileLine.{FileLine}
use Rattle.import_work.specs.declared.outcome.Counts.{Counts}
use Rattle.import_work.specs.declared.outcome.FileOutcome.{FileOutcome}
use Rattle.import_work.specs.declared.outcome.FileOutcome.TheVariants as file
use Rattle.import_work.specs.declared.report.ReportBody.{ReportBody}
use Rattle.import_work.specs.declared.source.Source.{Source}
use Rattle.import_work.specs.declared.source.Source.TheVariants as source
use Rattle.session_core.specs.ImportTexts.{report_text}
use Rattle.run_audit.specs.Courses.{ShowsImport}
use Rattle.run_audit.specs.declared.course.ShownImport.{ShownImport}
use Rattle.run_audit.specs.Shown.{is_shown_unlisted, is_shown_unread}
use Rattle.run_audit.specs.Standing.{Kept, kept_last}

-- What an import finds in these files, where this is lost of it, is told by its report, and its segments
-- are added to what is kept behind all others.
pub record ImportsBy (all : List File) (from : Source) (batch : ℕ) (lost : Bool)
    (is_lost : List ℕ → Bool) (before after : Kept) (body : ReportBody) : Type 0 where
  pub finds : FindsBy all from before.counts lost is_lost
  pub tells : Tells body finds.finding
  pub ahead : after.ahead ≡ before.ahead ++ segments_of batch finds.finding
  pub held : after.held ≡ before.held
  pub waiting : after.waiting ≡ before.waiting

-- Files of these names were read, but for those that are lost, and judged one after another in a base
-- with these counts: the lines and games that this adds, and the counts behind it.
pub record ReadsBy (all : List File) (path : List ℕ) (is_lost : List ℕ → Bool)
    (names : List (List ℕ)) (before after : Counts) (lines_before lines_after : List FileLine)
    (games : List Game) : Type 0 where
  pub files : List ImportFile
  pub unread : List (List ℕ)
  pub read : AreRead all path before files unread
  pub named : names_of files ≡ names
  pub lost_are : unread ≡ filter is_lost names
  pub lines_are : line_reports lines_after ≡ line_reports lines_before ++ reports_of files
  pub games_are : games ≡ games_of_files files
  pub counted : after ≡ with_games before (trees_in games)

-- The files of the first of these names became this, and their segments are behind all others; these
-- names are left. But for the last ones, files come in batches of so many.
pub record FilesTo (all : List File) (path : List ℕ) (batch : ℕ) (is_lost : List ℕ → Bool)
    (names left : List (List ℕ)) (before now : Kept) (lines : List FileLine) : Type 0 where
  pub done : List (List ℕ)
  pub parts : names ≡ done ++ left
  pub files : List ImportFile
  pub unread : List (List ℕ)
  pub read : AreRead all path before.counts files unread
  pub named : names_of files ≡ done
  pub lost_are : unread ≡ filter is_lost done
  pub lines_are : line_reports lines ≡ reports_of files
  pub ahead : now.ahead ≡ before.ahead ++ segments_of batch (Files files)
  pub held : now.held ≡ before.held
  pub waiting : now.waiting ≡ before.waiting
  pub counted : now.counts ≡ with_games before.counts (trees_in (games_of_files files))
  pub whole : (left ≡ []) ⊎ ((k : ℕ) × (length files ≡ k * batch))

-- A file was read and judged in a base with these counts, and the games that it adds are those of its
-- trees: the counts and the games behind it.
pub record IsFileAdded (all : List File) (path name : List ℕ) (before after : Counts)
    (outcome : FileOutcome) (games_before games_after : List Game) : Type 0 where
  pub bytes : List ℕ
  pub trees : List Tree
  pub content : IsContent all path name bytes
  pub outcome_is : IsOutcome bytes before outcome trees
  pub counted : after ≡ with_games before trees
  pub added : games_after ≡ games_before ++ games_from name 0 trees

-- What became of a file in a base with these counts, where it is lost and where it isn't: the counts and
-- the games behind it.
pub data IsFileTold (all : List File) (path name : List ℕ) (before after : Counts)
    (outcome : FileOutcome) (games_before games_after : List Game) : Bool → Type 0 where
  lost : outcome ≡ file.Unread → after ≡ before → games_after ≡ games_before →
      IsFileTold all path name before after outcome games_before games_after true
  read : IsFileAdded all path name before after outcome games_before games_after →
      IsFileTold all path name before after outcome games_before games_after false

-- what is kept of an import is what a record shows of the one at this line, where it takes files from a
-- folder
abbrev pub IsShownBy : Source → ℕ → List ℕ → ShownImport → Type 0
IsShownBy (source.Under path) line recorded shown = (shown.line ≡ line) × ShowsImport recorded shown
IsShownBy (source.Made games start) line recorded shown = Unit {0}

-- An import from a source at a line was made as a record shows it: its segments are behind all others, and
-- its report waits.
pub record ImportsAt (all : List File) (from : Source) (line batch : ℕ) (recorded : List ℕ)
    (before after : Kept) : Type 0 where
  pub finds : FindsBy all from before.counts (is_shown_unlisted recorded line)
      (is_shown_unread recorded line)
  pub ahead : after.ahead ≡ before.ahead ++ segments_of batch finds.finding
  pub held : after.held ≡ before.held
  pub waiting : after.waiting ≡ Some (report_text line finds.finding (kept_last after))
