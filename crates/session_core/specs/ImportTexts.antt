-- The printed text of a statement that begins an import, and the printed report of the import. Numbers
-- are decimal, and each line ends with a line feed.
use Rattle.std.specs.Prelude.{ℕ, Bool, true, false, List, [], ◌∷◌, ◌++◌, length, codes, count_by}
use Rattle.std.specs.Fmt.{decimal}
use Rattle.std.specs.List.{flat_map}
use Rattle.sgf_reader.specs.declared.fault.FaultKind.{FaultKind}
use Rattle.sgf_reader.specs.declared.fault.FaultKind.TheVariants as kind
use Rattle.query_script.specs.Texts.{import_text, line_text, make_text}
use Rattle.import_work.specs.Batches.{full_told, games_told, line_reports}
use Rattle.import_work.specs.Batches as outcomes
use Rattle.import_work.specs.Course.{FileReport, Files, Finding, Made, TooMany, Unlisted, games_of_files, reports_of}
use Rattle.import_work.specs.declared.outcome.FileOutcome.{FileOutcome}
use Rattle.import_work.specs.declared.outcome.FileOutcome.TheVariants as file
use Rattle.import_work.specs.declared.report.ReportBody.{ReportBody}
use Rattle.import_work.specs.declared.report.ReportBody.TheVariants as report
use Rattle.import_work.specs.declared.source.Source.{Source}
use Rattle.import_work.specs.declared.source.Source.TheVariants as source

-- the text of a statement that begins an import from this source
abbrev pub import_line_text : ℕ → Source → List ℕ
import_line_text line (source.Under path) = import_text line path
import_line_text line (source.Made games start) = make_text line games start

-- the word of a fault's kind
abbrev pub kind_word : FaultKind → List ℕ
kind_word kind.NoGame = codes "NoGame"
kind_word kind.Unexpected = codes "Unexpected"
kind_word kind.Ended = codes "Ended"
kind_word kind.TooLong = codes "TooLong"
kind_word kind.TooDeep = codes "TooDeep"
kind_word kind.TooManyNodes = codes "TooManyNodes"
kind_word kind.TooManyGames = codes "TooManyGames"
kind_word kind.NotGo = codes "NotGo"
kind_word kind.BadSize = codes "BadSize"
kind_word kind.BadPoint = codes "BadPoint"
kind_word kind.TwoMoves = codes "TwoMoves"

-- `refused KIND AT NAME`
abbrev pub refused_text : List ℕ → ℕ → List ℕ → List ℕ
refused_text word at name = line_text (codes "refused " ∷ word ∷ codes " " ∷ decimal at ∷ codes " "
    ∷ name ∷ [])

-- `full GAMES NODES NAME`
abbrev pub full_text : ℕ → ℕ → List ℕ → List ℕ
full_text games nodes name = line_text (codes "full " ∷ decimal games ∷ codes " " ∷ decimal nodes
    ∷ codes " " ∷ name ∷ [])

-- `unread NAME`
abbrev pub unread_text : List ℕ → List ℕ
unread_text name = line_text (codes "unread " ∷ name ∷ [])

-- the line of a file that was not accepted; an accepted one has none
abbrev pub file_text : FileReport → List ℕ
file_text f = text f.outcome
  where
    text : FileOutcome → List ℕ
    text (file.Accepted games) = []
    text (file.Refused of at) = refused_text (kind_word of) at f.name
    text (file.Full games nodes) = full_text games nodes f.name
    text file.Unread = unread_text f.name

abbrev pub is_accepted : FileReport → Bool
is_accepted f = test f.outcome
  where
    test : FileOutcome → Bool
    test (file.Accepted games) = true
    test (file.Refused of at) = false
    test (file.Full games nodes) = false
    test file.Unread = false

abbrev pub is_refused : FileReport → Bool
is_refused f = test f.outcome
  where
    test : FileOutcome → Bool
    test (file.Accepted games) = false
    test (file.Refused of at) = true
    test (file.Full games nodes) = false
    test file.Unread = false

abbrev pub is_full : FileReport → Bool
is_full f = outcomes.is_full f.outcome

abbrev pub is_unread : FileReport → Bool
is_unread f = outcomes.is_unread f.outcome

-- how many files an import has, and how many were accepted and refused
abbrev pub counts_head : ℕ → ℕ → ℕ → ℕ → List ℕ
counts_head line files accepted refused =
    decimal line ++ (codes " imported files " ++ (decimal files
    ++ (codes " accepted " ++ (decimal accepted ++ (codes " refused " ++ decimal refused)))))

-- how many there was no room for, how many were not read, the games that were added, and the
-- version after it
abbrev pub counts_tail : ℕ → ℕ → ℕ → ℕ → List ℕ
counts_tail full unread games version =
    line_text (codes " full " ∷ decimal full ∷ codes " unread " ∷ decimal unread
    ∷ codes " games " ∷ decimal games ∷ codes " version " ∷ decimal version ∷ [])

-- the counts of an import
abbrev pub counts_text : ℕ → List FileReport → ℕ → ℕ → List ℕ
counts_text line reports games version =
    counts_head line (length reports) (count_by is_accepted reports) (count_by is_refused reports)
    ++ counts_tail (count_by is_full reports) (count_by is_unread reports) games version

-- the counts of an import, and the lines of the files that were not accepted
abbrev pub listed_text : ℕ → List FileReport → ℕ → ℕ → List ℕ
listed_text line reports games version =
    counts_text line reports games version ++ flat_map file_text reports

-- `LINE imported unlisted`
abbrev pub unlisted_text : ℕ → List ℕ
unlisted_text line = line_text (decimal line ∷ codes " imported unlisted" ∷ [])

-- `LINE imported too many files N`
abbrev pub too_many_text : ℕ → ℕ → List ℕ
too_many_text line names = line_text (decimal line ∷ codes " imported too many files "
    ∷ decimal names ∷ [])

-- `LINE made games M full F version V`
abbrev pub made_text : ℕ → ℕ → ℕ → ℕ → List ℕ
made_text line games full version = line_text (decimal line ∷ codes " made games " ∷ decimal games
    ∷ codes " full " ∷ decimal full ∷ codes " version " ∷ decimal version ∷ [])

-- the report of an import: what was found, and the version after it
abbrev pub report_text : ℕ → Finding → ℕ → List ℕ
report_text line Unlisted version = unlisted_text line
report_text line (TooMany names) version = too_many_text line names
report_text line (Files files) version =
    listed_text line (reports_of files) (length (games_of_files files)) version
report_text line (Made files) version =
    made_text line (length (games_of_files files)) (full_told (reports_of files)) version

-- what is printed at a line of what the report tells, with the version after the import
abbrev pub told_text : ℕ → ReportBody → ℕ → List ℕ
told_text line (report.Files lines) version =
    listed_text line (line_reports lines) (games_told (line_reports lines)) version
told_text line report.Unlisted version = unlisted_text line
told_text line (report.TooMany listed) version = too_many_text line listed
told_text line (report.Made games full) version = made_text line games full version
