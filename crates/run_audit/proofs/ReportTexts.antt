-- The texts of the reports of imports: a head, and behind it the lines of files.
use Rattle.std.proofs.Common.{◌≡◌, ◌∙◌, ℕ, ◌^◌, ◌<◌, true, false, List, [], ◌∷◌, ◌++◌, length, refl, sym, ap, append_assoc}
use Rattle.std.specs.Prelude.{All, codes, count_by}
use Rattle.std.specs.Fmt.{decimal}
use Rattle.std.specs.List.{concat, flat_map}
use Rattle.std.specs.Str.{bytes_eq}
use Rattle.std.proofs.lemmas.Bool.{false_from_ne_true, false≢true}
use Rattle.std.proofs.lemmas.List.{append_cancel_left}
use Rattle.std.proofs.lemmas.Slice.Eq.{bytes_eq-Decides}
use Rattle.std.proofs.lemmas.List.Elements.{All-head, All-tail, All-nil, All-cons}
use Rattle.query_script.specs.Texts.{line_text}
use Rattle.import_work.specs.Batches.{full_told}
use Rattle.import_work.specs.Course.{FileReport, Files, Finding, ImportFile, Made, TooMany, Unlisted, games_of_files, names_found, names_of, reports_of}
use Rattle.session_core.specs.ImportTexts.{counts_text, file_text, is_accepted, is_full, is_refused, is_unread, report_text}
use Rattle.run_audit.specs.Shown.{files_head, unlisted_line}
use Rattle.run_audit.proofs.CleanStates.{IsLineName}
use Rattle.run_audit.proofs.LineLists.{AreLines, AreTails, begins, one_line, one_line-append, one_line-concat, one_line-decimal, text_of}
use Rattle.run_audit.proofs.PieceLines.{elsewhere-line, elsewhere-text, line_text-is}
use Rattle.run_audit.proofs.OtherLines.{HasNoReport, no_report-same}
use Rattle.run_audit.proofs.ShownFiles.{lines_of_reports, reports-tails, reports-text}

-- ---- the counts of files, as pieces

abbrev count_pieces : ℕ → ℕ → ℕ → ℕ → ℕ → ℕ → ℕ → List (List ℕ)
count_pieces files accepted refused full unread games version =
    codes " imported files " ∷ decimal files ∷ codes " accepted " ∷ decimal accepted ∷ codes " refused " ∷ decimal refused
    ∷ codes " full " ∷ decimal full ∷ codes " unread " ∷ decimal unread ∷ codes " games " ∷ decimal games ∷ codes " version " ∷ decimal version ∷ []

count-lines : (files accepted refused full unread games version : ℕ) → AreLines (count_pieces files accepted refused full unread games version)
count-lines files accepted refused full unread games version = (
  refl,
  (
    one_line-decimal files,
    (
      refl,
      (
        one_line-decimal accepted,
        (
          refl,
          (
            one_line-decimal refused,
            (refl, (one_line-decimal full, (refl, (one_line-decimal unread, (refl, (one_line-decimal games, (refl, (one_line-decimal version, tt)))))))),
          ),
        ),
      ),
    ),
  ),
)

seven-parts : (a b c d e f g more : List ℕ) → (a ++ (b ++ (c ++ (d ++ (e ++ (f ++ g)))))) ++ more ≡ a ++ (b ++ (c ++ (d ++ (e ++ (f ++ (g ++ more))))))
seven-parts a b c d e f g more = simp append_assoc

-- the counts of an import's files
abbrev counts_of_reports : List FileReport → ℕ → ℕ → List (List ℕ)
counts_of_reports reports games version =
    count_pieces (length reports) (count_by is_accepted reports) (count_by is_refused reports) (count_by is_full reports) (count_by is_unread reports) games version

counts-text : (line : ℕ) (reports : List FileReport) (games version : ℕ) → counts_text line reports games version ≡ line_text (decimal line ∷ counts_of_reports reports games version)
counts-text line reports games version =
    seven-parts (decimal line) (codes " imported files ") (decimal (length reports)) (codes " accepted ") (decimal (count_by is_accepted reports)) (codes " refused ") (decimal (count_by is_refused reports))
    (line_text (codes " full " ∷ decimal (count_by is_full reports) ∷ codes " unread " ∷ decimal (count_by is_unread reports) ∷ codes " games " ∷ decimal games ∷ codes " version " ∷ decimal version ∷ []))

-- ---- the report, as a head and the lines behind it

-- what stands behind the line's number in the head
abbrev head_of_report : Finding → ℕ → List (List ℕ)
head_of_report Unlisted version = codes " imported unlisted" ∷ []
head_of_report (TooMany names) version = codes " imported too many files " ∷ decimal names ∷ []
head_of_report (Files files) version = counts_of_reports (reports_of files) (length (games_of_files files)) version
head_of_report (Made files) version =
    codes " made games " ∷ decimal (length (games_of_files files)) ∷ codes " full " ∷ decimal (full_told (reports_of files)) ∷ codes " version " ∷ decimal version ∷ []

-- the lines behind the head
abbrev pub lines_of_report : Finding → List (List ℕ)
lines_of_report Unlisted = []
lines_of_report (TooMany names) = []
lines_of_report (Files files) = lines_of_reports (reports_of files)
lines_of_report (Made files) = []

-- the head
abbrev pub report_head_of : ℕ → Finding → ℕ → List ℕ
report_head_of line finding version = decimal line ++ concat (head_of_report finding version)

head-lines : (finding : Finding) (version : ℕ) → AreLines (head_of_report finding version)
head-lines Unlisted version = (refl, tt)
head-lines (TooMany names) version = (refl, (one_line-decimal names, tt))
head-lines (Files files) version =
    let reports = reports_of files in
    count-lines (length reports) (count_by is_accepted reports) (count_by is_refused reports) (count_by is_full reports) (count_by is_unread reports) (length (games_of_files files)) version
head-lines (Made files) version =
    (refl, (one_line-decimal (length (games_of_files files)), (refl, (one_line-decimal (full_told (reports_of files)), (refl, (one_line-decimal version, tt))))))

pub head-line : (line : ℕ) (finding : Finding) (version : ℕ) → one_line (report_head_of line finding version) ≡ true
head-line line finding version = one_line-append (decimal line) (concat (head_of_report finding version)) (one_line-decimal line) (one_line-concat (head_of_report finding version) (head-lines finding version))

-- the names of the reports are those of the files
reports-named : (files : List ImportFile) → All IsLineName (names_of files) → All (λ (f : FileReport). one_line f.name ≡ true) (reports_of files)
reports-named [] named = All-nil (λ (f : FileReport). one_line f.name ≡ true)
reports-named (f ∷ files) named =
    All-cons (λ (f : FileReport). one_line f.name ≡ true) f.report (reports_of files) (All-head IsLineName f.report.name (names_of files) named)
    (reports-named files (All-tail IsLineName f.report.name (names_of files) named))

pub report-tails : (finding : Finding) → All IsLineName (names_found finding) → AreTails (lines_of_report finding)
report-tails Unlisted named = tt
report-tails (TooMany names) named = tt
report-tails (Files files) named = reports-tails (reports_of files) (reports-named files named)
report-tails (Made files) named = tt

-- a line with nothing behind it
lone : (line : ℕ) (pieces : List (List ℕ)) → line_text (decimal line ∷ pieces) ≡ (decimal line ++ concat pieces) ++ 10 ∷ text_of []
lone line pieces = line_text-is (decimal line ∷ pieces)

pub report-is : (line : ℕ) (finding : Finding) (version : ℕ) → report_text line finding version ≡ report_head_of line finding version ++ 10 ∷ text_of (lines_of_report finding)
report-is line Unlisted version = lone line (head_of_report Unlisted version)
report-is line (TooMany names) version = lone line (head_of_report (TooMany names) version)
report-is line (Made files) version = lone line (head_of_report (Made files) version)
report-is line (Files files) version =
    let reports = reports_of files in
    let games = length (games_of_files files) in
    let pieces = counts_of_reports reports games version in
    let head = decimal line ++ concat pieces in
    ap (λ t. t ++ flat_map file_text reports) (counts-text line reports games version ∙ line_text-is (decimal line ∷ pieces))
    ∙ append_assoc head (10 ∷ []) (flat_map file_text reports) ∙ ap (λ t. head ++ 10 ∷ t) (reports-text reports)

-- that of files begins so
pub files-head : (line : ℕ) (files : List ImportFile) (version : ℕ) → (more : List ℕ) × (report_head_of line (Files files) version ≡ files_head line ++ more)
files-head line files version =
    let reports = reports_of files in
    let more = concat (decimal (length reports) ∷ codes " accepted " ∷ decimal (count_by is_accepted reports) ∷ codes " refused " ∷ decimal (count_by is_refused reports)
    ∷ codes " full " ∷ decimal (count_by is_full reports) ∷ codes " unread " ∷ decimal (count_by is_unread reports) ∷ codes " games " ∷ decimal (length (games_of_files files)) ∷ codes " version " ∷ decimal version ∷ []) in
    (more, sym (append_assoc (decimal line) (codes " imported files ") more))

-- the head of an import that isn't listed
pub unlisted-head : (line version : ℕ) → bytes_eq (report_head_of line Unlisted version) (unlisted_line line) ≡ true
unlisted-head line version = (bytes_eq-Decides (unlisted_line line) (unlisted_line line)).1 refl

-- other heads
other-head : (line : ℕ) (behind : List ℕ) → begins (codes " imported unlisted") behind ≡ false → bytes_eq (decimal line ++ behind) (unlisted_line line) ≡ false
other-head line behind apart = false_from_ne_true (bytes_eq (decimal line ++ behind) (unlisted_line line)) (λ e.
    let same = append_cancel_left (decimal line) behind (codes " imported unlisted") ((bytes_eq-Decides (decimal line ++ behind) (unlisted_line line)).0 e) in
    false≢true (sym apart ∙ ap (begins (codes " imported unlisted")) same))

pub too_many-head : (line names version : ℕ) → bytes_eq (report_head_of line (TooMany names) version) (unlisted_line line) ≡ false
too_many-head line names version = other-head line (concat (head_of_report (TooMany names) version)) refl

pub listed-head : (line : ℕ) (files : List ImportFile) (version : ℕ) → bytes_eq (report_head_of line (Files files) version) (unlisted_line line) ≡ false
listed-head line files version = other-head line (concat (head_of_report (Files files) version)) refl

-- ---- at another line it is no report of this one

module _ (line : ℕ) (few : line < 2 ^ 64) where
  pub report-no_report : (at : ℕ) (finding : Finding) (version : ℕ) → at < 2 ^ 64 → (at ≡ line → ⊥) → All IsLineName (names_found finding) → HasNoReport line few (report_text at finding version)
  report-no_report at Unlisted version at_few apart named = elsewhere-line line few at (head_of_report Unlisted version) at_few apart (head-lines Unlisted version) refl
  report-no_report at (TooMany names) version at_few apart named = elsewhere-line line few at (head_of_report (TooMany names) version) at_few apart (head-lines (TooMany names) version) refl
  report-no_report at (Made files) version at_few apart named = elsewhere-line line few at (head_of_report (Made files) version) at_few apart (head-lines (Made files) version) refl
  report-no_report at (Files files) version at_few apart named =
      let reports = reports_of files in
      let pieces = head_of_report (Files files) version in
      let tail = flat_map file_text reports in
      no_report-same line few (report_text at (Files files) version) (line_text (decimal at ∷ pieces) ++ tail) (ap (λ t. t ++ tail) (counts-text at reports (length (games_of_files files)) version))
      (elsewhere-text line few at pieces tail at_few apart (head-lines (Files files) version) refl
      (record { lines = lines_of_reports reports; are = report-tails (Files files) named; text_is = reports-text reports }))
