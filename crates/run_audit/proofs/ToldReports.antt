-- The report of an import tells what the import found, and an import was made as a record shows it.
use Rattle.std.proofs.Common.{◌≡◌, ◌∙◌, ℕ, ◌+◌, false, List, [], ◌∷◌, ◌++◌, Some, length, length-append, append-nil, refl, sym, ap, subst, arith}
use Rattle.std.specs.Prelude.{filter}
use Rattle.std.proofs.lemmas.Grind.{flat_map-append}
use Rattle.std.proofs.lemmas.List.{map-append}
use Rattle.std.proofs.lemmas.List.Sums.{sum_by_push}
use Rattle.kb_edges.specs.Files.{File}
use Rattle.game_tree.specs.Tree.{Tree}
use Rattle.import_work.specs.Batches.{games_added, games_told}
use Rattle.import_work.specs.Course.{AreRead, FileReport, Files, Finding, ImportCourse, ImportFile, IsImported, Made, TooMany, Unlisted, games_of_files, import_file, names_found, reports_of}
use Rattle.import_work.specs.Imports.{Tells}
use Rattle.import_work.specs.Outcome.{IsOutcome}
use Rattle.import_work.specs.declared.outcome.Counts.{Counts}
use Rattle.import_work.specs.declared.outcome.FileOutcome.{FileOutcome}
use Rattle.import_work.specs.declared.outcome.FileOutcome.TheVariants as file
use Rattle.import_work.specs.declared.report.ReportBody.{ReportBody}
use Rattle.import_work.specs.declared.report.ReportBody.TheVariants as report
use Rattle.import_work.specs.declared.source.Source.{Source}
use Rattle.import_work.specs.declared.source.Source.TheVariants as source
use Rattle.import_work.proofs.FileLemmas.{length-games_from}
use Rattle.session_core.specs.ImportTexts.{listed_text, made_text, report_text, told_text}
use Rattle.run_audit.specs.Importing.{ImportsAt, ImportsBy, IsShownBy}
use Rattle.run_audit.specs.Shown.{is_shown_unlisted, is_shown_unread}
use Rattle.run_audit.specs.Standing.{Kept, kept_last}
use Rattle.run_audit.specs.declared.course.ShownImport.{ShownImport}

-- ---- the lines of files tell their games

outcome-count : (bytes : List ℕ) (before : Counts) (outcome : FileOutcome) (trees : List Tree) → IsOutcome bytes before outcome trees → games_added outcome ≡ length trees
outcome-count bytes before _ _ (IsOutcome.refused faulty) = refl
outcome-count bytes before _ _ (IsOutcome.full trees have room) = refl
outcome-count bytes before _ _ (IsOutcome.accepted have room) = refl

one-counted : (files : List ImportFile) (f : ImportFile) → games_told (reports_of files) ≡ length (games_of_files files) → games_added f.report.outcome ≡ length f.games → games_told (reports_of (files ++ f ∷ [])) ≡ length (games_of_files (files ++ f ∷ []))
one-counted files f had own =
    let lines : games_told (reports_of (files ++ f ∷ [])) ≡ games_told (reports_of files ++ f.report ∷ []) = ap games_told (map-append (λ (g : ImportFile). g.report) files (f ∷ [])) in
    let counted = sum_by_push (λ (r : FileReport). games_added r.outcome) (reports_of files) f.report in
    let games : length (games_of_files (files ++ f ∷ [])) ≡ length (games_of_files files) + length f.games =
    ap length (flat_map-append (λ (g : ImportFile). g.games) files (f ∷ []))
    ∙ length-append (games_of_files files) (f.games ++ [])
    ∙ ap (λ gs. length (games_of_files files) + length gs) (append-nil f.games) in
    omega (arith, lines, counted, games, had, own)

read-counted : (all : List File) (path : List ℕ) (before : Counts) (files : List ImportFile) (unread : List (List ℕ)) → AreRead all path before files unread → games_told (reports_of files) ≡ length (games_of_files files)
read-counted all path before _ _ AreRead.nothing = refl
read-counted all path before _ _ (AreRead.read {files} {unread} name bytes outcome trees so_far content is) =
    one-counted files (import_file name outcome trees) (read-counted all path before files unread so_far) (outcome-count bytes _ outcome trees is ∙ sym (length-games_from name 0 trees))
read-counted all path before _ _ (AreRead.not_read {files} {unread} name so_far) =
    one-counted files (import_file name file.Unread []) (read-counted all path before files unread so_far) refl

-- ---- the text of a report

files-counted : (all : List File) (from : Source) (before : Counts) (entry : ImportCourse) (files : List ImportFile) → IsImported all from before entry (Files files) → games_told (reports_of files) ≡ length (games_of_files files)
files-counted all (source.Under path) before entry files is = read-counted all path before files entry.unread is.read
files-counted all (source.Made games start) before entry files is = absurd is

told-report : (all : List File) (from : Source) (before : Counts) (entry : ImportCourse) (line version : ℕ) (body : ReportBody) (finding : Finding) → IsImported all from before entry finding → Tells body finding → told_text line body version ≡ report_text line finding version
told-report all from before entry line version report.Unlisted finding is tells = ap (λ f. report_text line f version) (sym tells)
told-report all from before entry line version (report.TooMany listed) finding is tells = ap (λ f. report_text line f version) (sym tells)
told-report all from before entry line version (report.Files lines) finding is tells =
    let files = tells.0 in
    let count = files-counted all from before entry files (subst (IsImported all from before entry) tells.1 is) in
    ap (λ rs. listed_text line rs (games_told rs) version) tells.2
    ∙ ap (λ n. listed_text line (reports_of files) n version) count
    ∙ ap (λ f. report_text line f version) (sym tells.1)
told-report all from before entry line version (report.Made games full) finding is tells =
    let files = tells.0 in
    ap (λ n. made_text line n full version) tells.2
    ∙ ap (λ n. made_text line (length (games_of_files files)) n version) tells.3
    ∙ ap (λ f. report_text line f version) (sym tells.1)

-- what was printed into nothing
pub told-text : (line at : ℕ) (body : ReportBody) (last version : ℕ) (before after : List ℕ) → after ≡ before ++ told_text at body version → before ≡ [] → at ≡ line → version ≡ last → after ≡ told_text line body last
told-text line at body last version before after printed none line_is version_is =
    printed ∙ ap (λ (l : List ℕ). l ++ told_text at body version) none ∙ (λ i. told_text (line_is i) body (version_is i))

-- ---- an import was made

made-names : (all : List File) (games start : ℕ) (before : Counts) (entry : ImportCourse) (finding : Finding) → IsImported all (source.Made games start) before entry finding → names_found finding ≡ []
made-names all games start before entry Unlisted is = absurd is
made-names all games start before entry (TooMany count) is = absurd is
made-names all games start before entry (Files files) is = absurd is
made-names all games start before entry (Made files) is = refl

module _ (all : List File) (batch : ℕ) (recorded : List ℕ) (before between : Kept) (body : ReportBody) where
  -- an import was made as a record shows it, or one of made games
  abbrev pub IsMadeBy : Source → ShownImport → Type 0
  IsMadeBy (source.Under path) shown = ImportsBy all (source.Under path) batch (is_shown_unlisted recorded shown.line) (is_shown_unread recorded shown.line) before between body
  IsMadeBy (source.Made games start) shown = ImportsBy all (source.Made games start) batch false (λ name. false) before between body

  by-shown : (from : Source) (line : ℕ) (shown : ShownImport) → IsShownBy from line recorded shown → IsMadeBy from shown → ImportsBy all from batch (is_shown_unlisted recorded line) (is_shown_unread recorded line) before between body
  by-shown (source.Under path) line shown is by =
      subst (λ (n : ℕ). ImportsBy all (source.Under path) batch (is_shown_unlisted recorded n) (is_shown_unread recorded n) before between body) is.0 by
  by-shown (source.Made games start) line shown is by =
      let none = made-names all games start before.counts by.finds.entry by.finds.finding by.finds.imported in record {
        finds = record {
          entry = by.finds.entry;
          finding = by.finds.finding;
          imported = by.finds.imported;
          unlisted = (λ lost. absurd (by.finds.unlisted.0 lost).1, λ lost. absurd lost.1);
          unread = by.finds.unread ∙ ap (λ (ns : List (List ℕ)). filter (λ (name : List ℕ). false) ns) none ∙ sym (ap (λ (ns : List (List ℕ)). filter (is_shown_unread recorded line) ns) none);
        };
        tells = by.tells;
        ahead = by.ahead;
        held = by.held;
        waiting = by.waiting;
      }

  pub import-at : (from : Source) (line : ℕ) (shown : ShownImport) (after : Kept) (text : List ℕ) → IsShownBy from line recorded shown → IsMadeBy from shown → text ≡ told_text line body (kept_last between) → after ≡ record between { waiting = Some text } → ImportsAt all from line batch recorded before after
  import-at from line shown after text is made told same =
      let by = by-shown from line shown is made in record {
        finds = by.finds;
        ahead = ap (λ (k : Kept). k.ahead) same ∙ by.ahead;
        held = ap (λ (k : Kept). k.held) same ∙ by.held;
        waiting =
            ap (λ (k : Kept). k.waiting) same
            ∙ ap (λ (t : List ℕ). Some t) (told ∙ told-report all from before.counts by.finds.entry line (kept_last between) body by.finds.finding by.finds.imported by.tells ∙ ap (λ (n : ℕ). report_text line by.finds.finding n) (sym (ap kept_last same)));
      }
