-- What a statement prints: the report that waits, perhaps, and whole lines that are no report. What waits
-- behind it.
use Rattle.std.proofs.Common.{◌≡◌, ◌∙◌, ◌⊎◌, inl, inr, ℕ, ◌^◌, ◌<◌, true, List, [], ◌∷◌, ◌++◌, Option, Some, None, length, refl, sym, ap}
use Rattle.std.specs.Prelude.{All}
use Rattle.std.proofs.lemmas.List.Elements.{All-head, All-tail}
use Rattle.info_filter.specs.declared.filter.Filter.{Filter}
use Rattle.pattern_images.specs.declared.query.Query.{Query}
use Rattle.kb_edges.specs.Files.{File}
use Rattle.query_script.specs.declared.statement.PlacedSearch.{PlacedSearch}
use Rattle.query_script.specs.declared.statement.Statement.{Statement}
use Rattle.query_script.specs.declared.statement.Statement.TheVariants as statement
use Rattle.query_script.specs.Texts.{no_watch_text, taken_text, until_text, wait_text, watch_text, watched_text}
use Rattle.import_work.specs.Course.{Finding, ImportCourse, names_found, trees_in}
use Rattle.import_work.specs.Log.{games_of_segments}
use Rattle.import_work.specs.Outcome.{counts_of}
use Rattle.import_work.specs.declared.source.Source.{Source}
use Rattle.import_work.specs.declared.source.Source.TheVariants as source
use Rattle.session_core.specs.Answers.{IsRetiredBy, IsWatchBegun, IsWatchMissing, IsWatchTaken, IsWatchTold, boxes_text}
use Rattle.session_core.specs.ImportTexts.{import_line_text, report_text}
use Rattle.session_core.specs.Lawful.{AreSearched, IsPassed, NamesNone, NamesVersion, OpensImport, Rules, State, last_of, view_at, waiting_text}
use Rattle.session_core.specs.SessionState.{SessionState}
use Rattle.run_audit.specs.Verdict.{IsOneLine}
use Rattle.run_audit.proofs.AnswerLines.{doubles-no_report, game-no_report, import-no_report, kept-no_report, make-no_report, no_retire-no_report, no_watch-no_report, opening-no_report, players-no_report, boxes-no_report, retire-no_report, searched-no_report, signature-no_report, taken-no_report, until-no_report, wait-no_report, watch-no_report, watched-no_report}
use Rattle.run_audit.proofs.CleanStates.{IsClean, IsLineName, clean-at, found-names}
use Rattle.run_audit.proofs.LineLists.{one_line}
use Rattle.run_audit.proofs.OtherLines.{HasNoReport, no_report-none, no_report-same, no_report-then}
use Rattle.run_audit.proofs.ScriptNames.{HasLineNames}

-- the report of an import at a line waits, and no name that it found has a line feed
pub record IsReportAt (at : ℕ) (report : List ℕ) : Type 0 where
  pub finding : Finding
  pub version : ℕ
  pub named : All IsLineName (names_found finding)
  pub is : report ≡ report_text at finding version

-- nothing waits, or such a report
abbrev pub WaitsFor : ℕ → Option (List ℕ) → Type 0
WaitsFor at waiting = (waiting ≡ None) ⊎ ((report : List ℕ) × (waiting ≡ Some report) × IsReportAt at report)

module _ (line : ℕ) (few : line < 2 ^ 64) where
  abbrev NoReport : List ℕ → Type 0
  NoReport text = HasNoReport line few text

  -- A statement at a line prints the report that waits and then whole lines, and behind it that of its own
  -- import waits, if any. Or it prints such lines alone, and the same waits.
  pub data IsStep (s next : State) (at : ℕ) (text : List ℕ) : Type 0 where
    joins : (own : List ℕ) → NoReport own → text ≡ waiting_text s ++ own → WaitsFor at next.waiting → IsStep s next at text
    stays : NoReport text → next.waiting ≡ s.waiting → IsStep s next at text

  module _ (files : List File) (rules : Rules) (clean : All (λ (f : File). IsOneLine f.name) files) where
    -- an import begins
    opens : (s next : State) (at : ℕ) (from : Source) (used : List ImportCourse) (text : List ℕ) → NoReport (import_line_text at from) → OpensImport files rules s at from used text next → IsStep s next at text
    opens s next at from used text lacks is =
        joins (import_line_text at from) lacks is.4
        (inr (
          report_text at is.1 (last_of next),
          ap (λ (t : State). t.waiting) is.5 ∙ ap (λ n. Some (report_text at is.1 n)) (sym (ap last_of is.5)),
          record { finding = is.1; version = last_of next; named = found-names files from (counts_of (trees_in (games_of_segments s.log))) is.0 is.1 clean is.3; is = refl },
        ))

    -- the searches of a block
    searches-no_report : (s : State) (searches : List PlacedSearch) (session : SessionState) (greatest : ℕ) (text : List ℕ) (after : SessionState) → All (λ (p : PlacedSearch). p.line < 2 ^ 64) searches → AreSearched rules s searches session greatest text after → NoReport text
    searches-no_report s [] session greatest text after small h = no_report-same line few text [] h.1 (no_report-none line few)
    searches-no_report s (p ∷ ps) session greatest text after small h =
        no_report-same line few text (h.1 ++ h.4) h.9
        (no_report-then line few h.1 h.4
        (searched-no_report line few p.line (All-head (λ (p : PlacedSearch). p.line < 2 ^ 64) p ps small) (view_at s h.0) p.query p.filter (h.6).hits h.1 (h.6).is_text)
        (searches-no_report s ps h.2 h.3 h.4 after (All-tail (λ (p : PlacedSearch). p.line < 2 ^ 64) p ps small) h.7))

    module _ (s next : State) (at : ℕ) (at_few : at < 2 ^ 64) (h : IsClean s) where
      retired-no_report : (name : List ℕ) (session : SessionState) (text : List ℕ) (after : SessionState) → one_line name ≡ true → IsRetiredBy at name session text after → NoReport text
      retired-no_report name session _ _ one (IsRetiredBy.retired boxes is) = retire-no_report line few at at_few name one
      retired-no_report name session _ _ one (IsRetiredBy.none none) = no_retire-no_report line few at at_few name one

      begun-step : (name : List ℕ) (query : Query) (filter : Filter) (used : List ImportCourse) (text : List ℕ) → one_line name ≡ true →
          NamesVersion rules s (λ view after. IsWatchBegun at view name query filter s.session text after) used next ⊎ NamesNone s (IsWatchTaken at name s.session text) used next → IsStep s next at text
      begun-step name query filter used text one (inl is) =
          stays (no_report-same line few text (watch_text at name is.0 (length (is.3).hits)) (is.3).text_is (watch-no_report line few at at_few name is.0 (length (is.3).hits) one)) (ap (λ (t : State). t.waiting) is.5)
      begun-step name query filter used text one (inr is) =
          stays (no_report-same line few text (taken_text at name) (is.1).text_is (taken-no_report line few at at_few name one)) (ap (λ (t : State). t.waiting) is.3)

      told-step : (name : List ℕ) (used : List ImportCourse) (text : List ℕ) → one_line name ≡ true →
          NamesVersion rules s (λ view after. IsWatchTold at view name s.session text after) used next ⊎ NamesNone s (IsWatchMissing at name s.session text) used next → IsStep s next at text
      told-step name used text one (inl is) =
          let view = view_at s is.0 in
          stays (no_report-same line few text (watched_text at name is.0 (length view.games) (is.3).hits (is.3).table) (is.3).text_is (watched-no_report line few at at_few name is.0 (length view.games) (is.3).hits (is.3).table one)) (ap (λ (t : State). t.waiting) is.5)
      told-step name used text one (inr is) =
          stays (no_report-same line few text (no_watch_text at name) (is.1).text_is (no_watch-no_report line few at at_few name one)) (ap (λ (t : State). t.waiting) is.3)

      pub step : (own : Statement) (used : List ImportCourse) (text : List ℕ) → HasLineNames own → IsPassed files rules s at own used text next → IsStep s next at text
      step (statement.Import path) used text names is = opens s next at (source.Under path) used text (import-no_report line few at at_few path names) is
      step (statement.Make games start) used text names is = opens s next at (source.Made games start) used text (make-no_report line few at at_few games start) is
      step statement.Wait used text names is = joins (wait_text at (last_of s)) (wait-no_report line few at at_few (last_of s)) is.1 (inl (ap (λ (t : State). t.waiting) is.2))
      step (statement.Until number) used text names is =
          stays (no_report-same line few text (until_text at number is.0) is.3 (until-no_report line few at at_few number is.0)) (ap (λ (t : State). t.waiting) is.4)
      step (statement.Together searches) used text names is = stays (searches-no_report s searches s.session is.0 text is.1 names is.2) (ap (λ (t : State). t.waiting) is.4)
      step (statement.Search query filter) used text names is =
          stays (searched-no_report line few at at_few (view_at s is.0) query filter (is.3).hits text (is.3).is_text) (ap (λ (t : State). t.waiting) is.5)
      step (statement.Kept query) used text names is = stays (kept-no_report line few at at_few (view_at s is.0) query text is.3.0) (ap (λ (t : State). t.waiting) is.5)
      step (statement.Signature pattern) used text names is = stays (signature-no_report line few at at_few (view_at s is.0) pattern.bytes text is.3.0) (ap (λ (t : State). t.waiting) is.5)
      step statement.Players used text names is = stays (players-no_report line few at at_few (view_at s is.0) text (clean-at s h is.0) is.3.0) (ap (λ (t : State). t.waiting) is.5)
      step statement.Doubles used text names is = stays (doubles-no_report line few at at_few (view_at s is.0) text is.3.0) (ap (λ (t : State). t.waiting) is.5)
      step (statement.Game number) used text names is = stays (game-no_report line few at at_few (view_at s is.0) number text (clean-at s h is.0) is.3.0) (ap (λ (t : State). t.waiting) is.5)
      step (statement.Opening shape depth least) used text names is = stays (opening-no_report line few at at_few (view_at s is.0) shape depth least text is.3.0) (ap (λ (t : State). t.waiting) is.5)
      step statement.Report used text names is = stays (no_report-same line few text (boxes_text at s.session.boxes) is.0 (boxes-no_report line few at at_few s.session.boxes h.boxes)) (ap (λ (t : State). t.waiting) is.2)
      step (statement.Retire name) used text names is = stays (retired-no_report name s.session text is.0 names is.1) (ap (λ (t : State). t.waiting) is.3)
      step (statement.Watch name query filter) used text names is = begun-step name query filter used text names is
      step (statement.Watched name) used text names is = told-step name used text names is
