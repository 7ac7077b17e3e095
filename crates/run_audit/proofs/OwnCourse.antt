-- A lawful output shows its own course: the report of an import stands there once, and no other line begins
-- as it does.
use Rattle.std.proofs.Common.{◌≡◌, ◌∙◌, inl, inr, ℕ, ◌^◌, ◌<◌, Bool, true, false, List, [], ◌∷◌, ◌++◌, Option, Some, get_or, map, refl, sym, ap, subst, append_assoc, append-nil}
use Rattle.std.specs.Prelude.{◌≢◌, All, AllPairs, filter}
use Rattle.std.specs.Option.{option_map_or}
use Rattle.std.specs.Str.{bytes_eq}
use Rattle.std.proofs.lemmas.Bool.{false≢true}
use Rattle.std.proofs.lemmas.List.Elements.{All-head, All-nil, All-tail}
use Rattle.kb_geometry.proofs.Lists.{All-before}
use Rattle.kb_edges.specs.Files.{File, HasPath}
use Rattle.hit_collectors.specs.Tallies.{BoxTally}
use Rattle.query_script.specs.declared.statement.Placed.{Placed}
use Rattle.import_work.specs.Course.{FileReport, Files, Finding, ImportCourse, ImportFile, IsImported, Made, TooMany, Unlisted, names_of, reports_of}
use Rattle.import_work.specs.declared.outcome.Counts.{Counts}
use Rattle.import_work.specs.declared.source.Source.TheVariants as source
use Rattle.import_work.proofs.NamesExist.{IsBefore, names_opposed}
use Rattle.import_work.proofs.ReadFiles.{All_behind, unread_told}
use Rattle.session_core.specs.ImportTexts.{report_text}
use Rattle.session_core.specs.Lawful.{HasPrinted, IsPassed, Rules, State, waiting_text}
use Rattle.run_audit.specs.Shown.{IsShown, is_shown_unlisted, is_shown_unread, unlisted_line}
use Rattle.run_audit.specs.Verdict.{IsOneLine}
use Rattle.run_audit.proofs.AnswerLines.{IsCleanBox, IsCleanGame}
use Rattle.run_audit.proofs.CleanStates.{IsClean, clean-on}
use Rattle.run_audit.proofs.OtherLines.{HasReport, HasNoReport, no_report-none, no_report-same, no_report-then, unlisted-shown, unread-shown}
use Rattle.run_audit.proofs.ReportTexts.{files-head, lines_of_report, listed-head, report-no_report, report_head_of, too_many-head, unlisted-head}
use Rattle.run_audit.proofs.ScriptNames.{IsFine}
use Rattle.run_audit.proofs.ShownFiles.{files-shown}
use Rattle.run_audit.proofs.StepLines.{IsReportAt, IsStep, WaitsFor, step}
use Rattle.run_audit.proofs.StepLines as steps

-- ---- what is printed from a state on

-- from this state on these statements print this, the report that waits at the end too
pub data PrintsFrom (files : List File) (rules : Rules) : State → List Placed → List ℕ → Type 0 where
  nothing : {s : State} → PrintsFrom files rules s [] (waiting_text s)
  one_more : {s : State} {placed : List Placed} {rest : List ℕ} (used : List ImportCourse) (p : Placed) (next : State) (text : List ℕ) →
      IsPassed files rules s p.line p.statement used text next → PrintsFrom files rules next placed rest → PrintsFrom files rules s (p ∷ placed) (text ++ rest)

-- the text that waits, by what waits
waiting-same : (s t : State) → s.waiting ≡ t.waiting → waiting_text s ≡ waiting_text t
waiting-same s t same = ap (λ (w : Option (List ℕ)). option_map_or (λ report. report) w []) same

module _ (line : ℕ) (few : line < 2 ^ 64) where
  abbrev NoReport : List ℕ → Type 0
  NoReport text = HasNoReport line few text

  -- what waits for another line is no report of this one
  waits-no_report : (s : State) (at : ℕ) → at < 2 ^ 64 → (at ≡ line → ⊥) → WaitsFor at s.waiting → NoReport (waiting_text s)
  waits-no_report s at at_few apart (inl none) = no_report-same line few (waiting_text s) [] (ap (λ (w : Option (List ℕ)). option_map_or (λ report. report) w []) none) (no_report-none line few)
  waits-no_report s at at_few apart (inr (report, is, told)) =
      no_report-same line few (waiting_text s) (report_text at told.finding told.version) (ap (λ (w : Option (List ℕ)). option_map_or (λ report. report) w []) is ∙ told.is)
      (report-no_report line few at told.finding told.version at_few apart told.named)

  step-no_report : (s next : State) (at : ℕ) (text : List ℕ) → at < 2 ^ 64 → (at ≡ line → ⊥) → IsStep line few s next at text → NoReport (waiting_text s) → NoReport text × NoReport (waiting_text next)
  step-no_report s next at text at_few apart (steps.joins own lacks is waits) so_far =
      (no_report-same line few text (waiting_text s ++ own) is (no_report-then line few (waiting_text s) own so_far lacks), waits-no_report next at at_few apart waits)
  step-no_report s next at text at_few apart (steps.stays lacks same) so_far = (lacks, no_report-same line few (waiting_text next) (waiting_text s) (waiting-same next s same) so_far)

  -- a statement that stands at another line
  abbrev IsElsewhere : Placed → Type 0
  IsElsewhere p = p.line ≡ line → ⊥

  module _ (files : List File) (rules : Rules) (clean : All (λ (f : File). IsOneLine f.name) files) where
    -- what statements at other lines printed, and what waits behind them
    pub record HasPassed (s : State) (out : List ℕ) : Type 0 where
      pub state : IsClean s
      pub waiting : NoReport (waiting_text s)
      pub text : NoReport out

    pub before-no_report : (boxes : List BoxTally) → All IsCleanBox boxes → (course : List ImportCourse) (placed : List Placed) (s : State) (out : List ℕ) → HasPrinted files rules boxes course placed s out → All IsFine placed → All IsElsewhere placed → HasPassed s out
    before-no_report boxes named _ _ _ _ HasPrinted.nothing fine apart = record { state = record { games = All-nil IsCleanGame; boxes = named }; waiting = no_report-none line few; text = no_report-none line few }
    before-no_report boxes named _ _ _ _ (HasPrinted.one_more {course} {placed} {s} {out} used p next text so_far is) fine apart =
        let before = before-no_report boxes named course placed s out so_far (All-before IsFine placed (p ∷ []) fine) (All-before IsElsewhere placed (p ∷ []) apart) in
        let own = All-head IsFine p [] (All_behind IsFine placed (p ∷ []) fine) in
        let other = All-head IsElsewhere p [] (All_behind IsElsewhere placed (p ∷ []) apart) in
        let both = step-no_report s next p.line text own.few other (step line few files rules clean s next p.line own.few before.state p.statement used text own.names is) before.waiting in
        record { state = clean-on files rules clean s next p.line p.statement used text before.state is; waiting = both.1; text = no_report-then line few out text before.text both.0 }

    pub after-no_report : (s : State) (placed : List Placed) (rest : List ℕ) → PrintsFrom files rules s placed rest → IsClean s → NoReport (waiting_text s) → All IsFine placed → All IsElsewhere placed → NoReport rest
    after-no_report _ _ _ (nothing) state waiting fine apart = waiting
    after-no_report _ _ _ (one_more {s} {placed} {rest} used p next text is more) state waiting fine apart =
        let own = All-head IsFine p placed fine in
        let both = step-no_report s next p.line text own.few (All-head IsElsewhere p placed apart) (step line few files rules clean s next p.line own.few state p.statement used text own.names is) waiting in
        no_report-then line few text rest both.0
        (after-no_report next placed rest more (clean-on files rules clean s next p.line p.statement used text state is) both.1 (All-tail IsFine p placed fine) (All-tail IsElsewhere p placed apart))

    -- a report that waits is printed once
    pub record IsPrintedOnce (rest report : List ℕ) : Type 0 where
      pub before : List ℕ
      pub after : List ℕ
      pub none_before : NoReport before
      pub none_after : NoReport after
      pub is : rest ≡ before ++ (report ++ after)

    pub own-printed : (s : State) (placed : List Placed) (rest report : List ℕ) → PrintsFrom files rules s placed rest → IsClean s → s.waiting ≡ Some report → All IsFine placed → All IsElsewhere placed → IsPrintedOnce rest report
    own-printed _ _ _ report (nothing {s}) state waits fine apart = record {
      before = [];
      after = [];
      none_before = no_report-none line few;
      none_after = no_report-none line few;
      is = ap (λ (w : Option (List ℕ)). option_map_or (λ report. report) w []) waits ∙ sym (append-nil report);
    }
    own-printed _ _ _ report (one_more {s} {placed} {rest} used p next text is more) state waits fine apart =
        let own = All-head IsFine p placed fine in
        let other = All-head IsElsewhere p placed apart in
        let after = clean-on files rules clean s next p.line p.statement used text state is in
        let later = All-tail IsFine p placed fine in
        let elsewhere = All-tail IsElsewhere p placed apart in
        by (step line few files rules clean s next p.line own.few state p.statement used text own.names is)
        (λ waiting. after-no_report next placed rest more after waiting later elsewhere) (λ waiting. own-printed next placed rest report more after waiting later elsewhere) own.few other
      where
        by : IsStep line few s next p.line text → (NoReport (waiting_text next) → NoReport rest) → (next.waiting ≡ Some report → IsPrintedOnce rest report) → p.line < 2 ^ 64 → (p.line ≡ line → ⊥) → IsPrintedOnce (text ++ rest) report
        by (steps.joins own lacks as_text waiting) later_lacks later small other = record {
          before = [];
          after = own ++ rest;
          none_before = no_report-none line few;
          none_after = no_report-then line few own rest lacks (later_lacks (waits-no_report next p.line small other waiting));
          is = ap (λ t. t ++ rest) (as_text ∙ ap (λ (w : Option (List ℕ)). option_map_or (λ report. report) w [] ++ own) waits) ∙ append_assoc report own rest;
        }
        by (steps.stays lacks same) later_lacks later small other =
            let once = later (same ∙ waits) in
            record {
              before = text ++ once.before;
              after = once.after;
              none_before = no_report-then line few text once.before lacks once.none_before;
              none_after = once.none_after;
              is = ap (λ t. text ++ t) once.is ∙ sym (append_assoc text once.before (report ++ once.after));
            }

  -- ---- the course that is shown

  module _ (recorded : List ℕ) (finding : Finding) (version : ℕ) (h : HasReport line few recorded (report_head_of line finding version) (lines_of_report finding)) where
    abbrev IsUnlistedHead : Bool → Type 0
    IsUnlistedHead b = bytes_eq (report_head_of line finding version) (unlisted_line line) ≡ b

    told-unlisted : (b : Bool) → IsUnlistedHead b → is_shown_unlisted recorded line ≡ b
    told-unlisted b is = unlisted-shown line few recorded (report_head_of line finding version) (lines_of_report finding) h ∙ is

  names-map : (files : List ImportFile) → names_of files ≡ map (λ (f : FileReport). f.name) (reports_of files)
  names-map [] = refl
  names-map (f ∷ files) = ap (λ ns. f.report.name ∷ ns) (names-map files)

  -- names in order are names of one file each
  names-apart : (names : List (List ℕ)) → AllPairs IsBefore names → AllPairs (λ a b. a ≢ b) names
  names-apart names order i j d less below same =
      let before = order i j d less below in
      let itself = subst (λ n. IsBefore n (get_or names j d)) same before in
      names_opposed (get_or names j d) (get_or names j d) itself itself

  -- the entry of an import by which nothing was lost as a whole
  listed-shown : (shown : Bool) (entry : ImportCourse) (There : Type 0) → entry.unlisted ≡ false → shown ≡ false → (entry.unlisted ≡ true → (shown ≡ true) × There) × ((shown ≡ true) × There → entry.unlisted ≡ true)
  listed-shown shown entry There none nor = (λ e. absurd (false≢true (sym none ∙ e)), λ k. absurd (false≢true (sym nor ∙ k.0)))

  pub own-shown : (files : List File) (path : List ℕ) (counts : Counts) (entry : ImportCourse) (recorded : List ℕ) (finding : Finding) (version : ℕ) → IsImported files (source.Under path) counts entry finding →
      HasReport line few recorded (report_head_of line finding version) (lines_of_report finding) → IsShown recorded line files (source.Under path) counts entry
  own-shown files path counts entry recorded Unlisted version is h =
      let shown = told-unlisted recorded Unlisted version h true (unlisted-head line version) in record {
        finds = record {
          entry = entry;
          finding = Unlisted;
          imported = is;
          unlisted = elim is.0 [
            | inl (lost, there) ↦ (λ e. (shown, there), λ k. lost)
            | inr (kept, none) ↦ (λ e. absurd (false≢true (sym kept ∙ e)), λ k. absurd (none k.1))
          ];
          unread = is.1;
        };
        entry_is = refl;
      }
  own-shown files path counts entry recorded (TooMany names) version is h =
      let shown = told-unlisted recorded (TooMany names) version h false (too_many-head line names version) in record {
        finds = record {
          entry = entry;
          finding = TooMany names;
          imported = is;
          unlisted = listed-shown (is_shown_unlisted recorded line) entry (HasPath files path) (ap (λ (c : ImportCourse). c.unlisted) is.1) shown;
          unread = ap (λ (c : ImportCourse). c.unread) is.1;
        };
        entry_is = refl;
      }
  own-shown files path counts entry recorded (Files found) version is h =
      let shown = told-unlisted recorded (Files found) version h false (listed-head line found version) in
      let reports = reports_of found in
      let head = files-head line found version in
      let named = names-map found in
      let apart : AllPairs (λ a b. a ≢ b) (map (λ (f : FileReport). f.name) reports) = subst (AllPairs (λ a b. a ≢ b)) named (names-apart (names_of found) is.names.ascending) in
      let told = files-shown (is_shown_unread recorded line) reports apart
      (λ wanted. unread-shown line few recorded (report_head_of line (Files found) version) (lines_of_report (Files found)) h head.0 wanted head.1) in record {
        finds = record {
          entry = entry;
          finding = Files found;
          imported = is;
          unlisted = listed-shown (is_shown_unlisted recorded line) entry (HasPath files path) is.listed shown;
          unread = unread_told files path counts found entry.unread is.read ∙ sym told ∙ ap (filter (is_shown_unread recorded line)) (sym named);
        };
        entry_is = refl;
      }
  own-shown files path counts entry recorded (Made found) version is h = absurd is
