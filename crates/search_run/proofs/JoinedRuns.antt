-- A run whose import was joined.
use Rattle.std.proofs.Common.{◌≡◌, ℕ, ◌≤◌, List, [], ◌∷◌, ◌++◌, Option, Some, Ok, Err, Result, length, ◌⊎◌, inl, inr, ◌+◌, ◌-◌, ◌<◌, drop, get_or, take, sym, ap, ◌∙◌, subst, append_assoc, arith}
use Rattle.std.specs.Prelude.{IfOk, OnOk}
use Rattle.std.specs.Result.{IsOk}
use Rattle.std.proofs.Math.Seq.{take-add}
use Rattle.std.proofs.lemmas.List.{length-drop, take_all}
use Rattle.kb_edges.specs.Faults.{Rose}
use Rattle.kb_edges.specs.Files.{File}
use Rattle.hit_collectors.specs.Tallies.{BoxTally}
use Rattle.query_script.specs.declared.statement.Placed.{Placed}
use Rattle.version_publisher.specs.Contents.{BookName, items_in}
use Rattle.version_publisher.specs.declared.state.PublisherState.{PublisherState}
use Rattle.version_publisher.specs.declared.state.SearcherState.{SearcherState}
use Rattle.node_position.specs.Games.{Game}
use Rattle.import_work.specs.Course.{IsImported, losses_of, trees_in}
use Rattle.import_work.specs.Log.{Segment, games_of_segments, segments_of}
use Rattle.import_work.specs.Outcome.{counts_of}
use Rattle.import_work.specs.declared.report.Report.{Report}
use Rattle.import_work.specs.declared.source.Source.{Source}
use Rattle.import_work.proofs.FileLemmas.{RoseBy-then}
use Rattle.import_work.proofs.Losses.{losses_of-append}
use Rattle.search_run.specs.Beside.{EndsWith, HasAnsweredAll, HasRunTo, IsImportJoined, IsJobOf, StandsStill}
use Rattle.session_core.specs.Lawful.{HasPrinted, Rules, waiting_text}
use Rattle.session_core.specs.SessionState.{SessionState, session_of}
use Rattle.import_segments.specs.Merged.{AreMerged}
use Rattle.import_segments.specs.Publishing.{IsIdle, IsLogWithinLimits}
use Rattle.search_run.specs.Run.{WritesPublished, beside_rules}
use Rattle.session_core.specs.ImportTexts.{told_text}
use Rattle.serial_run.specs.Steps.{Kept, PassesText, import_at, kept_report, nothing_kept}
use Rattle.session_core.specs.Sources.{IsNoImport}
use Rattle.session_core.specs.ImportTexts.{import_line_text, report_text}
use Rattle.search_run.specs.declared.importer.ImportJob.{ImportJob}
use Rattle.search_run.proofs.BesideLemmas.{prints-first}
use Rattle.import_segments.proofs.PushedSegments.{items_in-games_of_segments}
use Rattle.serial_run.proofs.RunLemmas.{HasRun-more, HasRun-start, no_loss, taken_more}
use Rattle.serial_run.proofs.StatementLemmas.{waiting_is}
use Rattle.session_core.proofs.StateLemmas.{log_kept}

-- what is so of one value, and what else is so of it
pub ok_both : {T E : Type 0} (result : Result T E) (P Q W : T → Type 0) → IfOk result P → IfOk result Q → ((x : T) → P x → Q x → W x) → IfOk result W
ok_both (Ok x) P Q W p q both = both x p q
ok_both (Err e) P Q W p q both = tt

-- An import was joined: the run goes on from the state behind the statements that were answered
-- beside it.
module _ (files : List File) (batch line : ℕ) (from : Source) (job : ImportJob) (kept after : Kept) (log log_now : List Segment) (first second third : ℕ) (told : Report) (ordered : IsJobOf job batch line from kept) (ends : EndsWith files job log log_now second third told) where
  module _ (start : List BoxTally) (done answered : List Placed) (session session_now : SessionState) (before : List ℕ) (was written : Option (List ℕ)) (WasSeen IsSeen : List Segment → Type 0) (floor : ℕ) (h : HasRunTo (beside_rules batch) files start done kept session log before was first second) where
    abbrev own : List ℕ
    own = kept_report kept ++ import_line_text line from

    -- the log is that of the state with what was found
    log_is : log_now ≡ h.run.state.log ++ segments_of batch ends.finds.finding
    log_is = ends.grown ∙ ap (λ b. log ++ segments_of b ends.finds.finding) ordered.batch_is ∙ ap (λ (l : List Segment). l ++ segments_of batch ends.finds.finding) (sym h.log_is)

    found : IsImported files from (counts_of (trees_in (games_of_segments h.run.state.log))) ends.finds.entry ends.finds.finding
    found = subst (λ (l : List Segment). IsImported files from (counts_of (trees_in (games_of_segments l))) ends.finds.entry ends.finds.finding) (sym h.log_is)
        (subst (λ p. IsImported files p (counts_of (trees_in (games_of_segments log))) ends.finds.entry ends.finds.finding) ordered.source_is ends.finds.imported)

    pub joined-run : floor ≡ length log → HasAnsweredAll WasSeen floor session answered IsSeen session_now ((before ++ h.run.text) ++ own) written → IsSeen log_now → IsImportJoined log_now (Ok told) after → HasRunTo (beside_rules batch) files start (done ++ import_at line from ∷ answered) after session_now log_now before written first third
    joined-run floor_is all seen joined =
        let run = h.run in
        let finding = ends.finds.finding in
        let same : Ok told ≡ Ok joined.told = joined.report_is in
        let told_is : told ≡ joined.told = cc in
        let own_is : own ≡ waiting_text run.state ++ import_line_text line from = ap (λ t. t ++ import_line_text line from) (waiting_is run.state kept session run.is_kept) in
        let started = prints-first files (beside_rules batch) start run.course done run.state run.text run.printed run.is_kept.floor floor (omega (arith, floor_is, ap length h.log_is)) line from WasSeen session run.is_kept.session_is own own_is in
        let answers = all.answered batch in
        let r = answers.goes_on files start run.state line from run.course (done ++ import_at line from ∷ []) (run.text ++ own) started ends.finds.entry finding found (subst IsSeen log_is seen) in
        let now : log_now ≡ r.state.log = log_is ∙ sym r.log_is in record {
          run = record {
            state = r.state;
            is_kept = record {
              version = joined.version ∙ ap length now;
              games = joined.games ∙ items_in-games_of_segments log_now ∙ ap games_of_segments now;
              waiting =
                  joined.waiting
                  ∙ ap (λ (t : Report). Some (told_text t.line t.body t.version)) (sym told_is)
                  ∙ ap Some (ends.text ∙ ap (λ l. report_text l finding (length log_now)) ordered.line_is ∙ ap (λ (l : List Segment). report_text line finding (length l)) log_is)
                  ∙ sym r.waiting_is;
              floor = omega (arith, r.floor_at_most, all.floor_seen log_now seen, ap length now);
              session_is = r.session_is;
            };
            course = run.course ++ ends.finds.entry ∷ [];
            text = (run.text ++ own) ++ answers.text;
            printed = subst (λ ps. HasPrinted files (beside_rules batch) start (run.course ++ ends.finds.entry ∷ []) ps r.state ((run.text ++ own) ++ answers.text)) (append_assoc done (import_at line from ∷ []) answered) r.printed;
            written_is = answers.written_is ∙ ap Some (ap (λ t. t ++ answers.text) (append_assoc before run.text own) ∙ append_assoc before (run.text ++ own) answers.text);
            paid = rw losses_of-append (RoseBy-then (losses_of run.course) (losses_of (ends.finds.entry ∷ [])) first second third run.paid ends.finds.paid);
          };
          log_is = sym now;
        }

-- a statement that is no import was answered while no import was under way
pub still-run : (rules : Rules) (files : List File) (start : List BoxTally) (session told : SessionState) (done : List Placed) (p : Placed) (kept after : Kept) (log : List Segment) (before : List ℕ) (was written : Option (List ℕ)) (first second : ℕ) (h : HasRunTo rules files start done kept session log before was first second) → IsNoImport p.statement → PassesText kept session p after told (before ++ h.run.text) written → HasRunTo rules files start (done ++ p ∷ []) after told log before written first second
unfolding HasRun-more
still-run rules files start session told done p kept after log before was written first second h no_import passes =
    let led = passes.leads rules files second session told h.run.state h.run.is_kept (passes.text_is rules files h.run.state h.run.is_kept) in record {
      run = HasRun-more rules files start session told done p kept after before was written first second second h.run (record { text = passes.text; text_is = passes.text_is rules; written_is = passes.written_is; leads = passes.leads rules files second });
      log_is = log_kept rules files h.run.state led.1 p.line p.statement led.0 passes.text no_import led.3 ∙ h.log_is;
    }

-- one that was answered so, and none beside it
pub still-ran : {E : Type 0} (rules : Rules) (files : List File) (session told : SessionState) (p : Placed) (rest : List Placed) (kept : Kept) (log : List Segment) (was written : Option (List ℕ)) (second : ℕ) (result : Result (Kept × ℕ) E) → IsNoImport p.statement → ((value : List ℕ) → was ≡ Some value → IfOk result (λ r. PassesText kept session p r.0 told value written)) → IfOk result (λ r. r.1 ≡ 0) →
    IfOk result (λ r. (start : List BoxTally) (done : List Placed) (before : List ℕ) (first : ℕ) → HasRunTo rules files start done kept session log before was first second → HasRunTo rules files start (done ++ p ∷ take r.1 rest) r.0 told log before written first second)
still-ran rules files session told p rest kept log was written second (Ok r) no_import passes alone = λ start done before first h.
    subst (λ n. HasRunTo rules files start (done ++ p ∷ take n rest) r.0 told log before written first second) (sym alone)
    (still-run rules files start session told done p kept r.0 log before was written first second h no_import (passes (before ++ h.run.text) h.run.written_is))
still-ran rules files session told p rest kept log was written second (Err e) no_import passes alone = tt

-- the closing report is written
pub WritesPublished-end : (rules : Rules) (files : List File) (start : List BoxTally) (session : SessionState) (placed : List Placed) (kept : Kept) (publisher : PublisherState Game) (before : List ℕ) (between written : Option (List ℕ)) (first second : ℕ) (h : HasRunTo rules files start placed kept session publisher.log before between first second) → IsIdle publisher → AreMerged publisher.parts → written ≡ Some ((before ++ h.run.text) ++ kept_report kept) → WritesPublished rules files start placed before written first second publisher
WritesPublished-end rules files start session placed kept publisher before between written first second h idle merged closed = record {
  course = h.run.course;
  text = h.run.text;
  state = h.run.state;
  printed = h.run.printed;
  written_is = closed ∙ ap Some (append_assoc before h.run.text (kept_report kept) ∙ ap (λ t. before ++ (h.run.text ++ t)) (waiting_is h.run.state kept session h.run.is_kept));
  paid = h.run.paid;
  nothing_lost = no_loss (losses_of h.run.course) first second h.run.paid;
  log = sym h.log_is;
  idle = idle;
  merged = merged;
}

-- ---- a run from its start

-- the run stands still where nothing is published yet
pub stands-first : (opening : BookName) (publisher : PublisherState Game) (own : SearcherState Game) → publisher.opening ≡ opening → IsIdle publisher → AreMerged publisher.parts → publisher.log ≡ [] → own.seen ≡ [] → StandsStill opening publisher own nothing_kept
stands-first opening publisher own opened idle merged empty seen = record {
  opened = opened;
  idle = idle;
  merged = merged;
  limits = subst IsLogWithinLimits (sym empty) (omega arith, omega arith);
  own_seen = seen ∙ sym empty;
  version = sym (ap length empty);
  games = sym (ap items_in empty);
}

-- nothing is run yet
pub starts-run : (rules : Rules) (files : List File) (session : SessionState) (log : List Segment) (before : List ℕ) (written : Option (List ℕ)) (count : ℕ) → session.watches ≡ [] → log ≡ [] → written ≡ Some before → HasRunTo rules files session.boxes [] nothing_kept session log before written count count
unfolding HasRun-start
starts-run rules files session log before written count unwatched empty is = record {
  run = HasRun-start rules files session.boxes session before written count (ap (session_of session.boxes) unwatched) is;
  log_is = sym empty;
}

-- the elements up to one, it, and some behind it
pub taken_with : {A : Type 0} (xs : List A) (i n : ℕ) (x : A) → i < length xs → x ≡ get_or xs i x → take (i + (1 + n)) xs ≡ take i xs ++ x ∷ take n (take (length xs - (i + 1)) (drop (i + 1) xs))
taken_with {A} xs i n x below is =
    let sum : i + (1 + n) ≡ (i + 1) + n = omega arith in
    ap (λ k. take k xs) sum
    ∙ take-add (i + 1) n xs
    ∙ ap (λ (ys : List A). ys ++ take n (drop (i + 1) xs)) (taken_more xs i x below is)
    ∙ append_assoc (take i xs) (x ∷ []) (take n (drop (i + 1) xs))
    ∙ ap (λ (ys : List A). take i xs ++ x ∷ take n ys) (sym (take_all (length xs - (i + 1)) (drop (i + 1) xs) (omega (arith, length-drop (i + 1) xs))))

-- ---- a run that is closed

-- a count that rose since a later moment
pub rose_since : (before between now : ℕ) → before ≤ between → Rose between now → Rose before now
rose_since before between now later rose = omega (arith, later, rose)

-- one that rose before or since
pub rose_either : (before between now : ℕ) (P : Type 0) → (P → Rose before between) → before ≤ between → between ≤ now → P ⊎ Rose between now → Rose before now
rose_either before between now P first later after (inl p) = omega (arith, first p, after)
rose_either before between now P first later after (inr rose) = rose_since before between now later rose

on_ok : {T E : Type 0} (result : Result T E) (P Q : Type 0) → OnOk result P → (P → Q) → OnOk result Q
on_ok (Ok x) P Q p f = f p
on_ok (Err e) P Q p f = tt

-- all statements were run, and the closing report is written
pub closed-run : {T E : Type 0} (outcome : Result (Kept × ℕ) E) (result : Result T E) (rules : Rules) (files : List File) (start : List BoxTally) (session : SessionState) (placed : List Placed) (publisher : PublisherState Game) (before : List ℕ) (was written : Option (List ℕ)) (first second : ℕ) → IfOk outcome (λ r. HasRunTo rules files start placed r.0 session publisher.log before was first second) → IfOk outcome (λ r. IsIdle publisher) → IfOk outcome (λ r. AreMerged publisher.parts) →
    ((value : List ℕ) → was ≡ Some value → OnOk result (IfOk outcome (λ r. written ≡ Some (value ++ kept_report r.0)))) → OnOk result (IsOk outcome) → OnOk result (WritesPublished rules files start placed before written first second publisher)
closed-run (Ok r) result rules files start session placed publisher before was written first second h idle merged whole ok =
    on_ok result (written ≡ Some ((before ++ h.run.text) ++ kept_report r.0)) (WritesPublished rules files start placed before written first second publisher) (whole (before ++ h.run.text) h.run.written_is)
    (λ closed. WritesPublished-end rules files start session placed r.0 publisher before was written first second h idle merged closed)
closed-run (Err e) (Ok x) rules files start session placed publisher before was written first second h idle merged whole ok = absurd (cc ok)
closed-run (Err e) (Err f) rules files start session placed publisher before was written first second h idle merged whole ok = tt
