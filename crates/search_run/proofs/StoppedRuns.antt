-- A run that stopped: what was written is a prefix of a lawful output, and what was published a
-- prefix of its log.
use Rattle.std.proofs.Common.{◌≡◌, inl, inr, ℕ, suc, ◌+◌, ◌-◌, ◌<◌, List, [], ◌∷◌, ◌++◌, Option, Some, Ok, Err, Result, length, drop, get_or, take, refl, sym, ap, ◌∙◌, subst, append_assoc, arith}
use Rattle.std.specs.Prelude.{IfOk, MatchResult, OnErr}
use Rattle.std.proofs.Math.Seq.{split_at}
use Rattle.std.proofs.lemmas.List.{append-nil, length-drop, take-append-drop, take_all}
use mathlib.Core.List.{IsPrefix}
use Rattle.kb_geometry.proofs.Prefixes.{prefix_same, prefix_trans}
use Rattle.kb_edges.specs.Faults.{RoseBy}
use Rattle.kb_edges.specs.Files.{File}
use Rattle.hit_collectors.specs.Tallies.{BoxTally}
use Rattle.query_script.specs.declared.statement.Placed.{Placed}
use Rattle.import_work.specs.Course.{ImportCourse, IsImported, losses_of, trees_in}
use Rattle.import_work.specs.Log.{Segment, games_of_segments, segments_of}
use Rattle.import_work.specs.Outcome.{counts_of}
use Rattle.import_work.specs.declared.source.Source.{Source}
use Rattle.import_work.specs.declared.source.Source.TheVariants as source
use Rattle.import_work.proofs.FileLemmas.{RoseBy-then, rose_by_none}
use Rattle.import_work.proofs.Losses.{losses_of-append}
use Rattle.session_core.specs.Lawful.{IsStatementText, Rules, State, waiting_text}
use Rattle.session_core.specs.SessionState.{SessionState}
use Rattle.serial_run.specs.Steps.{Kept, StopsInStatement, import_at, kept_report}
use Rattle.session_core.specs.Sources.{statement_of}
use Rattle.session_core.specs.ImportTexts.{import_line_text}
use Rattle.serial_run.proofs.RunLemmas.{next_prefix}
use Rattle.serial_run.proofs.StatementLemmas.{waiting_is}
use Rattle.session_core.proofs.StateLemmas.{same_begins}
use Rattle.session_core.proofs.WholeOutputs.{IsCompleted, begun-next, completed, prefix_behind, whole-output}
use Rattle.search_run.specs.Beside.{EndsWithFirst, GoesOnBeside, HasAnswered, HasAnsweredAll, HasRunTo, IsJobOf, StopsBeside}
use Rattle.search_run.specs.Run.{beside_rules}
use Rattle.search_run.specs.Stopped.{WritesPublishedPrefix}
use Rattle.search_run.specs.declared.importer.ImportJob.{ImportJob}
use Rattle.search_run.proofs.BesideLemmas.{goes-on-none, goes-on-then, prints-first}

-- the text of a statement that begins an import
opens-statement : (files : List File) (rules : Rules) (s : State) (line : ℕ) (from : Source) (text : List ℕ) → text ≡ waiting_text s ++ import_line_text line from → IsStatementText files rules s line (statement_of from) text
opens-statement files rules s line (source.Under path) text is = is
opens-statement files rules s line (source.Made games start) text is = is

-- a part of a text with which a lawful output begins is written
pub stops-with : (rules : Rules) (files : List File) (start : List BoxTally) (course : List ImportCourse) (placed : List Placed) (log published : List Segment) (before text part : List ℕ) (written : Option (List ℕ)) (first last : ℕ) → IsCompleted files rules start course placed log text → IsPrefix part text → IsPrefix published log → RoseBy (losses_of course) first last → written ≡ Some (before ++ part) →
    WritesPublishedPrefix rules files start placed before written first last published
stops-with rules files start course placed log published before text part written first last h prefix longer paid is = record {
  course = h.whole_course;
  text = h.whole;
  state = h.state;
  printed = h.printed;
  part = part;
  prefix = prefix_trans part text (h.whole ++ waiting_text h.state) prefix h.prefix;
  written_is = is;
  paid = rw h.losses paid;
  log = prefix_trans published log h.state.log longer h.grows;
}

-- nothing is written or published
pub stops-first : (rules : Rules) (files : List File) (start : List BoxTally) (placed : List Placed) (published : List Segment) (before : List ℕ) (written : Option (List ℕ)) (count : ℕ) → published ≡ [] → written ≡ Some before → WritesPublishedPrefix rules files start placed before written count count published
stops-first rules files start placed published before written count none is =
    stops-with rules files start [] placed [] published before [] [] written count count (whole-output files rules start placed) ([], refl) (same_begins published [] (sym none)) (rose_by_none count count (omega arith)) (is ∙ ap Some (sym (append-nil before)))

-- ---- a statement that stopped while no import was under way

module _ (rules : Rules) (files : List File) (start : List BoxTally) (session : SessionState) (done : List Placed) (kept : Kept) (log : List Segment) (before : List ℕ) (was written : Option (List ℕ)) (first second : ℕ) (h : HasRunTo rules files start done kept session log before was first second) where
  -- a prefix of what comes next is written
  next-stopped : (placed : List Placed) (more : List ℕ) → IsCompleted files rules start h.run.course placed h.run.state.log (h.run.text ++ more) → written ≡ Some ((before ++ h.run.text) ++ more) → WritesPublishedPrefix rules files start placed before written first second log
  next-stopped placed more whole is =
      stops-with rules files start h.run.course placed h.run.state.log log before (h.run.text ++ more) (h.run.text ++ more) written first second whole (prefix_same (h.run.text ++ more)) (same_begins log h.run.state.log h.log_is) h.run.paid (is ∙ ap Some (append_assoc before h.run.text more))

  pub still-stopped : (p : Placed) (left : List Placed) → StopsInStatement rules kept session p (before ++ h.run.text) written → WritesPublishedPrefix rules files start (done ++ p ∷ left) before written first second log
  still-stopped p left stop =
      next-stopped (done ++ p ∷ left) stop.more
      (begun-next files rules start (p ∷ left) h.run.course done h.run.state h.run.text stop.more h.run.printed (next_prefix rules files h.run.state kept session p left stop.more h.run.is_kept stop.prefix)) stop.written_is

  -- a prefix of an import's text
  pub import-stopped : (line : ℕ) (from : Source) (left : List Placed) (more : List ℕ) → IsPrefix more (kept_report kept ++ import_line_text line from) → written ≡ Some ((before ++ h.run.text) ++ more) → WritesPublishedPrefix rules files start (done ++ import_at line from ∷ left) before written first second log
  import-stopped line from left more prefix is =
      let own : List ℕ = waiting_text h.run.state ++ import_line_text line from in
      let prefix_own = subst (λ w. IsPrefix more (w ++ import_line_text line from)) (waiting_is h.run.state kept session h.run.is_kept) prefix in
      next-stopped (done ++ import_at line from ∷ left) more
      (begun-next files rules start (import_at line from ∷ left) h.run.course done h.run.state h.run.text more h.run.printed (inr (own, opens-statement files rules h.run.state line from own refl, prefix_own))) is

  -- a prefix of the closing report
  pub close-stopped : (more : List ℕ) → IsPrefix more (kept_report kept) → written ≡ Some ((before ++ h.run.text) ++ more) → WritesPublishedPrefix rules files start done before written first second log
  close-stopped more prefix is =
      let prefix_own = subst (IsPrefix more) (waiting_is h.run.state kept session h.run.is_kept) prefix in
      subst (λ ps. WritesPublishedPrefix rules files start ps before written first second log) (append-nil done)
      (next-stopped (done ++ []) more (begun-next files rules start [] h.run.course done h.run.state h.run.text more h.run.printed prefix_own) is)

pub still-stops : {T E : Type 0} (rules : Rules) (files : List File) (session : SessionState) (p : Placed) (rest : List Placed) (kept : Kept) (log : List Segment) (was written : Option (List ℕ)) (second : ℕ) (result : Result T E) → ((value : List ℕ) → was ≡ Some value → OnErr result ((rules : Rules) → StopsInStatement rules kept session p value written)) →
    OnErr result ((start : List BoxTally) (done : List Placed) (before : List ℕ) (first : ℕ) → HasRunTo rules files start done kept session log before was first second → WritesPublishedPrefix rules files start (done ++ p ∷ rest) before written first second log)
still-stops rules files session p rest kept log was written second (Ok r) stops = tt
still-stops rules files session p rest kept log was written second (Err e) stops = λ start done before first h.
    still-stopped rules files start session done kept log before was written first second h p rest (stops (before ++ h.run.text) h.run.written_is rules)

-- a statement for which memory was wanted before anything of it was written
pub nothing-written : (rules : Rules) (files : List File) (session : SessionState) (p : Placed) (rest : List Placed) (kept : Kept) (log : List Segment) (was : Option (List ℕ)) (second : ℕ) (start : List BoxTally) (done : List Placed) (before : List ℕ) (first : ℕ) → HasRunTo rules files start done kept session log before was first second → WritesPublishedPrefix rules files start (done ++ p ∷ rest) before was first second log
nothing-written rules files session p rest kept log was second start done before first h =
    still-stopped rules files start session done kept log before was was first second h p rest
    (record { more = []; prefix = inl refl; written_is = h.run.written_is ∙ ap Some (sym (append-nil (before ++ h.run.text))) })

-- ---- answers that stopped beside an import

-- nothing more is written
pub stops-none : (batch : ℕ) (WasSeen IsSeen : List Segment → Type 0) (floor : ℕ) (session : SessionState) (placed : List Placed) (before : List ℕ) (written : Option (List ℕ)) → ((log : List Segment) → IsSeen log → WasSeen log) → written ≡ Some before → StopsBeside batch WasSeen floor session placed IsSeen before written
stops-none batch WasSeen IsSeen floor session placed before written weaker is = record {
  first = [];
  left = placed;
  split = refl;
  text = [];
  floor_now = floor;
  session_now = session;
  goes_on = goes-on-none (beside_rules batch) WasSeen IsSeen floor session weaker;
  part = [];
  prefix = ([], refl);
  written_is = is ∙ ap Some (sym (append-nil before));
}

-- a part of one statement's text is written
pub stops-one : (batch : ℕ) (WasSeen IsSeen : List Segment → Type 0) (floor now : ℕ) (session told : SessionState) (p : Placed) (text part before : List ℕ) (written : Option (List ℕ)) → GoesOnBeside (beside_rules batch) WasSeen floor session (p ∷ []) text IsSeen now told → IsPrefix part text → written ≡ Some (before ++ part) → StopsBeside batch WasSeen floor session (p ∷ []) IsSeen before written
stops-one batch WasSeen IsSeen floor now session told p text part before written on prefix is = record {
  first = p ∷ [];
  left = [];
  split = refl;
  text = text;
  floor_now = now;
  session_now = told;
  goes_on = on;
  part = part;
  prefix = prefix;
  written_is = is;
}

-- statements were answered, and then the next one stopped
pub stops-more : (batch : ℕ) (WasSeen IsSeen SeenNow : List Segment → Type 0) (floor between : ℕ) (session told : SessionState) (done : List Placed) (p : Placed) (behind placed : List Placed) (before : List ℕ) (was written : Option (List ℕ)) (h : HasAnswered batch WasSeen floor session done IsSeen between told before was) → placed ≡ done ++ p ∷ behind → StopsBeside batch IsSeen between told (p ∷ []) SeenNow (before ++ h.text) written → StopsBeside batch WasSeen floor session placed SeenNow before written
stops-more batch WasSeen IsSeen SeenNow floor between session told done p behind placed before was written h all stop = record {
  first = done ++ stop.first;
  left = stop.left ++ behind;
  split = all ∙ ap (λ (ps : List Placed). done ++ (ps ++ behind)) stop.split ∙ ap (λ (ps : List Placed). done ++ ps) (append_assoc stop.first stop.left behind) ∙ sym (append_assoc done stop.first (stop.left ++ behind));
  text = h.text ++ stop.text;
  floor_now = stop.floor_now;
  session_now = stop.session_now;
  goes_on = goes-on-then (beside_rules batch) WasSeen IsSeen SeenNow floor between stop.floor_now session told stop.session_now done stop.first h.text stop.text h.goes_on stop.goes_on;
  part = h.text ++ stop.part;
  prefix = prefix_behind h.text stop.part stop.text stop.prefix;
  written_is = stop.written_is ∙ ap Some (append_assoc before h.text stop.part);
}

-- ---- a run that stopped when an import was joined

-- what one begins with, both begin with behind the same
begins_with : {A : Type 0} (same first all : List A) → IsPrefix first all → IsPrefix (same ++ first) (same ++ all)
begins_with same first all p = (p.0, append_assoc same first p.0 ∙ ap (λ ys. same ++ ys) p.1)

-- the statements that were answered beside an import, all of whose text is written
stops-answered : (batch : ℕ) (WasSeen IsSeen : List Segment → Type 0) (floor : ℕ) (session session_now : SessionState) (placed : List Placed) (count : ℕ) (before : List ℕ) (written : Option (List ℕ)) → HasAnsweredAll WasSeen floor session (take count placed) IsSeen session_now before written → StopsBeside batch WasSeen floor session placed IsSeen before written
stops-answered batch WasSeen IsSeen floor session session_now placed count before written all =
    let answers = all.answered batch in record {
      first = take count placed;
      left = drop count placed;
      split = sym (take-append-drop count placed);
      text = answers.text;
      floor_now = all.floor_now;
      session_now = session_now;
      goes_on = answers.goes_on;
      part = answers.text;
      prefix = prefix_same answers.text;
      written_is = answers.written_is;
    }

-- whether all of it is written or a part
pub stops-either : {E : Type 0} (result : Result ℕ E) (batch : ℕ) (WasSeen IsSeen : List Segment → Type 0) (floor : ℕ) (session session_now : SessionState) (placed : List Placed) (before : List ℕ) (written : Option (List ℕ)) → IfOk result (λ count. HasAnsweredAll WasSeen floor session (take count placed) IsSeen session_now before written) → OnErr result ((batch : ℕ) → StopsBeside batch WasSeen floor session placed IsSeen before written) → StopsBeside batch WasSeen floor session placed IsSeen before written
stops-either (Ok count) batch WasSeen IsSeen floor session session_now placed before written all stops = stops-answered batch WasSeen IsSeen floor session session_now placed count before written all
stops-either (Err e) batch WasSeen IsSeen floor session session_now placed before written all stops = stops batch

module _ (files : List File) (batch line : ℕ) (from : Source) (job : ImportJob) (kept : Kept) (log log_now : List Segment) (first second third : ℕ) (ordered : IsJobOf job batch line from kept) (ends : EndsWithFirst files job log log_now second third) where
  module _ (start : List BoxTally) (done rest : List Placed) (session : SessionState) (before : List ℕ) (was written : Option (List ℕ)) (WasSeen IsSeen : List Segment → Type 0) (floor : ℕ) (h : HasRunTo (beside_rules batch) files start done kept session log before was first second) where
    abbrev own : List ℕ
    own = kept_report kept ++ import_line_text line from

    -- the log behind the import
    abbrev behind : List Segment
    behind = h.run.state.log ++ segments_of batch ends.finds.finding

    published : IsPrefix log_now behind
    published =
        let first = subst (λ b. IsPrefix ends.segments (segments_of b ends.finds.finding)) ordered.batch_is ends.first in
        subst (λ (l : List Segment). IsPrefix l behind) (sym ends.grown)
        (subst (λ (l : List Segment). IsPrefix (l ++ ends.segments) behind) h.log_is
        (begins_with h.run.state.log ends.segments (segments_of batch ends.finds.finding) first))

    found : IsImported files from (counts_of (trees_in (games_of_segments h.run.state.log))) ends.finds.entry ends.finds.finding
    found = subst (λ (l : List Segment). IsImported files from (counts_of (trees_in (games_of_segments l))) ends.finds.entry ends.finds.finding) (sym h.log_is)
        (subst (λ p. IsImported files p (counts_of (trees_in (games_of_segments log))) ends.finds.entry ends.finds.finding) ordered.source_is ends.finds.imported)

    -- the statements of the script, with those that were answered set apart
    all_placed : (answered left : List Placed) → rest ≡ answered ++ left → ((done ++ import_at line from ∷ []) ++ answered) ++ left ≡ done ++ import_at line from ∷ rest
    all_placed answered left split =
        append_assoc (done ++ import_at line from ∷ []) answered left
        ∙ ap (λ (ps : List Placed). (done ++ import_at line from ∷ []) ++ ps) (sym split)
        ∙ append_assoc done (import_at line from ∷ []) rest

    pub joined-stopped : floor ≡ length log → StopsBeside batch WasSeen floor session rest IsSeen ((before ++ h.run.text) ++ own) written → ((whole : List Segment) → IsPrefix log_now whole → IsSeen whole) →
        WritesPublishedPrefix (beside_rules batch) files start (done ++ import_at line from ∷ rest) before written first third log_now
    joined-stopped floor_is stop seen =
        let run = h.run in
        let entry = ends.finds.entry in
        let own_is : own ≡ waiting_text run.state ++ import_line_text line from = ap (λ t. t ++ import_line_text line from) (waiting_is run.state kept session run.is_kept) in
        let started = prints-first files (beside_rules batch) start run.course done run.state run.text run.printed run.is_kept.floor floor (omega (arith, floor_is, ap length h.log_is)) line from WasSeen session run.is_kept.session_is own own_is in
        let r = stop.goes_on files start run.state line from run.course (done ++ import_at line from ∷ []) (run.text ++ own) started entry ends.finds.finding found (seen behind published) in
        let whole = completed files (beside_rules batch) start stop.left (run.course ++ entry ∷ []) ((done ++ import_at line from ∷ []) ++ stop.first) r.state ((run.text ++ own) ++ stop.text) r.printed in
        stops-with (beside_rules batch) files start (run.course ++ entry ∷ []) (done ++ import_at line from ∷ rest) r.state.log log_now before ((run.text ++ own) ++ stop.text) ((run.text ++ own) ++ stop.part) written first third
        (subst (λ ps. IsCompleted files (beside_rules batch) start (run.course ++ entry ∷ []) ps r.state.log ((run.text ++ own) ++ stop.text)) (all_placed stop.first stop.left stop.split) whole)
        (prefix_behind (run.text ++ own) stop.part stop.text stop.prefix) (subst (IsPrefix log_now) (sym r.log_is) published)
        (rw losses_of-append (RoseBy-then (losses_of run.course) (losses_of (entry ∷ [])) first second third run.paid ends.finds.paid))
        (stop.written_is ∙ ap Some (ap (λ t. t ++ stop.part) (append_assoc before run.text own) ∙ append_assoc before (run.text ++ own) stop.part))

-- ---- a run, statement by statement

-- the elements up to one, it, and those behind it
pub taken_apart : {A : Type 0} (xs : List A) (i : ℕ) (x : A) → i < length xs → x ≡ get_or xs i x → take i xs ++ x ∷ take (length xs - (i + 1)) (drop (i + 1) xs) ≡ xs
taken_apart {A} xs i x below is =
    let rest : take (length xs - (i + 1)) (drop (i + 1) xs) ≡ drop (i + 1) xs = take_all (length xs - (i + 1)) (drop (i + 1) xs) (omega (arith, length-drop (i + 1) xs)) in
    let next : i + 1 ≡ suc i = omega arith in
    ap (λ (ys : List A). take i xs ++ x ∷ ys) (rest ∙ ap (λ k. drop k xs) next) ∙ sym (split_at xs i x below ∙ ap (λ (y : A). take i xs ++ y ∷ drop (suc i) xs) (sym is))

-- all statements were run, and a prefix of the closing report is written; or the run stopped before
pub closed-stopped : {T E X : Type 0} (outcome : Result (Kept × ℕ) E) (result : Result T X) (rules : Rules) (files : List File) (start : List BoxTally) (session : SessionState) (placed : List Placed) (log : List Segment) (before : List ℕ) (was written : Option (List ℕ)) (first second : ℕ) → IfOk outcome (λ r. HasRunTo rules files start placed r.0 session log before was first second) → OnErr outcome (WritesPublishedPrefix rules files start placed before was first second log) →
    ((value : List ℕ) → was ≡ Some value → OnErr result (MatchResult outcome (λ r. (more : List ℕ) × IsPrefix more (kept_report r.0) × (written ≡ Some (value ++ more))) (λ e. written ≡ was))) → OnErr result (WritesPublishedPrefix rules files start placed before written first second log)
closed-stopped outcome (Ok x) rules files start session placed log before was written first second ran stopped part = tt
closed-stopped (Ok r) (Err x) rules files start session placed log before was written first second h stopped part =
    let (more, prefix, is) = part (before ++ h.run.text) h.run.written_is in
    close-stopped rules files start session placed r.0 log before was written first second h more prefix is
closed-stopped (Err e) (Err x) rules files start session placed log before was written first second h stop part =
    subst (λ w. WritesPublishedPrefix rules files start placed before w first second log) (sym (part (before ++ stop.part) stop.written_is)) stop
