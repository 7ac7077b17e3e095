-- The texts of all statements of a script are gone over, as far as they stand in the record.
use Rattle.std.proofs.Common.{◌≡◌, ◌∙◌, inl, inr, ℕ, ◌+◌, ◌-◌, ◌<◌, ◌≤◌, List, [], ◌∷◌, ◌++◌, Some, None, drop, get_or, length, length-append, take, refl, sym, ap, subst, append-nil, append_assoc, arith}
use Rattle.std.proofs.Math.Seq.{drop-append_seam, take-append_seam}
use Rattle.std.proofs.lemmas.List.{at_drop_more, nil_from_length, take-append-drop, take_all, take_more}
use Rattle.std.proofs.lemmas.List.Elements.{All-nil}
use Rattle.std.proofs.lemmas.Option.{slice_get_cases, slice_get_past}
use Rattle.kb_edges.specs.Files.{File}
use Rattle.hit_collectors.specs.Tallies.{BoxTally}
use Rattle.version_publisher.specs.Contents.{items_in}
use Rattle.query_script.specs.declared.statement.Placed.{Placed}
use Rattle.import_work.specs.Course.{ImportCourse}
use Rattle.session_core.specs.Lawful.{Rules, State, at_start, waiting_text}
use Rattle.session_core.specs.SessionState.{SessionState, new_session}
use Rattle.session_core.specs.Watches.{IsWatchOf}
use Rattle.run_audit.specs.Guided.{HasGuided, IsGuided, IsGuidedPass}
use Rattle.run_audit.specs.Standing.{DepartsGuided, DepartsIn, FitsFloor, FitsTogether, IsKeptOf, Kept, PassesGuided, kept_report, nothing_kept}
use Rattle.run_audit.specs.Verdict.{AgreesWhole, DepartsAt, PartAt}
use Rattle.run_audit.proofs.Departures.{departs-behind, departs-longer}
use Rattle.run_audit.proofs.FewVersions.{AreFew}
use Rattle.run_audit.proofs.GuidedFound.{guided-completed, pass-found}
use Rattle.run_audit.proofs.ImportStates.{kept-report}
use Rattle.run_audit.proofs.KeptStates.{kept-few, kept-reached}

-- These statements were passed: the guided output has this text, which stands in the record, this is left
-- behind it, and this is kept of the state.
pub record WholeTo (files : List File) (rules : Rules) (boxes : List BoxTally) (recorded : List ℕ) (done : List Placed) (left : List ℕ) (kept : Kept) (session : SessionState) : Type 0 where
  pub course : List ImportCourse
  pub state : State
  pub out : List ℕ
  pub printed : HasGuided files rules boxes recorded course done state out
  pub stands : recorded ≡ out ++ left
  pub of : IsKeptOf state kept session

module _ (files : List File) (rules : Rules) (boxes : List BoxTally) (recorded : List ℕ) where
  pub whole-start : (kept : Kept) (session : SessionState) → kept ≡ nothing_kept → session ≡ new_session boxes → WholeTo files rules boxes recorded [] recorded kept session
  whole-start kept session none same = record {
    course = [];
    state = at_start boxes;
    out = [];
    printed = HasGuided.nothing;
    stands = refl;
    of = subst (λ (k : Kept). IsKeptOf (at_start boxes) k session) (sym none) (record {
      floor = refl;
      games = refl;
      ahead = refl;
      within = omega arith;
      waiting = refl;
      session_is = sym same;
      trees = λ k d below. absurd (omega arith);
    });
  }

  -- the watched searches fit, since there are none
  pub start-fits : (kept : Kept) (session : SessionState) → session ≡ new_session boxes → FitsFloor kept session
  start-fits kept session same = subst (λ (s : SessionState). FitsFloor kept s) (sym same) (All-nil (IsWatchOf (items_in kept.held.parts)))

  module _ (done : List Placed) (left : List ℕ) (kept : Kept) (session : SessionState) (so_far : WholeTo files rules boxes recorded done left kept session) where
    left_is : drop (length so_far.out) recorded ≡ left
    left_is = ap (drop (length so_far.out)) so_far.stands ∙ drop-append_seam so_far.out left

    more : (p : Placed) (used : List ImportCourse) (text : List ℕ) (next : State) → IsGuidedPass files rules recorded so_far.state left p.line p.statement used text next → HasGuided files rules boxes recorded (so_far.course ++ used) (done ++ p ∷ []) next (so_far.out ++ text)
    more p used text next pass = HasGuided.one_more used p next text so_far.printed (subst (λ (l : List ℕ). IsGuidedPass files rules recorded so_far.state l p.line p.statement used text next) (sym left_is) pass)

    -- one more is passed
    pub whole-more : (p : Placed) (rest : List ℕ) (after : Kept) (leaves : SessionState) → PassesGuided files rules recorded left p kept session rest after leaves → WholeTo files rules boxes recorded (done ++ p ∷ []) rest after leaves
    whole-more p rest after leaves passes = with_pass (passes so_far.state so_far.of)
      where
        with_pass : (used : List ImportCourse) × (text : List ℕ) × (next : State) × (left ≡ text ++ rest) × IsGuidedPass files rules recorded so_far.state left p.line p.statement used text next × IsKeptOf next after leaves → WholeTo files rules boxes recorded (done ++ p ∷ []) rest after leaves
        with_pass (used, text, next, stands, pass, of) = record {
          course = so_far.course ++ used;
          state = next;
          out = so_far.out ++ text;
          printed = more p used text next pass;
          stands = so_far.stands ∙ ap (λ (l : List ℕ). so_far.out ++ l) stands ∙ sym (append_assoc so_far.out text rest);
          of = of;
        }

    -- the record departs in the text of the next one
    pub whole-departs : (p : Placed) (others : List Placed) (count : ℕ) → AreFew rules (done ++ p ∷ others) → FitsTogether kept → DepartsGuided files rules recorded left p kept session count → (count ≤ length recorded) × DepartsAt files rules boxes (done ++ p ∷ others) recorded (length recorded - count)
    whole-departs p others count few fits departs = with_pass (pass-found files rules recorded so_far.state (kept-reached so_far.state kept session so_far.of) (kept-few so_far.state kept session so_far.of fits) left p.line p.statement)
      where
        with_pass : (used : List ImportCourse) × (text : List ℕ) × (next : State) × IsGuidedPass files rules recorded so_far.state left p.line p.statement used text next → (count ≤ length recorded) × DepartsAt files rules boxes (done ++ p ∷ others) recorded (length recorded - count)
        with_pass (used, text, next, pass) =
            let regroup = append_assoc done (p ∷ []) others in
            let goes_on = guided-completed files rules boxes recorded others (so_far.course ++ used) (done ++ p ∷ []) next (so_far.out ++ text) (subst (AreFew rules) (sym regroup) few) (more p used text next pass) in
            let here = departs-behind recorded so_far.out left text count so_far.stands (departs so_far.state so_far.of used text next pass) in
            let whole = subst (λ (l : List ℕ). DepartsIn recorded l count) goes_on.prefix.1 (departs-longer recorded (so_far.out ++ text) goes_on.prefix.0 count here) in
            (whole.within, (goes_on.guided, subst (λ (ps : List Placed). IsGuided files rules boxes ps recorded goes_on.guided) regroup goes_on.is_guided, whole.part))

    -- ---- at the end

    abbrev guided_text : List ℕ
    guided_text = so_far.out ++ waiting_text so_far.state

    guided : IsGuided files rules boxes done recorded guided_text
    guided = (so_far.course, (so_far.state, so_far.out, so_far.printed, refl))

    report_is : kept_report kept ≡ waiting_text so_far.state
    report_is = kept-report so_far.state kept session so_far.of

    -- the closing report isn't there
    pub report-departs : (count : ℕ) → DepartsIn left (kept_report kept) count → (count ≤ length recorded) × DepartsAt files rules boxes done recorded (length recorded - count)
    report-departs count departs =
        let whole = departs-behind recorded so_far.out left (waiting_text so_far.state) count so_far.stands (subst (λ (l : List ℕ). DepartsIn left l count) report_is departs) in
        (whole.within, (guided_text, guided, whole.part))

    module _ (rest : List ℕ) (is : left ≡ kept_report kept ++ rest) where
      whole_is : recorded ≡ guided_text ++ rest
      whole_is = so_far.stands ∙ ap (λ (l : List ℕ). so_far.out ++ l) (is ∙ ap (λ (r : List ℕ). r ++ rest) report_is) ∙ sym (append_assoc so_far.out (waiting_text so_far.state) rest)

      -- the record ends there
      pub whole-end : length rest ≡ 0 → AgreesWhole files rules boxes done recorded
      whole-end none =
          let ends : guided_text ≡ recorded = sym (append-nil guided_text) ∙ ap (λ (l : List ℕ). guided_text ++ l) (sym (nil_from_length rest none)) ∙ sym whole_is in
          subst (IsGuided files rules boxes done recorded) ends guided

      -- the record goes on
      pub whole-past : 0 < length rest → (length rest ≤ length recorded) × DepartsAt files rules boxes done recorded (length recorded - length rest)
      whole-past some =
          let counted : length recorded ≡ length guided_text + length rest = ap length whole_is ∙ length-append guided_text rest in
          let place : length recorded - length rest ≡ length guided_text = omega (arith, counted) in (
            omega (arith, counted),
            (
              guided_text,
              guided,
              subst (PartAt recorded guided_text) (sym place) (record {
                same = ap (take (length guided_text)) whole_is ∙ take-append_seam guided_text rest ∙ sym (take_all (length guided_text) guided_text (omega arith));
                apart = λ e. elim (slice_get_cases recorded (length guided_text)).1 [
                  | inl (x, there, found, at) ↦ let both : Some x ≡ None = sym found ∙ e ∙ slice_get_past guided_text (length guided_text) (omega arith) in absurd cc
                  | inr (past, none) ↦ absurd (omega (arith, past, counted, some))
                ];
              }),
            ),
          )

-- ---- one statement of a list after another

module _ (files : List File) (rules : Rules) (boxes : List BoxTally) (recorded : List ℕ) (placed : List Placed) (i : ℕ) (left : List ℕ) (kept : Kept) (session : SessionState) (so_far : WholeTo files rules boxes recorded (take i placed) left kept session) where
  module _ (p : Placed) (below : i < length placed) (is : p ≡ get_or placed i p) where
    taken_more : take (i + 1) placed ≡ take i placed ++ p ∷ []
    taken_more = take_more placed i p below ∙ ap (λ (q : Placed). take i placed ++ q ∷ []) (sym is)

    parted : take i placed ++ p ∷ drop (i + 1) placed ≡ placed
    parted =
        ap (λ (l : List Placed). take i placed ++ l) (ap (λ (q : Placed). q ∷ drop (i + 1) placed) is ∙ sym (at_drop_more (λ (l : List Placed). l) placed i p below))
        ∙ take-append-drop i placed

    pub turn-passes : (rest : List ℕ) (after : Kept) (leaves : SessionState) → PassesGuided files rules recorded left p kept session rest after leaves → WholeTo files rules boxes recorded (take (i + 1) placed) rest after leaves
    turn-passes rest after leaves passes =
        subst (λ (ps : List Placed). WholeTo files rules boxes recorded ps rest after leaves) (sym taken_more)
        (whole-more files rules boxes recorded (take i placed) left kept session so_far p rest after leaves passes)

    pub turn-departs : (count : ℕ) → AreFew rules placed → FitsTogether kept → DepartsGuided files rules recorded left p kept session count → (count ≤ length recorded) × DepartsAt files rules boxes placed recorded (length recorded - count)
    turn-departs count few fits departs =
        subst (λ (ps : List Placed). (count ≤ length recorded) × DepartsAt files rules boxes ps recorded (length recorded - count)) parted
        (whole-departs files rules boxes recorded (take i placed) left kept session so_far p (drop (i + 1) placed) count (subst (AreFew rules) (sym parted) few) fits departs)

  -- behind the last one
  pub turns-over : length placed ≤ i → WholeTo files rules boxes recorded placed left kept session
  turns-over past = subst (λ (ps : List Placed). WholeTo files rules boxes recorded ps left kept session) (take_all i placed past) so_far
