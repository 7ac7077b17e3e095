-- A statement whose text is one over a version is passed, or the record departs in it, from each state of
-- which one is kept.
use Rattle.std.proofs.Common.{◌≡◌, ◌∙◌, ℕ, Bool, true, false, ◌≤◌, List, [], ◌++◌, All, Some, drop, length, refl, sym, ap, subst, arith}
use Rattle.std.specs.Prelude.{IfSome}
use Rattle.std.proofs.Math.Seq.{drop-append_seam}
use Rattle.kb_edges.specs.Files.{File}
use Rattle.game_tree.specs.Tree.{IsTree}
use Rattle.node_position.specs.Games.{Game}
use Rattle.version_publisher.specs.Contents.{items_in}
use Rattle.query_script.specs.declared.statement.Placed.{Placed}
use Rattle.query_script.specs.declared.statement.Statement.{Statement}
use Rattle.query_script.specs.declared.statement.Statement.TheVariants as statement
use Rattle.import_work.specs.Course.{ImportCourse}
use Rattle.session_core.specs.Answers.{View}
use Rattle.session_core.specs.Lawful.{Rules, State, view_at, with_floor, with_session}
use Rattle.session_core.specs.SessionState.{SessionState}
use Rattle.session_core.specs.Stores.{view_of}
use Rattle.session_core.proofs.WholeOutputs.{trees-at}
use Rattle.run_audit.specs.Asked.{HasNoNumber, HasNumber, least_asked}
use Rattle.run_audit.specs.Chosen.{IsChosen, StandsAt}
use Rattle.run_audit.specs.Guided.{IsGuidedPass, MayName, NamesBehind, asked_by, left_at_number, version_head}
use Rattle.run_audit.specs.Standing.{DepartsGuided, DepartsIn, DepartsInNumber, FitsTogether, IsKeptOf, IsRaised, IsWithin, Kept, PassesGuided, kept_last, least_awaited, least_named}
use Rattle.run_audit.specs.Texts.{IsOver, IsTextOver}
use Rattle.run_audit.proofs.ChosenNumbers.{chosen-one}
use Rattle.run_audit.proofs.KeptStates.{chosen-may, kept-few, kept-reached, raised-kept, raised-view, within-may}
use Rattle.run_audit.proofs.StatementSteps.{OverPass, head-departs, may-named, none-pass, number-departs, over-names, over-pass, pass-none, pass-over, pass-takes, takes-read}

some_same : (a b : List ℕ) → Some a ≡ Some b → a ≡ b
some_same a b e = cc

pub named-floor : (b : Bool) (kept : Kept) → kept.held.number ≤ least_named b kept
named-floor true kept = omega arith
named-floor false kept = omega arith

-- the least number that may be named is at least the floor
pub least-floor : (serial : Bool) (kept : Kept) (own : Statement) → kept.held.number ≤ least_asked serial kept own
least-floor serial kept (statement.Until awaited) = floor_of serial
  where
    floor_of : (b : Bool) → kept.held.number ≤ least_awaited b kept awaited
    floor_of true = omega arith
    floor_of false = omega arith
least-floor serial kept (statement.Import path) = named-floor serial kept
least-floor serial kept (statement.Make games start) = named-floor serial kept
least-floor serial kept statement.Wait = named-floor serial kept
least-floor serial kept (statement.Together searches) = named-floor serial kept
least-floor serial kept (statement.Search query filter) = named-floor serial kept
least-floor serial kept (statement.Kept query) = named-floor serial kept
least-floor serial kept (statement.Signature pattern) = named-floor serial kept
least-floor serial kept statement.Players = named-floor serial kept
least-floor serial kept statement.Doubles = named-floor serial kept
least-floor serial kept (statement.Game number) = named-floor serial kept
least-floor serial kept (statement.Opening shape depth least) = named-floor serial kept
least-floor serial kept statement.Report = named-floor serial kept
least-floor serial kept (statement.Retire name) = named-floor serial kept
least-floor serial kept (statement.Watch name query filter) = named-floor serial kept
least-floor serial kept (statement.Watched name) = named-floor serial kept

module _ (files : List File) (recorded : List ℕ) (rules : Rules) (left : List ℕ) (p : Placed) (kept : Kept) (session : SessionState) (over : IsOver p.statement) where
  -- ---- it names no version

  pub none-passes : HasNoNumber session p.statement → (view : View) (text rest : List ℕ) (leaves : SessionState) → left ≡ text ++ rest → IsTextOver p.line view session p.statement text leaves → PassesGuided files rules recorded left p kept session rest kept leaves
  none-passes none view text rest leaves stands of s is =
      let own = subst (λ (t : SessionState). HasNoNumber t p.statement) (sym is.session_is) none in
      let there = subst (λ (t : SessionState). IsTextOver p.line view t p.statement text leaves) (sym is.session_is) of in (
        [],
        text,
        with_session s leaves,
        stands,
        pass-none files rules recorded s left p.line p.statement view text leaves over own there,
        record { floor = is.floor; games = is.games; ahead = is.ahead; within = is.within; waiting = is.waiting; session_is = refl; trees = is.trees },
      )

  pub none-departs : HasNoNumber session p.statement → (view : View) (count : ℕ) → (All (λ (g : Game). IsTree g.tree) view.games → (text : List ℕ) (after : SessionState) → IsTextOver p.line view session p.statement text after → DepartsIn left text count)
      → view.games ≡ items_in kept.held.parts → DepartsGuided files rules recorded left p kept session count
  none-departs none view count departs games s is used text next pass =
      let own = subst (λ (t : SessionState). HasNoNumber t p.statement) (sym is.session_is) none in
      let (after, there) = none-pass files rules recorded s left p.line p.statement view used text next over own pass in
      departs (subst (All (λ (g : Game). IsTree g.tree)) (sym (games ∙ is.games)) (trees-at s (kept-reached s kept session is) s.floor)) text after
      (subst (λ (t : SessionState). IsTextOver p.line view t p.statement text after) is.session_is there)

  -- ---- it names one

  module _ (has : HasNumber session p.statement) (fits : FitsTogether kept) where
    abbrev least : ℕ
    least = least_asked rules.serial kept p.statement

    module _ (asked : List ℕ) (is_asked : asked_by p.statement ≡ Some asked) where
      -- what stands before the number isn't there
      pub head-departs-guided : (count : ℕ) → DepartsIn left (version_head p.line asked) count → DepartsGuided files rules recorded left p kept session count
      head-departs-guided count departs s is used text next pass =
          let own = subst (λ (t : SessionState). HasNumber t p.statement) (sym is.session_is) has in
          let there = over-pass files rules recorded s left p.line p.statement used text next over own pass in
          head-departs p.line asked left text there.number count (over-names p.line (view_at s there.number) s.session p.statement asked text there.after over own is_asked there.over) departs

      module _ (behind : List ℕ) (stands : left ≡ version_head p.line asked ++ behind) where
        number_left : left_at_number p.line asked left ≡ behind
        number_left = ap (drop (length (version_head p.line asked))) stands ∙ drop-append_seam (version_head p.line asked) behind

        -- the number that a pass names is the one that was taken
        same_number : (s : State) → (is : IsKeptOf s kept session) → (n : ℕ) → IsChosen (IsWithin least (kept_last kept)) behind n → (used : List ImportCourse) (text : List ℕ) (next : State) → (pass : IsGuidedPass files rules recorded s left p.line p.statement used text next) →
            (there : OverPass rules s p.line p.statement text) → HasNumber s.session p.statement → n ≡ there.number
        same_number s is n chosen used text next pass there own =
            let names = over-names p.line (view_at s there.number) s.session p.statement asked text there.after over own is_asked there.over in
            let takes = subst (λ o. IfSome o (λ a. (number : ℕ) → MayName rules s p.statement number → NamesBehind p.line a text number → IsChosen (MayName rules s p.statement) (left_at_number p.line a left) number)) is_asked (pass-takes files rules recorded s left p.line p.statement used text next over pass) there.number there.may names in
            chosen-one (MayName rules s p.statement)
            (λ k may. let to = (may-named rules s p.statement k may).to in omega (arith, to, kept-few s kept session is fits))
            behind n there.number (chosen-may s kept session is rules p.statement behind n chosen) (subst (λ l. IsChosen (MayName rules s p.statement) l there.number) number_left takes)

        -- the number isn't there
        pub number-departs-guided : (n count : ℕ) → IsChosen (IsWithin least (kept_last kept)) behind n → DepartsInNumber behind n count → DepartsGuided files rules recorded left p kept session count
        number-departs-guided n count chosen departs s is used text next pass =
            let own = subst (λ (t : SessionState). HasNumber t p.statement) (sym is.session_is) has in
            let there = over-pass files rules recorded s left p.line p.statement used text next over own pass in
            let same = same_number s is n chosen used text next pass there own in
            number-departs p.line asked left behind text there.number count stands (over-names p.line (view_at s there.number) s.session p.statement asked text there.after over own is_asked there.over)
            (subst (λ (k : ℕ). DepartsInNumber behind k count) same departs)

        module _ (n : ℕ) (within : IsWithin least (kept_last kept) n) (there_stands : StandsAt behind n) (after : Kept) (raised : IsRaised kept n after) where
          from : kept.held.number ≤ n
          from = let low = within.from in omega (arith, low, least-floor rules.serial kept p.statement)

          -- its text isn't there
          pub text-departs-guided : (count : ℕ) → (All (λ (g : Game). IsTree g.tree) (view_of after.held).games → (text : List ℕ) (leaves : SessionState) → IsTextOver p.line (view_of after.held) session p.statement text leaves → DepartsIn left text count)
              → DepartsGuided files rules recorded left p kept session count
          text-departs-guided count departs s is used text next pass =
              let own = subst (λ (t : SessionState). HasNumber t p.statement) (sym is.session_is) has in
              let there = over-pass files rules recorded s left p.line p.statement used text next over own pass in
              let same = same_number s is n (IsChosen.read within there_stands) used text next pass there own in
              let view = raised-view s kept session is n after from within.to raised in
              departs (subst (All (λ (g : Game). IsTree g.tree)) (sym (ap (λ (v : View). v.games) view)) (trees-at s (kept-reached s kept session is) n)) text there.after
              (subst (λ (t : SessionState). IsTextOver p.line (view_of after.held) t p.statement text there.after) is.session_is
              (subst (λ (v : View). IsTextOver p.line v s.session p.statement text there.after) (ap (view_at s) (sym same) ∙ sym view) there.over))

          -- it is
          pub over-passes : (text rest : List ℕ) (leaves : SessionState) → left ≡ text ++ rest → IsTextOver p.line (view_of after.held) session p.statement text leaves → PassesGuided files rules recorded left p kept session rest after leaves
          over-passes text rest leaves next of s is =
              let own = subst (λ (t : SessionState). HasNumber t p.statement) (sym is.session_is) has in
              let view = raised-view s kept session is n after from within.to raised in
              let there = subst (λ (t : SessionState). IsTextOver p.line (view_at s n) t p.statement text leaves) (sym is.session_is) (subst (λ (v : View). IsTextOver p.line v session p.statement text leaves) view of) in
              let may = within-may s kept session is rules p.statement n within in
              let takes = takes-read files rules recorded s left p.line p.statement text rest behind n (kept-few s kept session is fits)
              (λ a is_a. stands ∙ ap (λ (w : List ℕ). version_head p.line w ++ behind) (some_same asked a (sym is_asked ∙ is_a))) next may there_stands in (
                [],
                text,
                with_session (with_floor s n) leaves,
                next,
                pass-over files rules recorded s left p.line p.statement text n leaves over own may there takes,
                raised-kept s kept session is n after from within.to raised leaves,
              )
