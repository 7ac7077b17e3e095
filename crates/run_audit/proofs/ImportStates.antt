-- What is kept of a state of the run when a report was printed, and when an import was made.
use Rattle.std.proofs.Common.{◌≡◌, ◌∙◌, ℕ, ◌≤◌, List, [], ◌∷◌, ◌++◌, All, Option, Some, None, drop, length, length-append, max, take, refl, sym, ap, ap₂, subst, arith}
use Rattle.std.specs.Option.{option_map_or}
use Rattle.std.proofs.lemmas.Grind.{flat_map-append}
use Rattle.std.proofs.lemmas.List.{drop-append-le, take-append-drop, take-append-le}
use Rattle.std.proofs.lemmas.List.Elements.{All-append}
use Rattle.kb_edges.specs.Files.{File}
use Rattle.game_tree.specs.Tree.{IsTree}
use Rattle.node_position.specs.Games.{Game}
use Rattle.version_publisher.specs.Contents.{items_in}
use Rattle.version_publisher.specs.declared.state.VersionState.{VersionState}
use Rattle.query_script.specs.Texts.{wait_text}
use Rattle.query_script.specs.declared.statement.Placed.{Placed}
use Rattle.query_script.specs.declared.statement.Statement.{Statement}
use Rattle.query_script.specs.declared.statement.Statement.TheVariants as statement
use Rattle.import_work.specs.Course.{FindsBy, Finding, ImportCourse, trees_in}
use Rattle.import_work.specs.Log.{Segment, games_of_segments, segments_of}
use Rattle.import_work.specs.Outcome.{counts_of}
use Rattle.import_work.specs.declared.outcome.Counts.{Counts}
use Rattle.import_work.specs.declared.source.Source.{Source}
use Rattle.import_work.specs.declared.source.Source.TheVariants as source
use Rattle.import_work.proofs.ImportsExist.{imported-trees}
use Rattle.import_segments.proofs.PushedSegments.{items_in-games_of_segments}
use Rattle.session_core.specs.ImportTexts.{import_line_text, report_text}
use Rattle.session_core.specs.Lawful.{Rules, State, after_import, last_of, report_printed, waiting_text, with_floor}
use Rattle.session_core.specs.SessionState.{SessionState}
use Rattle.session_core.specs.Sources.{statement_of}
use Rattle.run_audit.specs.Guided.{IsGuidedPass}
use Rattle.run_audit.specs.Importing.{ImportsAt}
use Rattle.run_audit.specs.Shown.{is_shown_unlisted, is_shown_unread}
use Rattle.run_audit.specs.Standing.{DepartsGuided, DepartsIn, FitsTogether, IsJoined, IsKeptOf, IsRaised, Kept, PassesGuided, kept_games, kept_last, kept_of, kept_report}
use Rattle.run_audit.proofs.BaseSteps.{items-append}
use Rattle.run_audit.proofs.KeptStates.{kept-last, raised-kept}

-- a state by its parts
abbrev state_of : List Segment → ℕ → Option (List ℕ) → SessionState → State
state_of log floor waiting session = record { log = log; floor = floor; waiting = waiting; session = session }

-- ---- a report is printed

module _ (s : State) (kept : Kept) (session : SessionState) (of : IsKeptOf s kept session) where
  -- the report that waits
  pub kept-report : kept_report kept ≡ waiting_text s
  kept-report = ap (λ (w : Option (List ℕ)). option_map_or (λ (report : List ℕ). report) w []) of.waiting

  -- all games
  pub kept-games : kept_games kept ≡ games_of_segments s.log
  kept-games =
      ap₂ (λ (games : List Game) (more : List Segment). games ++ items_in more) (of.games ∙ sym (items_in-games_of_segments (take s.floor s.log))) of.ahead
      ∙ sym (items-append (take s.floor s.log) (drop s.floor s.log))
      ∙ ap items_in (take-append-drop s.floor s.log)
      ∙ items_in-games_of_segments s.log

  -- no report waits
  unwaited : IsKeptOf (record s { waiting = None }) (record kept { waiting = None }) session
  unwaited = record { floor = of.floor; games = of.games; ahead = of.ahead; within = of.within; waiting = refl; session_is = of.session_is; trees = of.trees }

  -- all that the last version has was seen
  pub seen-kept : (after : Kept) → IsRaised (record kept { waiting = None }) (kept_last kept) after → IsKeptOf (state_of s.log (last_of s) None s.session) after session
  seen-kept after raised =
      let last = kept-last s kept session of in
      let low : kept.held.number ≤ kept_last kept = omega arith in
      let whole : kept_last kept ≤ kept_last kept = omega arith in
      let there = raised-kept (record s { waiting = None }) (record kept { waiting = None }) session unwaited (kept_last kept) after low whole raised session in
      let floor : max s.floor (kept_last kept) ≡ last_of s = omega (arith, last, of.within) in
      subst (λ (t : State). IsKeptOf t after session) (λ i. state_of s.log (floor i) None (sym of.session_is i)) there

  -- a wait was passed
  pub waited-kept : (after : Kept) → IsRaised (record kept { waiting = None }) (kept_last kept) after → IsKeptOf (with_floor (report_printed s) (last_of s)) after session
  waited-kept after raised =
      subst (λ (t : State). IsKeptOf t after session) (λ i. state_of s.log (floor i) None s.session) (seen-kept after raised)
    where
      low : (w : Option (List ℕ)) → option_map_or (λ (report : List ℕ). last_of s) w s.floor ≤ last_of s
      low None = of.within
      low (Some report) = omega arith

      floor : last_of s ≡ max (option_map_or (λ (report : List ℕ). last_of s) s.waiting s.floor) (last_of s)
      floor = omega (arith, low s.waiting)

-- the report that waits was printed, if one waits
joined_kept : (s : State) (held : VersionState Game) (ahead : List Segment) (counts : Counts) (waiting : Option (List ℕ)) (session : SessionState) (after : Kept) → IsKeptOf s (kept_of held ahead counts waiting) session → IsJoined (kept_of held ahead counts waiting) after → IsKeptOf (report_printed s) after session
joined_kept s held ahead counts None session after of same =
    let is : None ≡ s.waiting = of.waiting in
    subst (λ (k : Kept). IsKeptOf (report_printed s) k session) (sym same)
    (subst (λ (t : State). IsKeptOf t (kept_of held ahead counts None) session) (λ i. state_of s.log (option_map_or (λ (report : List ℕ). last_of s) (is i) s.floor) (sym is i) s.session) of)
joined_kept s held ahead counts (Some report) session after of raised =
    let is : Some report ≡ s.waiting = of.waiting in
    subst (λ (t : State). IsKeptOf t after session) (λ i. state_of s.log (option_map_or (λ (report : List ℕ). last_of s) (is i) s.floor) None s.session)
    (seen-kept s (kept_of held ahead counts (Some report)) session of after raised)

pub joined-kept : (s : State) (kept : Kept) (session : SessionState) → IsKeptOf s kept session → (after : Kept) → IsJoined kept after → IsKeptOf (report_printed s) after session
joined-kept s kept session of after joined = joined_kept s kept.held kept.ahead kept.counts kept.waiting session after of joined

-- ---- an import was made

module _ (files : List File) (rules : Rules) (recorded : List ℕ) (s : State) (before : Kept) (session : SessionState) (of : IsKeptOf s before session) (fits : FitsTogether before) (line : ℕ) (from : Source) (joined after : Kept) (is : IsJoined before joined) (imports : ImportsAt files from line rules.batch recorded joined after) where
  abbrev finding : Finding
  finding = imports.finds.finding

  abbrev log : List Segment
  log = s.log ++ segments_of rules.batch finding

  printed : IsKeptOf (report_printed s) joined session
  printed = joined-kept s before session of joined is

  -- the counts of the base before it
  pub import-counts : joined.counts ≡ before.counts → joined.counts ≡ counts_of (trees_in (games_of_segments s.log))
  import-counts same = same ∙ fits.counted ∙ ap (λ (games : List Game). counts_of (trees_in games)) (kept-games s before session of)

  last_is : kept_last after ≡ length log
  last_is =
      omega (arith, ap (λ (v : VersionState Game). v.number) imports.held, ap length imports.ahead, length-append joined.ahead (segments_of rules.batch finding), kept-last (report_printed s) joined session printed, length-append s.log (segments_of rules.batch finding))

  pub import-kept : IsKeptOf (after_import rules s line finding) after session
  import-kept =
      let floor : ℕ = (report_printed s).floor in
      let low = printed.within in record {
        floor = ap (λ (v : VersionState Game). v.number) imports.held ∙ printed.floor;
        games =
            ap (λ (v : VersionState Game). items_in v.parts) imports.held
            ∙ printed.games
            ∙ ap games_of_segments (sym (take-append-le floor s.log (segments_of rules.batch finding) low));
        ahead =
            imports.ahead
            ∙ ap (λ (l : List Segment). l ++ segments_of rules.batch finding) printed.ahead
            ∙ sym (drop-append-le floor s.log (segments_of rules.batch finding) low);
        within = omega (arith, low, length-append s.log (segments_of rules.batch finding));
        waiting = imports.waiting ∙ ap (λ (n : ℕ). Some (report_text line finding n)) last_is;
        session_is = of.session_is;
        trees =
            subst (All (λ (g : Game). IsTree g.tree)) (sym (flat_map-append (λ (g : Segment). g) s.log (segments_of rules.batch finding)))
            (All-append (λ (g : Game). IsTree g.tree) (games_of_segments s.log) (games_of_segments (segments_of rules.batch finding)) of.trees
            (imported-trees files from joined.counts imports.finds.entry rules.batch finding imports.finds.imported));
      }

-- ---- the guided output passes these

module _ (files : List File) (rules : Rules) (recorded : List ℕ) where
  import-pass : (s : State) (left : List ℕ) (line : ℕ) (from : Source) (finds : FindsBy files from (counts_of (trees_in (games_of_segments s.log))) (is_shown_unlisted recorded line) (is_shown_unread recorded line)) →
      IsGuidedPass files rules recorded s left line (statement_of from) (finds.entry ∷ []) (waiting_text s ++ import_line_text line from) (after_import rules s line finds.finding)
  import-pass s left line (source.Under path) finds = ((finds.entry, finds.finding, refl, finds.imported, refl, refl), (finds.entry, refl, record { finds = finds; entry_is = refl }), tt)
  import-pass s left line (source.Made games start) finds = ((finds.entry, finds.finding, refl, finds.imported, refl, refl), tt, tt)

  import_text : (s : State) (left : List ℕ) (line : ℕ) (from : Source) (used : List ImportCourse) (text : List ℕ) (next : State) → IsGuidedPass files rules recorded s left line (statement_of from) used text next → text ≡ waiting_text s ++ import_line_text line from
  import_text s left line (source.Under path) used text next pass = pass.0.4
  import_text s left line (source.Made games start) used text next pass = pass.0.4

  module _ (left : List ℕ) (p : Placed) (before : Kept) (session : SessionState) (from : Source) (own : p.statement ≡ statement_of from) where
    pub import-passes : (rest : List ℕ) (joined after : Kept) → FitsTogether before → left ≡ (kept_report before ++ import_line_text p.line from) ++ rest → IsJoined before joined → joined.counts ≡ before.counts → ImportsAt files from p.line rules.batch recorded joined after
        → PassesGuided files rules recorded left p before session rest after session
    import-passes rest joined after fits stands is same imports s of =
        let text = waiting_text s ++ import_line_text p.line from in
        let report = kept-report s before session of in
        let counts = import-counts files rules recorded s before session of fits p.line from joined after is imports same in
        subst (λ (c : Counts). (finds : FindsBy files from c (is_shown_unlisted recorded p.line) (is_shown_unread recorded p.line)) → IsKeptOf (after_import rules s p.line finds.finding) after session →
        (used : List ImportCourse) × (t : List ℕ) × (next : State) × (left ≡ t ++ rest) × IsGuidedPass files rules recorded s left p.line p.statement used t next × IsKeptOf next after session) (sym counts)
        (λ finds kept. (
          finds.entry ∷ [],
          text,
          after_import rules s p.line finds.finding,
          stands ∙ ap (λ (r : List ℕ). (r ++ import_line_text p.line from) ++ rest) report,
          subst (λ (o : Statement). IsGuidedPass files rules recorded s left p.line o (finds.entry ∷ []) text (after_import rules s p.line finds.finding)) (sym own) (import-pass s left p.line from finds),
          kept,
        )) imports.finds (import-kept files rules recorded s before session of fits p.line from joined after is imports)

    pub import-departs : (count : ℕ) → DepartsIn left (kept_report before ++ import_line_text p.line from) count → DepartsGuided files rules recorded left p before session count
    import-departs count departs s of used text next pass =
        let is = import_text s left p.line from used text next (subst (λ (o : Statement). IsGuidedPass files rules recorded s left p.line o used text next) own pass) in
        subst (λ (t : List ℕ). DepartsIn left t count) (ap (λ (r : List ℕ). r ++ import_line_text p.line from) (kept-report s before session of) ∙ sym is) departs

  module _ (left : List ℕ) (p : Placed) (before : Kept) (session : SessionState) (own : p.statement ≡ statement.Wait) where
    wait_is : (s : State) → IsKeptOf s before session → kept_report before ++ wait_text p.line (kept_last before) ≡ waiting_text s ++ wait_text p.line (last_of s)
    wait_is s of = ap₂ (λ (r : List ℕ) (n : ℕ). r ++ wait_text p.line n) (kept-report s before session of) (kept-last s before session of)

    pub wait-passes : (rest : List ℕ) (after : Kept) → left ≡ (kept_report before ++ wait_text p.line (kept_last before)) ++ rest → IsRaised (record before { waiting = None }) (kept_last before) after → PassesGuided files rules recorded left p before session rest after session
    wait-passes rest after stands raised s of = (
      [],
      waiting_text s ++ wait_text p.line (last_of s),
      with_floor (report_printed s) (last_of s),
      stands ∙ ap (λ (t : List ℕ). t ++ rest) (wait_is s of),
      subst (λ (o : Statement). IsGuidedPass files rules recorded s left p.line o [] (waiting_text s ++ wait_text p.line (last_of s)) (with_floor (report_printed s) (last_of s))) (sym own) ((refl, refl, refl), tt, tt),
      waited-kept s before session of after raised,
    )

    pub wait-departs : (count : ℕ) → DepartsIn left (kept_report before ++ wait_text p.line (kept_last before)) count → DepartsGuided files rules recorded left p before session count
    wait-departs count departs s of used text next pass =
        let there = subst (λ (o : Statement). IsGuidedPass files rules recorded s left p.line o used text next) own pass in
        subst (λ (t : List ℕ). DepartsIn left t count) (wait_is s of ∙ sym there.0.1) departs
