-- What statements print beside an import that is under way, whatever it finds.
use Rattle.std.proofs.Common.{◌≡◌, ◌⊎◌, inl, inr, ℕ, ◌≤◌, List, [], ◌∷◌, ◌++◌, Option, Some, None, length, map, take, refl, sym, ap, ◌∙◌, subst, append_assoc, length-append, arith}
use Rattle.std.specs.Prelude.{All, IsTrue, max}
use Rattle.std.proofs.Math.Nat.{max-le}
use Rattle.std.proofs.lemmas.List.{append-nil, take-append-le, take_all}
use Rattle.std.proofs.lemmas.List.Elements.{All-head, All-tail}
use mathlib.Core.List.{IsPrefix}
use Rattle.kb_edges.specs.Files.{File}
use Rattle.query_script.specs.declared.statement.Placed.{Placed}
use Rattle.query_script.specs.declared.statement.PlacedSearch.{PlacedSearch}
use Rattle.query_script.specs.declared.statement.Statement.{Statement}
use Rattle.query_script.specs.declared.statement.Statement.TheVariants as statement
use Rattle.hit_collectors.specs.Tallies.{BoxTally}
use Rattle.node_position.specs.Games.{Game}
use Rattle.session_core.specs.Answers.{IsAnswer, IsSearched, IsWatchBegun, IsWatchMissing, IsWatchTaken, IsWatchTold, View}
use Rattle.session_core.specs.Stores.{view_of as seen_in}
use Rattle.version_publisher.specs.declared.state.SearcherState.{SearcherState}
use Rattle.version_publisher.specs.declared.state.VersionState.{VersionState}
use Rattle.import_work.specs.Course.{ImportCourse}
use Rattle.import_work.specs.Log.{Segment, games_of_segments, segments_of}
use Rattle.import_work.specs.declared.source.Source.{Source}
use Rattle.search_run.specs.Beside.{GoesOnBeside, HasAnswered, HasAnsweredAll, PrintsBeside, Reaches, block_at}
use Rattle.session_core.specs.Lawful.{AreSearched, HasPrinted, IsNamed, IsPassed, NamesNone, NamesVersion, Rules, State, after_import, last_of, one_more, view_at, waiting_text, with_session, with_floor}
use Rattle.session_core.specs.SessionState.{SessionState}
use Rattle.search_run.specs.Run.{beside_rules}
use Rattle.search_run.specs.Seen.{HaveSeenOf, IsLookedAt, IsVersionOf}
use Rattle.serial_run.specs.Steps.{AreAnsweredFrom, IsKeptOfState, IsTextByKept, IsTextTo, LeavesBase, import_at, kept_at}
use Rattle.session_core.specs.ImportTexts.{import_line_text}
use Rattle.import_segments.proofs.PushedSegments.{items_in-games_of_segments}
use Rattle.serial_run.proofs.StatementLemmas.{AreAnsweredFrom-searched, AreNamed, greatest_of}
use Rattle.session_core.proofs.StateLemmas.{floor-joined, opens-passed}

-- ---- a state with a longer log

-- a state as it was seen: with this log, and without a report
abbrev as_seen : State → List Segment → State
as_seen s seen = record { log = seen; floor = s.floor; waiting = None; session = s.session }

module _ (files : List File) (rules : Rules) (beside : ¬ IsTrue rules.serial) (s : State) (seen : List Segment) (longer : IsPrefix seen s.log) where
  few : length seen ≤ length s.log
  few = omega (arith, ap length longer.1, length-append seen longer.0)

  named-longer : (n : ℕ) → IsNamed rules (as_seen s seen) n → IsNamed rules s n
  named-longer n h = record { from = h.from; to = omega (arith, h.to, few); serial = λ one. absurd (beside one) }

  view-longer : (n : ℕ) → n ≤ length seen → view_at (as_seen s seen) n ≡ view_at s n
  view-longer n le =
      let same : take n seen ≡ take n s.log = sym (take-append-le n seen longer.0 le) ∙ ap (take n) longer.1 in
      ap (λ (log : List Segment). record { version = n; games = games_of_segments log }) same

  searched-longer : (searches : List PlacedSearch) (session after : SessionState) (greatest : ℕ) (text : List ℕ) → AreSearched rules (as_seen s seen) searches session greatest text after → AreSearched rules s searches session greatest text after
  searched-longer [] session after greatest text h = h
  searched-longer (p ∷ ps) session after greatest text h = (
    h.0,
    h.1,
    h.2,
    h.3,
    h.4,
    named-longer h.0 h.5,
    subst (λ (v : View). IsSearched p.line v p.query p.filter session h.1 h.2) (view-longer h.0 h.5.to) h.6,
    searched-longer ps h.2 after h.3 h.4 h.7,
    h.8,
    h.9,
  )

  greatest-seen : (searches : List PlacedSearch) (session after : SessionState) (greatest : ℕ) (text : List ℕ) → AreSearched rules (as_seen s seen) searches session greatest text after → greatest ≤ length seen
  greatest-seen [] session after greatest text h = omega (arith, h.0)
  greatest-seen (p ∷ ps) session after greatest text h = rw h.8 (max-le h.5.to (greatest-seen ps h.2 after h.3 h.4 h.7))

  -- the statement is passed with this text in the state itself, and the session tell this behind it
  pub record IsPassedOn (line : ℕ) (own : Statement) (text : List ℕ) (told : SessionState) : Type 0 where
    pub next : State
    pub passed : IsPassed files rules s line own [] text next
    pub log_is : next.log ≡ s.log
    pub waiting_is : next.waiting ≡ s.waiting
    pub floor_at_most : s.floor ≤ length seen → next.floor ≤ length seen
    pub session_is : next.session ≡ told

  -- one that names a version
  answered-longer : (line : ℕ) (own : Statement) (text : List ℕ) (told : SessionState) (used : List ImportCourse) (next : State) → ((n : ℕ) (after : SessionState) → IsNamed rules s n → IsAnswer line (view_at s n) s.session own text after → IsPassed files rules s line own [] text (with_session (with_floor s n) after)) → (n : ℕ) (after : SessionState) → IsNamed rules (as_seen s seen) n → IsAnswer line (view_at (as_seen s seen) n) s.session own text after → next ≡ with_session (with_floor (as_seen s seen) n) after → next.session ≡ told → IsPassedOn line own text told
  answered-longer line own text told used next passes n after named answer same tells = record {
    next = with_session (with_floor s n) after;
    passed = passes n after (named-longer n named) (subst (λ (v : View). IsAnswer line v s.session own text after) (view-longer n named.to) answer);
    log_is = refl;
    waiting_is = refl;
    floor_at_most = λ le. max-le le named.to;
    session_is = ap (λ (t : State). t.session) (sym same) ∙ tells;
  }

  -- one that names a version, or none
  either-longer : (line : ℕ) (own : Statement) (text : List ℕ) (told : SessionState) (Leaves : View → SessionState → Type 0) (Tells : SessionState → Type 0) (used : List ImportCourse) (next : State) →
      ((now : State) → NamesVersion rules s Leaves [] now ⊎ NamesNone s Tells [] now → IsPassed files rules s line own [] text now) →
      NamesVersion rules (as_seen s seen) Leaves used next ⊎ NamesNone (as_seen s seen) Tells used next → next.session ≡ told → IsPassedOn line own text told
  either-longer line own text told Leaves Tells used next passes (inl of) tells =
      let now = with_session (with_floor s of.0) of.1 in record {
        next = now;
        passed = passes now (inl (of.0, of.1, named-longer of.0 of.2, subst (λ (v : View). Leaves v of.1) (view-longer of.0 of.2.to) of.3, refl, refl));
        log_is = refl;
        waiting_is = refl;
        floor_at_most = λ le. max-le le of.2.to;
        session_is = ap (λ (t : State). t.session) (sym of.5) ∙ tells;
      }
  either-longer line own text told Leaves Tells used next passes (inr of) tells = record {
    next = with_session s of.0;
    passed = passes (with_session s of.0) (inr (of.0, of.1, refl, refl));
    log_is = refl;
    waiting_is = refl;
    floor_at_most = λ le. le;
    session_is = ap (λ (t : State). t.session) (sym of.3) ∙ tells;
  }

  pub passed-longer : (line : ℕ) (own : Statement) (text : List ℕ) (told : SessionState) → LeavesBase own → Reaches own (length seen) → IsTextTo files rules (as_seen s seen) line own text told → IsPassedOn line own text told
  passed-longer line (statement.Import path) text told leaves reaches of = absurd leaves
  passed-longer line (statement.Make games start) text told leaves reaches of = absurd leaves
  passed-longer line statement.Wait text told leaves reaches of = absurd leaves
  passed-longer line (statement.Until number) text told leaves reaches (used, next, of, tells) = record {
    next = with_floor s of.0;
    passed = (of.0, record { named = named-longer of.0 of.1.named; reached = inl (reached of.0 of.1.reached) }, refl, of.3, refl);
    log_is = refl;
    waiting_is = refl;
    floor_at_most = λ le. max-le le of.1.named.to;
    session_is = ap (λ (t : State). t.session) (sym of.4) ∙ tells;
  }
    where
      reached : (n : ℕ) → (number ≤ n) ⊎ (n ≡ length seen) → number ≤ n
      reached n (inl le) = le
      reached n (inr last) = omega (arith, last, reaches)
  passed-longer line (statement.Together searches) text told leaves reaches (used, next, of, tells) = record {
    next = with_session (with_floor s of.0) of.1;
    passed = (of.0, of.1, searched-longer searches s.session of.1 of.0 text of.2, refl, refl);
    log_is = refl;
    waiting_is = refl;
    floor_at_most = λ le. max-le le (greatest-seen searches s.session of.1 of.0 text of.2);
    session_is = ap (λ (t : State). t.session) (sym of.4) ∙ tells;
  }
  passed-longer line (statement.Search query filter) text told leaves reaches (used, next, of, tells) =
      answered-longer line (statement.Search query filter) text told used next (λ n after named answer. (n, after, named, answer, refl, refl)) of.0 of.1 of.2 of.3 of.5 tells
  passed-longer line (statement.Kept query) text told leaves reaches (used, next, of, tells) =
      answered-longer line (statement.Kept query) text told used next (λ n after named answer. (n, after, named, answer, refl, refl)) of.0 of.1 of.2 of.3 of.5 tells
  passed-longer line (statement.Signature pattern) text told leaves reaches (used, next, of, tells) =
      answered-longer line (statement.Signature pattern) text told used next (λ n after named answer. (n, after, named, answer, refl, refl)) of.0 of.1 of.2 of.3 of.5 tells
  passed-longer line statement.Players text told leaves reaches (used, next, of, tells) =
      answered-longer line statement.Players text told used next (λ n after named answer. (n, after, named, answer, refl, refl)) of.0 of.1 of.2 of.3 of.5 tells
  passed-longer line statement.Doubles text told leaves reaches (used, next, of, tells) =
      answered-longer line statement.Doubles text told used next (λ n after named answer. (n, after, named, answer, refl, refl)) of.0 of.1 of.2 of.3 of.5 tells
  passed-longer line (statement.Game number) text told leaves reaches (used, next, of, tells) =
      answered-longer line (statement.Game number) text told used next (λ n after named answer. (n, after, named, answer, refl, refl)) of.0 of.1 of.2 of.3 of.5 tells
  passed-longer line (statement.Opening shape depth least) text told leaves reaches (used, next, of, tells) =
      answered-longer line (statement.Opening shape depth least) text told used next (λ n after named answer. (n, after, named, answer, refl, refl)) of.0 of.1 of.2 of.3 of.5 tells
  passed-longer line statement.Report text told leaves reaches (used, next, of, tells) = record {
    next = s;
    passed = (of.0, refl, refl);
    log_is = refl;
    waiting_is = refl;
    floor_at_most = λ le. le;
    session_is = ap (λ (t : State). t.session) (sym of.2) ∙ tells;
  }
  passed-longer line (statement.Retire name) text told leaves reaches (used, next, of, tells) = record {
    next = with_session s of.0;
    passed = (of.0, of.1, refl, refl);
    log_is = refl;
    waiting_is = refl;
    floor_at_most = λ le. le;
    session_is = ap (λ (t : State). t.session) (sym of.3) ∙ tells;
  }
  passed-longer line (statement.Watch name query filter) text told leaves reaches (used, next, of, tells) =
      either-longer line (statement.Watch name query filter) text told (λ view after. IsWatchBegun line view name query filter s.session text after) (IsWatchTaken line name s.session text) used next (λ now passed. passed) of tells
  passed-longer line (statement.Watched name) text told leaves reaches (used, next, of, tells) =
      either-longer line (statement.Watched name) text told (λ view after. IsWatchTold line view name s.session text after) (IsWatchMissing line name s.session text) used next (λ now passed. passed) of tells

-- ---- beside an import

-- an import's statement is printed, and it is under way
pub prints-first : (files : List File) (rules : Rules) (start : List BoxTally) (course : List ImportCourse) (placed : List Placed) (began : State) (printed : List ℕ) → HasPrinted files rules start course placed began printed → began.floor ≤ last_of began → (floor : ℕ) → last_of began ≤ floor → (line : ℕ) (from : Source) (IsSeen : List Segment → Type 0) (session : SessionState) → began.session ≡ session → (text : List ℕ) → text ≡ waiting_text began ++ import_line_text line from →
    PrintsBeside files rules start began line from course IsSeen floor session (placed ++ import_at line from ∷ []) (printed ++ text)
prints-first files rules start course placed began printed so_far low floor last line from IsSeen session told text text_is = λ entry finding imported seen. record {
  state = after_import rules began line finding;
  printed = one_more (entry ∷ []) (import_at line from) (after_import rules began line finding) text so_far
      (opens-passed files rules began line from (entry ∷ []) text (after_import rules began line finding) (entry, finding, refl, imported, text_is, refl));
  log_is = refl;
  waiting_is = refl;
  floor_at_most = omega (arith, floor-joined began.waiting began.floor (length began.log) low, last);
  session_is = told;
}

-- a statement is answered from a version
module _ (batch : ℕ) (WasSeen IsSeen : List Segment → Type 0) (floor : ℕ) (session told : SessionState) (p : Placed) (text : List ℕ) (version : VersionState Game) (seen : List Segment) where
  pub goes-on : ((log : List Segment) → IsSeen log → WasSeen log) → ((log : List Segment) → IsSeen log → IsPrefix seen log) → IsVersionOf version seen → floor ≤ length seen → LeavesBase p.statement → Reaches p.statement (length seen) → ((rules : Rules) (waiting : Option (List ℕ)) → IsTextByKept rules (kept_at version waiting) session p.line p.statement text told) →
      GoesOnBeside (beside_rules batch) WasSeen floor session (p ∷ []) text IsSeen version.number told
  goes-on weaker seen_prefix of floor_seen leaves reaches text_is = λ files start began line from course placed printed h. λ entry finding imported is_seen.
      let log : List Segment = began.log ++ segments_of batch finding in
      let r = h entry finding imported (weaker log is_seen) in
      let s = r.state in
      let kept : IsKeptOfState (as_seen s seen) (kept_at version None) session = record {
        version = of.number;
        games = of.games ∙ items_in-games_of_segments seen;
        waiting = refl;
        floor = omega (arith, r.floor_at_most, floor_seen);
        session_is = r.session_is;
      } in
      let on = passed-longer files (beside_rules batch) (λ same. absurd (cc same)) s seen (subst (IsPrefix seen) (sym r.log_is) (seen_prefix log is_seen)) p.line p.statement text told leaves reaches (text_is (beside_rules batch) None files (as_seen s seen) kept) in record {
        state = on.next;
        printed = subst (λ c. HasPrinted files (beside_rules batch) start c (placed ++ p ∷ []) on.next (printed ++ text)) (append-nil (course ++ entry ∷ [])) (one_more [] p on.next text r.printed on.passed);
        log_is = on.log_is ∙ r.log_is;
        waiting_is = on.waiting_is ∙ r.waiting_is;
        floor_at_most = omega (arith, on.floor_at_most (omega (arith, r.floor_at_most, floor_seen)), of.number);
        session_is = on.session_is;
      }

-- ---- a block

-- the version is of a log with which this one begins, and its number is at least the floor
pub record IsBetween (floor : ℕ) (seen : List Segment) (version : VersionState Game) : Type 0 where
  pub mine : List Segment
  pub of : IsVersionOf version mine
  pub within : IsPrefix mine seen
  pub from : floor ≤ version.number

-- one that a searcher of a block found is so once the session's has seen as much
pub looked-between : (own now : List Segment) (block : List (SearcherState Game)) (floor : ℕ) (version : VersionState Game) → floor ≡ length own → IsPrefix own now → HaveSeenOf now block → IsLookedAt own block version → IsBetween floor now version
looked-between own now block floor version is grows caught h = record {
  mine = h.seen;
  of = h.of;
  within = h.known now grows caught;
  from = omega (arith, is, h.of.number, ap length h.later.1, length-append own h.later.0);
}

module _ (rules : Rules) (beside : ¬ IsTrue rules.serial) (s : State) (seen : List Segment) (longer : IsPrefix seen s.log) (floor : ℕ) (low : s.floor ≤ floor) where
  number-within : (v : VersionState Game) → IsBetween floor seen v → v.number ≤ length seen
  number-within v h = omega (arith, h.of.number, ap length h.within.1, length-append h.mine h.within.0)

  view-is : (v : VersionState Game) → IsBetween floor seen v → view_at s v.number ≡ seen_in v
  view-is v h =
      let le : v.number ≤ length h.mine = omega (arith, h.of.number) in
      let cut : take v.number s.log ≡ h.mine =
      ap (take v.number) (sym longer.1) ∙ take-append-le v.number seen longer.0 (number-within v h)
      ∙ ap (take v.number) (sym h.within.1) ∙ take-append-le v.number h.mine h.within.0 le
      ∙ take_all v.number h.mine (omega (arith, h.of.number)) in
      ap (λ (games : List Game). record { version = v.number; games = games }) (ap games_of_segments cut ∙ sym (items_in-games_of_segments h.mine) ∙ sym h.of.games)

  -- each of these may be named
  all-named : (versions : List (VersionState Game)) → All (IsBetween floor seen) versions → AreNamed rules s (map seen_in versions)
  all-named [] all = tt
  all-named (v ∷ vs) all =
      let h = All-head (IsBetween floor seen) v vs all in (
        record { from = omega (arith, low, h.from); to = omega (arith, number-within v h, ap length longer.1, length-append seen longer.0); serial = λ one. absurd (beside one) },
        view-is v h,
        all-named vs (All-tail (IsBetween floor seen) v vs all),
      )

  greatest-within : (versions : List (VersionState Game)) → All (IsBetween floor seen) versions → greatest_of (map seen_in versions) ≤ length seen
  greatest-within [] all = omega arith
  greatest-within (v ∷ vs) all = max-le (number-within v (All-head (IsBetween floor seen) v vs all)) (greatest-within vs (All-tail (IsBetween floor seen) v vs all))

-- a block is answered, each search from a version of its own
module _ (batch : ℕ) (WasSeen IsSeen : List Segment → Type 0) (floor : ℕ) (session told : SessionState) (line : ℕ) (searches : List PlacedSearch) (text : List ℕ) (version : VersionState Game) (seen : List Segment) where
  pub block-goes-on : ((log : List Segment) → IsSeen log → WasSeen log) → ((log : List Segment) → IsSeen log → IsPrefix seen log) → IsVersionOf version seen → floor ≤ length seen → (versions : List (VersionState Game)) → All (IsBetween floor seen) versions → AreAnsweredFrom (map seen_in versions) searches session text told →
      GoesOnBeside (beside_rules batch) WasSeen floor session (block_at line searches ∷ []) text IsSeen version.number told
  block-goes-on weaker seen_prefix of floor_seen versions all answers = λ files start began at from course placed printed h. λ entry finding imported is_seen.
      let log : List Segment = began.log ++ segments_of batch finding in
      let r = h entry finding imported (weaker log is_seen) in
      let s = r.state in
      let longer = subst (IsPrefix seen) (sym r.log_is) (seen_prefix log is_seen) in
      let views = map seen_in versions in
      let named = all-named (beside_rules batch) (λ same. absurd (cc same)) s seen longer floor r.floor_at_most versions all in
      let greatest = greatest-within (beside_rules batch) (λ same. absurd (cc same)) s seen longer floor r.floor_at_most versions all in
      let searched = AreAnsweredFrom-searched (beside_rules batch) s views searches s.session told text named (subst (λ from. AreAnsweredFrom views searches from text told) (sym r.session_is) answers) in
      let next = with_session (with_floor s (greatest_of views)) told in
      let at_most : max s.floor (greatest_of views) ≤ length seen = max-le (omega (arith, r.floor_at_most, floor_seen)) greatest in record {
        state = next;
        printed = subst (λ c. HasPrinted files (beside_rules batch) start c (placed ++ block_at line searches ∷ []) next (printed ++ text)) (append-nil (course ++ entry ∷ []))
            (one_more [] (block_at line searches) next text r.printed (greatest_of views, told, searched, refl, refl));
        log_is = r.log_is;
        waiting_is = r.waiting_is;
        floor_at_most = omega (arith, at_most, of.number);
        session_is = refl;
      }

-- a block's statement, by its line and its searches
pub placed_block : (p : Placed) (searches : List PlacedSearch) → p.statement ≡ statement.Together searches → block_at p.line searches ≡ p
placed_block p searches is = λ i. record { line = p.line; statement = (sym is) i }

-- ---- one statement behind another

-- what is printed by these statements and this text, in other words for them
printed-as : (files : List File) (rules : Rules) (start : List BoxTally) (began : State) (line : ℕ) (from : Source) (course : List ImportCourse) (IsSeen : List Segment → Type 0) (floor : ℕ) (session : SessionState) (placed other : List Placed) (text more : List ℕ) → placed ≡ other → text ≡ more → PrintsBeside files rules start began line from course IsSeen floor session placed text → PrintsBeside files rules start began line from course IsSeen floor session other more
printed-as files rules start began line from course IsSeen floor session placed other text more same too h =
    subst (λ t. PrintsBeside files rules start began line from course IsSeen floor session other t) too
    (subst (λ ps. PrintsBeside files rules start began line from course IsSeen floor session ps text) same h)

-- nothing is printed
pub goes-on-none : (rules : Rules) (WasSeen IsSeen : List Segment → Type 0) (floor : ℕ) (session : SessionState) → ((log : List Segment) → IsSeen log → WasSeen log) → GoesOnBeside rules WasSeen floor session [] [] IsSeen floor session
goes-on-none rules WasSeen IsSeen floor session weaker = λ files start began line from course placed printed h.
    printed-as files rules start began line from course IsSeen floor session placed (placed ++ []) printed (printed ++ []) (sym (append-nil placed)) (sym (append-nil printed))
    (λ entry finding imported seen. h entry finding imported (weaker (began.log ++ segments_of rules.batch finding) seen))

-- one thing is printed, and then another
pub goes-on-then : (rules : Rules) (WasSeen IsSeen SeenNow : List Segment → Type 0) (floor between now : ℕ) (session told after : SessionState) (more rest : List Placed) (text behind : List ℕ) → GoesOnBeside rules WasSeen floor session more text IsSeen between told → GoesOnBeside rules IsSeen between told rest behind SeenNow now after → GoesOnBeside rules WasSeen floor session (more ++ rest) (text ++ behind) SeenNow now after
goes-on-then rules WasSeen IsSeen SeenNow floor between now session told after more rest text behind first then = λ files start began line from course placed printed h.
    printed-as files rules start began line from course SeenNow now after ((placed ++ more) ++ rest) (placed ++ (more ++ rest)) ((printed ++ text) ++ behind) (printed ++ (text ++ behind)) (append_assoc placed more rest) (append_assoc printed text behind)
    (then files start began line from course (placed ++ more) (printed ++ text) (first files start began line from course placed printed h))

-- the same with what was seen before, seen later
pub goes-on-weaker : (rules : Rules) (WasSeen IsSeen SeenNow : List Segment → Type 0) (floor now : ℕ) (session told : SessionState) (more : List Placed) (text : List ℕ) → ((log : List Segment) → SeenNow log → IsSeen log) → GoesOnBeside rules WasSeen floor session more text IsSeen now told → GoesOnBeside rules WasSeen floor session more text SeenNow now told
goes-on-weaker rules WasSeen IsSeen SeenNow floor now session told more text weaker on = λ files start began line from course placed printed h.
    λ entry finding imported seen. on files start began line from course placed printed h entry finding imported (weaker (began.log ++ segments_of rules.batch finding) seen)

-- ---- statements that are answered one after another

-- none is answered yet
pub answers-none : (batch : ℕ) (IsSeen : List Segment → Type 0) (floor : ℕ) (session : SessionState) (before : List ℕ) (written : Option (List ℕ)) → written ≡ Some before → HasAnswered batch IsSeen floor session [] IsSeen floor session before written
answers-none batch IsSeen floor session before written is = record {
  text = [];
  goes_on = goes-on-none (beside_rules batch) IsSeen IsSeen floor session (λ log h. h);
  written_is = is ∙ ap Some (sym (append-nil before));
}

-- one more is answered
pub answers-more : (batch : ℕ) (WasSeen IsSeen SeenNow : List Segment → Type 0) (floor between now : ℕ) (session told after : SessionState) (done : List Placed) (p : Placed) (before : List ℕ) (was written : Option (List ℕ)) (h : HasAnswered batch WasSeen floor session done IsSeen between told before was) → HasAnswered batch IsSeen between told (p ∷ []) SeenNow now after (before ++ h.text) written → HasAnswered batch WasSeen floor session (done ++ p ∷ []) SeenNow now after before written
answers-more batch WasSeen IsSeen SeenNow floor between now session told after done p before was written h more = record {
  text = h.text ++ more.text;
  goes_on = goes-on-then (beside_rules batch) WasSeen IsSeen SeenNow floor between now session told after done (p ∷ []) h.text more.text h.goes_on more.goes_on;
  written_is = more.written_is ∙ ap Some (append_assoc before h.text more.text);
}

-- all that are answered beside an import are
pub answered-all : (WasSeen IsSeen SeenNow : List Segment → Type 0) (floor now : ℕ) (session told : SessionState) (placed : List Placed) (before : List ℕ) (written : Option (List ℕ)) → ((batch : ℕ) → HasAnswered batch WasSeen floor session placed IsSeen now told before written) → ((log : List Segment) → SeenNow log → IsSeen log) → ((log : List Segment) → SeenNow log → now ≤ length log) → HasAnsweredAll WasSeen floor session placed SeenNow told before written
answered-all WasSeen IsSeen SeenNow floor now session told placed before written h weaker low = record {
  floor_now = now;
  floor_seen = low;
  answered = λ batch. record {
    text = (h batch).text;
    goes_on = goes-on-weaker (beside_rules batch) WasSeen IsSeen SeenNow floor now session told placed (h batch).text weaker (h batch).goes_on;
    written_is = (h batch).written_is;
  };
}
