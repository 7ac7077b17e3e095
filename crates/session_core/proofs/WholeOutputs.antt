-- Each begun text is a prefix of a lawful output: what is left of the script is passed on, each
-- statement with the last version, and each import without a loss.
use Rattle.std.proofs.Common.{◌≡◌, ◌⊎◌, inl, inr, ℕ, ◌≤◌, List, [], ◌∷◌, ◌++◌, drop, take, refl, sym, ap, ◌∙◌, subst, append_assoc, length-append, arith}
use Rattle.std.specs.Prelude.{All, max}
use Rattle.std.proofs.Math.Nat.{max-le}
use Rattle.std.proofs.lemmas.Grind.{flat_map-append}
use Rattle.std.proofs.lemmas.List.{append-nil, take-append-drop}
use Rattle.std.proofs.lemmas.List.Elements.{All-append, All-nil}
use mathlib.Core.List.{IsPrefix}
use Rattle.kb_geometry.proofs.Lists.{All-before}
use Rattle.kb_geometry.proofs.Prefixes.{prefix_same, prefix_trans}
use Rattle.kb_edges.specs.Files.{File}
use Rattle.query_script.specs.declared.statement.Placed.{Placed}
use Rattle.query_script.specs.declared.statement.PlacedSearch.{PlacedSearch}
use Rattle.query_script.specs.declared.statement.Statement.{Statement}
use Rattle.query_script.specs.declared.statement.Statement.TheVariants as statement
use Rattle.query_script.specs.Texts.{until_text, wait_text}
use Rattle.hit_collectors.specs.Tallies.{BoxTally}
use Rattle.session_core.specs.Answers.{IsAnswer, IsAnswered, IsWatchBegun, IsWatchMissing, IsWatchTaken, IsWatchTold, View, boxes_text}
use Rattle.session_core.proofs.OneAnswer.{answer-found, retired-found, search-found}
use Rattle.session_core.proofs.WatchAnswers.{watch-found, watched-found}
use Rattle.import_work.specs.Course.{Finding, ImportCourse, IsImported, losses_of, nothing_lost, trees_in}
use Rattle.session_core.specs.Lawful.{AreSearched, HasPrinted, IsBegun, IsLawful, IsNamed, IsNextPrefix, IsPassed, IsStatementText, NamesNone, NamesVersion, Rules, State, after_import, at_start, report_printed, last_of, view_at, waiting_text, with_session, with_floor}
use Rattle.session_core.specs.SessionState.{SessionState}
use Rattle.import_work.specs.Log.{Segment, games_at, games_of_segments, segments_of}
use Rattle.import_work.specs.Outcome.{counts_of}
use Rattle.import_work.specs.declared.source.Source.{Source}
use Rattle.import_work.specs.declared.source.Source.TheVariants as source
use Rattle.session_core.specs.Sources.{statement_of}
use Rattle.session_core.specs.ImportTexts.{import_line_text}
use Rattle.import_work.proofs.Losses.{losses_of-append}
use Rattle.import_work.proofs.ImportsExist.{HasTree, imported-trees, lossless-found}
use Rattle.session_core.proofs.StateLemmas.{floor-joined, floor-named, greatest-le, last_named, log_grows, opens-passed}

-- ---- prefixes

pub prefix_behind : (text more whole : List ℕ) → IsPrefix more whole → IsPrefix (text ++ more) (text ++ whole)
prefix_behind text more whole p = (p.0, append_assoc text more p.0 ∙ ap (λ t. text ++ t) p.1)

-- ---- states

-- What holds of each state of a run: the floor is at most the last version, and the games of the
-- log are trees.
pub record IsReached (s : State) : Type 0 where
  pub floor : s.floor ≤ last_of s
  pub trees : All HasTree (games_of_segments s.log)

-- the games of each version are trees
pub trees-at : (s : State) → IsReached s → (n : ℕ) → All HasTree (games_at s.log n)
trees-at s h n =
    All-before HasTree (games_of_segments (take n s.log)) (games_of_segments (drop n s.log))
    (subst (All HasTree) (ap games_of_segments (sym (take-append-drop n s.log)) ∙ flat_map-append (λ (g : Segment). g) (take n s.log) (drop n s.log)) h.trees)

module _ (files : List File) (rules : Rules) where
  -- ---- each statement leads to such a state

  named : (s : State) (n : ℕ) (session : SessionState) → IsReached s → n ≤ last_of s → IsReached (with_session (with_floor s n) session)
  named s n session h to = record { floor = floor-named s n h.floor to; trees = h.trees }

  waited : (s : State) → IsReached s → IsReached (with_floor (report_printed s) (last_of s))
  waited s h = record { floor = max-le (floor-joined s.waiting s.floor (last_of s) h.floor) (omega arith); trees = h.trees }

  imported : (s : State) (line : ℕ) (from : Source) (entry : ImportCourse) (finding : Finding) → IsReached s → IsImported files from (counts_of (trees_in (games_of_segments s.log))) entry finding → IsReached (after_import rules s line finding)
  imported s line from entry finding h is = record {
    floor = rw length-append (omega (arith, floor-joined s.waiting s.floor (last_of s) h.floor));
    trees = subst (All HasTree) (sym (flat_map-append (λ (g : Segment). g) s.log (segments_of rules.batch finding)))
        (All-append HasTree (games_of_segments s.log) (games_of_segments (segments_of rules.batch finding)) h.trees
        (imported-trees files from (counts_of (trees_in (games_of_segments s.log))) entry rules.batch finding is));
  }

  -- one that names a version, or none
  either-on : (s next : State) (Leaves : View → SessionState → Type 0) (Tells : SessionState → Type 0) (used : List ImportCourse) → IsReached s → NamesVersion rules s Leaves used next ⊎ NamesNone s Tells used next → IsReached next
  either-on s next Leaves Tells used h (inl is) = rw is.5 (named s is.0 is.1 h is.2.to)
  either-on s next Leaves Tells used h (inr is) = rw is.3 (record { floor = h.floor; trees = h.trees })

  pub passed-on : (s next : State) (line : ℕ) (own : Statement) (used : List ImportCourse) (text : List ℕ) → IsReached s → IsPassed files rules s line own used text next → IsReached next
  passed-on s next line (statement.Import path) used text h is = rw is.5 (imported s line (source.Under path) is.0 is.1 h is.3)
  passed-on s next line (statement.Make games start) used text h is = rw is.5 (imported s line (source.Made games start) is.0 is.1 h is.3)
  passed-on s next line statement.Wait used text h is = rw is.2 (waited s h)
  passed-on s next line (statement.Until number) used text h is = rw is.4 (named s is.0 s.session h is.1.named.to)
  passed-on s next line (statement.Together searches) used text h is = rw is.4 (named s is.0 is.1 h (greatest-le rules s searches s.session is.1 is.0 text is.2))
  passed-on s next line (statement.Search query filter) used text h is = rw is.5 (named s is.0 is.1 h is.2.to)
  passed-on s next line (statement.Kept query) used text h is = rw is.5 (named s is.0 is.1 h is.2.to)
  passed-on s next line (statement.Signature pattern) used text h is = rw is.5 (named s is.0 is.1 h is.2.to)
  passed-on s next line statement.Players used text h is = rw is.5 (named s is.0 is.1 h is.2.to)
  passed-on s next line statement.Doubles used text h is = rw is.5 (named s is.0 is.1 h is.2.to)
  passed-on s next line (statement.Game number) used text h is = rw is.5 (named s is.0 is.1 h is.2.to)
  passed-on s next line (statement.Opening shape depth least) used text h is = rw is.5 (named s is.0 is.1 h is.2.to)
  passed-on s next line statement.Report used text h is = rw is.2 h
  passed-on s next line (statement.Retire name) used text h is = rw is.3 (record { floor = h.floor; trees = h.trees })
  passed-on s next line (statement.Watch name query filter) used text h is =
      either-on s next (λ view after. IsWatchBegun line view name query filter s.session text after) (IsWatchTaken line name s.session text) used h is
  passed-on s next line (statement.Watched name) used text h is =
      either-on s next (λ view after. IsWatchTold line view name s.session text after) (IsWatchMissing line name s.session text) used h is

  pub reached : (start : List BoxTally) (course : List ImportCourse) (placed : List Placed) (s : State) (out : List ℕ) → HasPrinted files rules start course placed s out → IsReached s
  reached start _ _ _ _ HasPrinted.nothing = record { floor = omega arith; trees = All-nil HasTree }
  reached start _ _ _ _ (HasPrinted.one_more {course} {placed} {s} {out} used p next text so_far is) =
      passed-on s next p.line p.statement used text (reached start course placed s out so_far) is

  -- ---- each statement can be passed, and nothing is lost

  abbrev Passes : State → ℕ → Statement → List ℕ → Type 0
  Passes s line own text =
      (used : List ImportCourse) × (next : State) × IsPassed files rules s line own used text next × (losses_of used ≡ 0)

  searches-found : (s : State) → IsReached s → (searches : List PlacedSearch) (session : SessionState) → (n : ℕ) × (text : List ℕ) × (after : SessionState) × AreSearched rules s searches session n text after
  searches-found s h [] session = (0, [], session, (refl, refl, refl))
  searches-found s h (p ∷ ps) session =
      let first = search-found p.line (view_at s (last_of s)) (trees-at s h (last_of s)) p.query p.filter session in
      let rest = searches-found s h ps first.1 in
      (max (last_of s) rest.0, first.0 ++ rest.1, rest.2, (last_of s, first.0, first.1, rest.0, rest.1, last_named rules s h.floor, first.2, rest.3, refl, refl))

  import-passes : (s : State) (line : ℕ) (from : Source) (text : List ℕ) → text ≡ waiting_text s ++ import_line_text line from → Passes s line (statement_of from) text
  import-passes s line from text of =
      let found = lossless-found files from (counts_of (trees_in (games_of_segments s.log))) in
      let next = after_import rules s line found.0 in
      (nothing_lost ∷ [], next, opens-passed files rules s line from (nothing_lost ∷ []) text next (nothing_lost, found.0, refl, found.1, of, refl), refl)

  -- a statement that is answered from the games of a version passes by the last one
  answered-passes : (s : State) (line : ℕ) (own : Statement) → IsReached s → IsAnswered own →
      (text : List ℕ) × (next : State) × ((n : ℕ) × (after : SessionState) × IsNamed rules s n × IsAnswer line (view_at s n) s.session own text after × ◌≡◌ {A = List ImportCourse} [] [] × (next ≡ with_session (with_floor s n) after))
  answered-passes s line own h answered =
      let found = answer-found line (view_at s (last_of s)) (trees-at s h (last_of s)) s.session own answered in
      (found.0, with_session (with_floor s (last_of s)) found.1, (last_of s, found.1, last_named rules s h.floor, found.2, refl, refl))

  -- one that names a version, or none, passes by the last version
  either-passes : (s : State) → IsReached s → (Leaves : View → SessionState → Type 0) (Tells : SessionState → Type 0) (after : SessionState) → Leaves (view_at s (last_of s)) after ⊎ Tells after → (next : State) × (NamesVersion rules s Leaves [] next ⊎ NamesNone s Tells [] next)
  either-passes s h Leaves Tells after (inl leaves) = (with_session (with_floor s (last_of s)) after, inl (last_of s, after, last_named rules s h.floor, leaves, refl, refl))
  either-passes s h Leaves Tells after (inr tells) = (with_session s after, inr (after, tells, refl, refl))

  pub statement-passes : (s : State) (line : ℕ) (own : Statement) → IsReached s → (text : List ℕ) × Passes s line own text
  statement-passes s line (statement.Import path) h =
      (waiting_text s ++ import_line_text line (source.Under path), import-passes s line (source.Under path) (waiting_text s ++ import_line_text line (source.Under path)) refl)
  statement-passes s line (statement.Make games start) h =
      (waiting_text s ++ import_line_text line (source.Made games start), import-passes s line (source.Made games start) (waiting_text s ++ import_line_text line (source.Made games start)) refl)
  statement-passes s line statement.Wait h =
      (waiting_text s ++ wait_text line (last_of s), ([], with_floor (report_printed s) (last_of s), (refl, refl, refl), refl))
  statement-passes s line (statement.Until number) h =
      (until_text line number (last_of s), ([], with_floor s (last_of s), (last_of s, record { named = last_named rules s h.floor; reached = inr refl }, refl, refl, refl), refl))
  statement-passes s line (statement.Together searches) h =
      let found = searches-found s h searches s.session in (found.1, ([], with_session (with_floor s found.0) found.2, (found.0, found.2, found.3, refl, refl), refl))
  statement-passes s line (statement.Search query filter) h = let found = answered-passes s line (statement.Search query filter) h tt in (found.0, ([], found.1, found.2, refl))
  statement-passes s line (statement.Kept query) h = let found = answered-passes s line (statement.Kept query) h tt in (found.0, ([], found.1, found.2, refl))
  statement-passes s line (statement.Signature pattern) h = let found = answered-passes s line (statement.Signature pattern) h tt in (found.0, ([], found.1, found.2, refl))
  statement-passes s line statement.Players h = let found = answered-passes s line statement.Players h tt in (found.0, ([], found.1, found.2, refl))
  statement-passes s line statement.Doubles h = let found = answered-passes s line statement.Doubles h tt in (found.0, ([], found.1, found.2, refl))
  statement-passes s line (statement.Game number) h = let found = answered-passes s line (statement.Game number) h tt in (found.0, ([], found.1, found.2, refl))
  statement-passes s line (statement.Opening shape depth least) h = let found = answered-passes s line (statement.Opening shape depth least) h tt in (found.0, ([], found.1, found.2, refl))
  statement-passes s line statement.Report h = (boxes_text line s.session.boxes, ([], s, (refl, refl, refl), refl))
  statement-passes s line (statement.Retire name) h =
      let found = retired-found line name s.session in (found.0, ([], with_session s found.1, (found.1, found.2, refl, refl), refl))
  statement-passes s line (statement.Watch name query filter) h =
      let found = watch-found line (view_at s (last_of s)) (trees-at s h (last_of s)) name query filter s.session in
      let on = either-passes s h (λ view after. IsWatchBegun line view name query filter s.session found.0 after) (IsWatchTaken line name s.session found.0) found.1 found.2 in
      (found.0, ([], on.0, on.1, refl))
  statement-passes s line (statement.Watched name) h =
      let found = watched-found line (view_at s (last_of s)) (trees-at s h (last_of s)) name s.session in
      let on = either-passes s h (λ view after. IsWatchTold line view name s.session found.0 after) (IsWatchMissing line name s.session found.0) found.1 found.2 in
      (found.0, ([], on.0, on.1, refl))

  -- one that names a version, or none, uses no entry of the course
  either-used : (s next : State) (Leaves : View → SessionState → Type 0) (Tells : SessionState → Type 0) (used : List ImportCourse) → NamesVersion rules s Leaves used next ⊎ NamesNone s Tells used next → used ≡ []
  either-used s next Leaves Tells used (inl is) = is.4
  either-used s next Leaves Tells used (inr is) = is.2

  -- a statement whose text is begun passes with that text
  text-passes : (s : State) (line : ℕ) (own : Statement) (text : List ℕ) → IsStatementText files rules s line own text → Passes s line own text
  text-passes s line (statement.Import path) text of = import-passes s line (source.Under path) text of
  text-passes s line (statement.Make games start) text of = import-passes s line (source.Made games start) text of
  text-passes s line statement.Wait text (used, next, is) = (used, next, is, rw is.0 refl)
  text-passes s line (statement.Until number) text (used, next, is) = (used, next, is, rw is.2 refl)
  text-passes s line (statement.Together searches) text (used, next, is) = (used, next, is, rw is.3 refl)
  text-passes s line (statement.Search query filter) text (used, next, is) = (used, next, is, rw is.4 refl)
  text-passes s line (statement.Kept query) text (used, next, is) = (used, next, is, rw is.4 refl)
  text-passes s line (statement.Signature pattern) text (used, next, is) = (used, next, is, rw is.4 refl)
  text-passes s line statement.Players text (used, next, is) = (used, next, is, rw is.4 refl)
  text-passes s line statement.Doubles text (used, next, is) = (used, next, is, rw is.4 refl)
  text-passes s line (statement.Game number) text (used, next, is) = (used, next, is, rw is.4 refl)
  text-passes s line (statement.Opening shape depth least) text (used, next, is) = (used, next, is, rw is.4 refl)
  text-passes s line statement.Report text (used, next, is) = (used, next, is, rw is.1 refl)
  text-passes s line (statement.Retire name) text (used, next, is) = (used, next, is, rw is.2 refl)
  text-passes s line (statement.Watch name query filter) text (used, next, is) =
      (used, next, is, ap losses_of (either-used s next (λ view after. IsWatchBegun line view name query filter s.session text after) (IsWatchTaken line name s.session text) used is))
  text-passes s line (statement.Watched name) text (used, next, is) =
      (used, next, is, ap losses_of (either-used s next (λ view after. IsWatchTold line view name s.session text after) (IsWatchMissing line name s.session text) used is))

  -- ---- the rest of a script

  -- where the boxes tell this at the start
  module _ (start : List BoxTally) where
    -- a lawful output that begins with this text, by a course that loses no more and whose log begins
    -- with this one
    pub record IsCompleted (course : List ImportCourse) (placed : List Placed) (log : List Segment) (text : List ℕ) : Type 0 where
      pub whole_course : List ImportCourse
      pub state : State
      pub whole : List ℕ
      pub printed : HasPrinted files rules start whole_course placed state whole
      pub prefix : IsPrefix text (whole ++ waiting_text state)
      pub losses : losses_of whole_course ≡ losses_of course
      pub grows : IsPrefix log state.log

    -- the output
    pub lawful-whole : (course : List ImportCourse) (placed : List Placed) (log : List Segment) (text : List ℕ) (h : IsCompleted course placed log text) → IsLawful files rules start h.whole_course placed (h.whole ++ waiting_text h.state)
    lawful-whole course placed log text h = (h.state, h.whole, h.printed, refl)

    -- a course by which nothing more was lost, and a log that has grown
    earlier : (course more : List ImportCourse) (placed : List Placed) (log now : List Segment) (text : List ℕ) → losses_of more ≡ 0 → IsPrefix log now → IsCompleted (course ++ more) placed now text → IsCompleted course placed log text
    earlier course more placed log now text none longer h = record {
      whole_course = h.whole_course;
      state = h.state;
      whole = h.whole;
      printed = h.printed;
      prefix = h.prefix;
      losses = omega (arith, h.losses, losses_of-append course more, none);
      grows = prefix_trans log now h.state.log longer h.grows;
    }

    -- a prefix of such a text
    pub cut : (course : List ImportCourse) (placed : List Placed) (log : List Segment) (text whole : List ℕ) → IsPrefix text whole → IsCompleted course placed log whole → IsCompleted course placed log text
    cut course placed log text whole prefix h = record {
      whole_course = h.whole_course;
      state = h.state;
      whole = h.whole;
      printed = h.printed;
      prefix = prefix_trans text whole (h.whole ++ waiting_text h.state) prefix h.prefix;
      losses = h.losses;
      grows = h.grows;
    }

    -- the closing report is written
    closed : (course : List ImportCourse) (placed : List Placed) (s : State) (text : List ℕ) → HasPrinted files rules start course placed s text → IsCompleted course placed s.log (text ++ waiting_text s)
    closed course placed s text printed = record {
      whole_course = course;
      state = s;
      whole = text;
      printed = printed;
      prefix = prefix_same (text ++ waiting_text s);
      losses = refl;
      grows = prefix_same s.log;
    }

    -- a statement is passed with this text, and then the rest
    one-passed : (p : Placed) (left : List Placed) (course used : List ImportCourse) (placed : List Placed) (s next : State) (before text : List ℕ) → IsPassed files rules s p.line p.statement used before next → losses_of used ≡ 0 → IsCompleted (course ++ used) ((placed ++ p ∷ []) ++ left) next.log text → IsCompleted course (placed ++ p ∷ left) s.log text
    one-passed p left course used placed s next before text is none h =
        earlier course used (placed ++ p ∷ left) s.log next.log text none (log_grows rules files s next p.line p.statement used before is)
        (subst (λ ps. IsCompleted (course ++ used) ps next.log text) (append_assoc placed (p ∷ []) left) h)

    -- the statements that are left are passed, and the closing report is written
    completed-from : (left : List Placed) (course : List ImportCourse) (placed : List Placed) (s : State) (text : List ℕ) → IsReached s → HasPrinted files rules start course placed s text → IsCompleted course (placed ++ left) s.log text
    completed-from [] course placed s text h printed =
        subst (λ ps. IsCompleted course ps s.log text) (sym (append-nil placed))
        (cut course placed s.log text (text ++ waiting_text s) (waiting_text s, refl) (closed course placed s text printed))
    completed-from (p ∷ left) course placed s text h printed =
        let (more, passes) = statement-passes s p.line p.statement h in
        let (used, next, is, none) = passes in
        cut course (placed ++ p ∷ left) s.log text (text ++ more) (more, refl)
        (one-passed p left course used placed s next more (text ++ more) is none
        (completed-from left (course ++ used) (placed ++ p ∷ []) next (text ++ more)
        (passed-on s next p.line p.statement used more h is)
        (HasPrinted.one_more used p next more printed is)))

    pub completed : (left : List Placed) (course : List ImportCourse) (placed : List Placed) (s : State) (text : List ℕ) → HasPrinted files rules start course placed s text → IsCompleted course (placed ++ left) s.log text
    completed left course placed s text printed = completed-from left course placed s text (reached start course placed s text printed) printed

    -- statements have a lawful output by which nothing is lost
    pub whole-output : (placed : List Placed) → IsCompleted [] placed [] []
    whole-output placed = completed placed [] [] (at_start start) [] HasPrinted.nothing

    -- what is written next is a prefix
    pub begun-next : (left : List Placed) (course : List ImportCourse) (placed : List Placed) (s : State) (text more : List ℕ) → HasPrinted files rules start course placed s text → IsNextPrefix files rules s left more → IsCompleted course (placed ++ left) s.log (text ++ more)
    begun-next [] course placed s text more printed prefix =
        subst (λ ps. IsCompleted course ps s.log (text ++ more)) (sym (append-nil placed))
        (cut course placed s.log (text ++ more) (text ++ waiting_text s) (prefix_behind text more (waiting_text s) prefix) (closed course placed s text printed))
    begun-next (p ∷ left) course placed s text more printed (inl none) =
        subst (IsCompleted course (placed ++ p ∷ left) s.log) (sym (ap (λ t. text ++ t) none ∙ append-nil text))
        (completed (p ∷ left) course placed s text printed)
    begun-next (p ∷ left) course placed s text more printed (inr (whole, of, prefix)) =
        let (used, next, is, none) = text-passes s p.line p.statement whole of in
        cut course (placed ++ p ∷ left) s.log (text ++ more) (text ++ whole) (prefix_behind text more whole prefix)
        (one-passed p left course used placed s next whole (text ++ whole) is none
        (completed left (course ++ used) (placed ++ p ∷ []) next (text ++ whole)
        (HasPrinted.one_more used p next whole printed is)))

    -- a begun text is a prefix of a lawful output
    pub begun-completed : (course : List ImportCourse) (placed : List Placed) (out : List ℕ) (b : IsBegun files rules start course placed out) → IsCompleted course placed b.state.log out
    begun-completed course placed out b =
        subst (λ ps. IsCompleted course ps b.state.log out) (sym b.split)
        (subst (IsCompleted course (b.passed ++ b.left) b.state.log) (sym b.out_is)
        (begun-next b.left course b.passed b.state b.text b.more b.printed b.prefix))

pub output-found : (files : List File) (rules : Rules) (boxes : List BoxTally) (placed : List Placed) → (course : List ImportCourse) × (out : List ℕ) × IsLawful files rules boxes course placed out × (losses_of course ≡ 0)
output-found files rules boxes placed =
    let h = whole-output files rules boxes placed in (h.whole_course, h.whole ++ waiting_text h.state, lawful-whole files rules boxes [] placed [] [] h, h.losses)
