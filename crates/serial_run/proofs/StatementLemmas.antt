-- What statements print and where they lead, by what is kept of a state.
use Rattle.std.proofs.Common.{◌≡◌, ◌≢◌, inl, inr, ℕ, ◌+◌, ◌≤◌, List, [], ◌∷◌, ◌++◌, Option, Some, None, length, map, replicate, refl, sym, ap, ◌∙◌, subst, append_assoc, length-append, arith}
use Rattle.std.specs.Prelude.{max}
use Rattle.std.specs.Option.{option_map_or}
use Rattle.std.proofs.Math.Nat.{max-le}
use Rattle.std.proofs.lemmas.Grind.{flat_map-append}
use Rattle.std.proofs.lemmas.List.{append-nil, take_all}
use Rattle.kb_edges.specs.Faults.{RoseBy}
use Rattle.kb_edges.specs.Files.{File}
use Rattle.query_script.specs.declared.statement.Placed.{Placed}
use Rattle.query_script.specs.declared.statement.PlacedSearch.{PlacedSearch}
use Rattle.query_script.specs.declared.statement.Statement.{Statement}
use Rattle.query_script.specs.declared.statement.Statement.TheVariants as statement
use Rattle.query_script.specs.Texts.{until_text, wait_text}
use Rattle.session_core.specs.Answers.{IsAnswer, IsSearched, View, boxes_text}
use Rattle.node_position.specs.Games.{Game}
use Rattle.import_work.specs.Course.{Finding, ImportCourse, IsImported, losses_of, trees_in}
use Rattle.import_work.specs.declared.source.Source.{Source}
use Rattle.import_work.specs.declared.source.Source.TheVariants as source
use Rattle.session_core.specs.Lawful.{AreSearched, IsNamed, IsPassed, IsStatementText, Rules, State, after_import, report_printed, last_of, view_at, waiting_text, with_floor, with_session}
use Rattle.session_core.specs.SessionState.{SessionState}
use Rattle.session_core.specs.Sources.{IsNoImport, statement_of}
use Rattle.session_core.proofs.StateLemmas.{floor-joined, floor-named, greatest-le, last_named, opens-passed}
use Rattle.import_work.specs.Log.{games_of_segments, segments_of}
use Rattle.import_work.specs.Outcome.{counts_of}
use Rattle.serial_run.specs.Steps.{AreAnswered, AreAnsweredFrom, IsKeptOfState, import_at, IsTextTo, Kept, LeadsOn, LeavesBase, kept_report, view_of}
use Rattle.session_core.specs.ImportTexts.{import_line_text, report_text}
use Rattle.import_work.proofs.FileLemmas.{rose_by_none}

-- the last version is seen as it is kept
pub view_kept : (s : State) (kept : Kept) (session : SessionState) → IsKeptOfState s kept session → view_at s (last_of s) ≡ view_of kept
view_kept s kept session is =
    ap (λ (gs : List Game). record { version = last_of s; games = gs }) (ap games_of_segments (take_all (last_of s) s.log (omega arith)) ∙ sym is.games)
    ∙ ap (λ (n : ℕ). record { version = n; games = kept.games }) (sym is.version)

-- ---- the searches of a block

-- one search more
pub AreAnsweredFrom-more : (views : List View) (view : View) (searches : List PlacedSearch) (p : PlacedSearch) (session between after : SessionState) (text more : List ℕ) → AreAnsweredFrom views searches session text between
    → IsSearched p.line view p.query p.filter between more after → AreAnsweredFrom (views ++ view ∷ []) (searches ++ p ∷ []) session (text ++ more) after
AreAnsweredFrom-more [] view [] p session between after text more none is =
    (more, after, [], subst (λ told. IsSearched p.line view p.query p.filter told more after) none.1 is, (refl, refl), ap (λ t. t ++ more) none.0 ∙ sym (append-nil more))
AreAnsweredFrom-more [] view (q ∷ searches) p session between after text more h is = absurd h
AreAnsweredFrom-more (v ∷ views) view [] p session between after text more h is = absurd h
AreAnsweredFrom-more (v ∷ views) view (q ∷ searches) p session between after text more h is =
    (h.0, h.1, h.2 ++ more, h.3, AreAnsweredFrom-more views view searches p h.1 between after h.2 more h.4 is, ap (λ t. t ++ more) h.5 ∙ append_assoc h.0 h.2 more)

-- the same is seen by each
pub seen-alike : (view : View) (searches : List PlacedSearch) → replicate (length searches) view ≡ map (λ (p : PlacedSearch). view) searches
seen-alike view [] = refl
seen-alike view (p ∷ ps) = ap (λ (views : List View). view ∷ views) (seen-alike view ps)

-- each of these is what is seen in a version that may be named
abbrev pub AreNamed : Rules → State → List View → Type 0
AreNamed rules s [] = Unit {0}
AreNamed rules s (view ∷ views) = IsNamed rules s view.version × (view_at s view.version ≡ view) × AreNamed rules s views

-- the greatest of their numbers
abbrev pub greatest_of : List View → ℕ
greatest_of [] = 0
greatest_of (view ∷ views) = max view.version (greatest_of views)

-- searches over these are those of a block
pub AreAnsweredFrom-searched : (rules : Rules) (s : State) (views : List View) (searches : List PlacedSearch) (session after : SessionState) (text : List ℕ) → AreNamed rules s views → AreAnsweredFrom views searches session text after → AreSearched rules s searches session (greatest_of views) text after
AreAnsweredFrom-searched rules s [] [] session after text named h = (refl, h.0, h.1)
AreAnsweredFrom-searched rules s [] (p ∷ ps) session after text named h = absurd h
AreAnsweredFrom-searched rules s (view ∷ views) [] session after text named h = absurd h
AreAnsweredFrom-searched rules s (view ∷ views) (p ∷ ps) session after text named h = (
  view.version,
  h.0,
  h.1,
  greatest_of views,
  h.2,
  named.0,
  subst (λ (v : View). IsSearched p.line v p.query p.filter session h.0 h.1) (sym named.1) h.3,
  AreAnsweredFrom-searched rules s views ps h.1 after h.2 named.2 h.4,
  refl,
  h.5,
)

-- the last version may be named by each
last-alike : (rules : Rules) (s : State) (view : View) → IsNamed rules s view.version → view_at s view.version ≡ view → (searches : List PlacedSearch) → AreNamed rules s (map (λ (p : PlacedSearch). view) searches)
last-alike rules s view named is [] = tt
last-alike rules s view named is (p ∷ ps) = (named, is, last-alike rules s view named is ps)

-- the report that waits is that which is kept
pub waiting_is : (s : State) (kept : Kept) (session : SessionState) → IsKeptOfState s kept session → kept_report kept ≡ waiting_text s
waiting_is s kept session is = ap (λ (w : Option (List ℕ)). option_map_or (λ report. report) w []) is.waiting

-- a text with which the session tell something is a text
pub text-told : (files : List File) (rules : Rules) (s : State) (line : ℕ) (own : Statement) (text : List ℕ) (told : SessionState) → IsTextTo files rules s line own text told → IsStatementText files rules s line own text
text-told files rules s line (statement.Import path) text told of = of.0
text-told files rules s line (statement.Make games start) text told of = of.0
text-told files rules s line statement.Wait text told of = (of.0, of.1, of.2)
text-told files rules s line (statement.Until number) text told of = (of.0, of.1, of.2)
text-told files rules s line (statement.Search query filter) text told of = (of.0, of.1, of.2)
text-told files rules s line (statement.Together searches) text told of = (of.0, of.1, of.2)
text-told files rules s line (statement.Kept query) text told of = (of.0, of.1, of.2)
text-told files rules s line (statement.Signature pattern) text told of = (of.0, of.1, of.2)
text-told files rules s line statement.Players text told of = (of.0, of.1, of.2)
text-told files rules s line statement.Doubles text told of = (of.0, of.1, of.2)
text-told files rules s line (statement.Game number) text told of = (of.0, of.1, of.2)
text-told files rules s line (statement.Opening shape depth least) text told of = (of.0, of.1, of.2)
text-told files rules s line statement.Report text told of = (of.0, of.1, of.2)
text-told files rules s line (statement.Retire name) text told of = (of.0, of.1, of.2)
text-told files rules s line (statement.Watch name query filter) text told of = (of.0, of.1, of.2)
text-told files rules s line (statement.Watched name) text told of = (of.0, of.1, of.2)

module _ (rules : Rules) (files : List File) (s : State) (kept : Kept) (session told : SessionState) (is : IsKeptOfState s kept session) (line : ℕ) (text : List ℕ) where
  -- ---- the text of a statement

  pub text-import : (from : Source) → text ≡ kept_report kept ++ import_line_text line from → told ≡ session → IsTextTo files rules s line (statement_of from) text told
  text-import (source.Under path) of same = (of ∙ ap (λ t. t ++ import_line_text line (source.Under path)) (waiting_is s kept session is), same ∙ sym is.session_is)
  text-import (source.Made games start) of same = (of ∙ ap (λ t. t ++ import_line_text line (source.Made games start)) (waiting_is s kept session is), same ∙ sym is.session_is)

  pub text-wait : text ≡ kept_report kept ++ wait_text line kept.version → told ≡ session → IsTextTo files rules s line statement.Wait text told
  text-wait of same = (
    [],
    with_floor (report_printed s) (last_of s),
    (refl, of ∙ ap (λ t. t ++ wait_text line kept.version) (waiting_is s kept session is) ∙ ap (λ n. waiting_text s ++ wait_text line n) is.version, refl),
    is.session_is ∙ sym same,
  )

  pub text-until : (number : ℕ) → text ≡ until_text line number kept.version → told ≡ session → IsTextTo files rules s line (statement.Until number) text told
  text-until number of same =
      ([], with_floor s (last_of s), (last_of s, record { named = last_named rules s is.floor; reached = inr refl }, refl, of ∙ ap (λ n. until_text line number n) is.version, refl), is.session_is ∙ sym same)

  pub text-together : (searches : List PlacedSearch) → AreAnswered (view_of kept) searches session text told → IsTextTo files rules s line (statement.Together searches) text told
  text-together searches block =
      let views = map (λ (p : PlacedSearch). view_of kept) searches in
      let named : IsNamed rules s kept.version = subst (IsNamed rules s) (sym is.version) (last_named rules s is.floor) in
      let seen : view_at s kept.version ≡ view_of kept = ap (view_at s) is.version ∙ view_kept s kept session is in
      let are = AreAnsweredFrom-searched rules s views searches session told text (last-alike rules s (view_of kept) named seen searches) block in
      ([], with_session (with_floor s (greatest_of views)) told, (greatest_of views, told, subst (λ (from : SessionState). AreSearched rules s searches from (greatest_of views) text told) (sym is.session_is) are, refl, refl), refl)

  -- one that is answered from the games of a version: it names the last one
  answered-here : (own : Statement) → IsAnswer line (view_of kept) session own text told → (n : ℕ) × (after : SessionState) × IsNamed rules s n × IsAnswer line (view_at s n) s.session own text after × ◌≡◌ {A = List ImportCourse} [] []
      × (with_session (with_floor s (last_of s)) told ≡ with_session (with_floor s n) after)
  answered-here own of = (last_of s, told, last_named rules s is.floor, rw (view_kept s kept session is, is.session_is) of, refl, refl)

  pub text-answered : (own : Statement) → IsAnswer line (view_of kept) session own text told → IsTextTo files rules s line own text told
  text-answered (statement.Search query filter) of = ([], with_session (with_floor s (last_of s)) told, answered-here (statement.Search query filter) of, refl)
  text-answered (statement.Kept query) of = ([], with_session (with_floor s (last_of s)) told, answered-here (statement.Kept query) of, refl)
  text-answered (statement.Signature pattern) of = ([], with_session (with_floor s (last_of s)) told, answered-here (statement.Signature pattern) of, refl)
  text-answered statement.Players of = ([], with_session (with_floor s (last_of s)) told, answered-here statement.Players of, refl)
  text-answered statement.Doubles of = ([], with_session (with_floor s (last_of s)) told, answered-here statement.Doubles of, refl)
  text-answered (statement.Game number) of = ([], with_session (with_floor s (last_of s)) told, answered-here (statement.Game number) of, refl)
  text-answered (statement.Opening shape depth least) of = ([], with_session (with_floor s (last_of s)) told, answered-here (statement.Opening shape depth least) of, refl)
  text-answered statement.Report of = ([], s, (of.0 ∙ ap (λ (left : SessionState). boxes_text line left.boxes) (sym is.session_is), refl, refl), is.session_is ∙ sym of.1)
  text-answered (statement.Retire name) of = ([], with_session s told, (told, rw is.session_is of, refl, refl), refl)
  text-answered (statement.Watch name query filter) (inl of) =
      ([], with_session (with_floor s (last_of s)) told, inl (last_of s, told, last_named rules s is.floor, rw (view_kept s kept session is, is.session_is) of, refl, refl), refl)
  text-answered (statement.Watch name query filter) (inr of) = ([], with_session s told, inr (told, rw is.session_is of, refl, refl), refl)
  text-answered (statement.Watched name) (inl of) =
      ([], with_session (with_floor s (last_of s)) told, inl (last_of s, told, last_named rules s is.floor, rw (view_kept s kept session is, is.session_is) of, refl, refl), refl)
  text-answered (statement.Watched name) (inr of) = ([], with_session s told, inr (told, rw is.session_is of, refl, refl), refl)
  text-answered (statement.Import path) of = absurd of
  text-answered (statement.Make games start) of = absurd of
  text-answered statement.Wait of = absurd of
  text-answered (statement.Until number) of = absurd of
  text-answered (statement.Together searches) of = absurd of

-- ---- where a statement leads

-- one that is no import and no wait leaves the base
pub leaves-base : (own : Statement) → IsNoImport own → own ≢ statement.Wait → LeavesBase own
leaves-base (statement.Import path) no_import no_wait = absurd no_import
leaves-base (statement.Make games start) no_import no_wait = absurd no_import
leaves-base statement.Wait no_import no_wait = absurd (no_wait refl)
leaves-base (statement.Until number) no_import no_wait = tt
leaves-base (statement.Together searches) no_import no_wait = tt
leaves-base (statement.Search query filter) no_import no_wait = tt
leaves-base (statement.Kept query) no_import no_wait = tt
leaves-base (statement.Signature pattern) no_import no_wait = tt
leaves-base statement.Players no_import no_wait = tt
leaves-base statement.Doubles no_import no_wait = tt
leaves-base (statement.Game number) no_import no_wait = tt
leaves-base (statement.Opening shape depth least) no_import no_wait = tt
leaves-base statement.Report no_import no_wait = tt
leaves-base (statement.Retire name) no_import no_wait = tt
leaves-base (statement.Watch name query filter) no_import no_wait = tt
leaves-base (statement.Watched name) no_import no_wait = tt

module _ (rules : Rules) (files : List File) (kept : Kept) (line : ℕ) (text : List ℕ) (before now : ℕ) (later : before ≤ now) where
  -- no import was made, and the same is kept, whatever the session tell
  abbrev IsLed : State → List ImportCourse → State → Type 0
  IsLed s used next = ◌≡◌ {A = List ImportCourse} used [] × IsKeptOfState next kept next.session

  named : (s next : State) (n : ℕ) (session after : SessionState) → IsKeptOfState s kept session → n ≤ last_of s → next ≡ with_session (with_floor s n) after → IsKeptOfState next kept next.session
  named s next n session after is to same =
      subst (λ (t : State). IsKeptOfState t kept t.session) (sym same)
      (record { version = is.version; games = is.games; waiting = is.waiting; floor = floor-named s n is.floor to; session_is = refl })

  unnamed : (s next : State) (session after : SessionState) → IsKeptOfState s kept session → next ≡ with_session s after → IsKeptOfState next kept next.session
  unnamed s next session after is same =
      subst (λ (t : State). IsKeptOfState t kept t.session) (sym same)
      (record { version = is.version; games = is.games; waiting = is.waiting; floor = is.floor; session_is = refl })

  led : (s next : State) (session : SessionState) (used : List ImportCourse) → IsKeptOfState s kept session → (own : Statement) → LeavesBase own → IsPassed files rules s line own used text next → IsLed s used next
  led s next session used is (statement.Import path) still of = absurd still
  led s next session used is (statement.Make games start) still of = absurd still
  led s next session used is statement.Wait still of = absurd still
  led s next session used is (statement.Until number) still of = (of.2, named s next of.0 session s.session is of.1.named.to of.4)
  led s next session used is (statement.Together searches) still of = (of.3, named s next of.0 session of.1 is (greatest-le rules s searches s.session of.1 of.0 text of.2) of.4)
  led s next session used is (statement.Search query filter) still of = (of.4, named s next of.0 session of.1 is of.2.to of.5)
  led s next session used is (statement.Kept query) still of = (of.4, named s next of.0 session of.1 is of.2.to of.5)
  led s next session used is (statement.Signature pattern) still of = (of.4, named s next of.0 session of.1 is of.2.to of.5)
  led s next session used is statement.Players still of = (of.4, named s next of.0 session of.1 is of.2.to of.5)
  led s next session used is statement.Doubles still of = (of.4, named s next of.0 session of.1 is of.2.to of.5)
  led s next session used is (statement.Game number) still of = (of.4, named s next of.0 session of.1 is of.2.to of.5)
  led s next session used is (statement.Opening shape depth least) still of = (of.4, named s next of.0 session of.1 is of.2.to of.5)
  led s next session used is statement.Report still of =
      (of.1, subst (λ (t : State). IsKeptOfState t kept t.session) (sym of.2) (record { version = is.version; games = is.games; waiting = is.waiting; floor = is.floor; session_is = refl }))
  led s next session used is (statement.Retire name) still of = (of.2, unnamed s next session of.0 is of.3)
  led s next session used is (statement.Watch name query filter) still (inl of) = (of.4, named s next of.0 session of.1 is of.2.to of.5)
  led s next session used is (statement.Watch name query filter) still (inr of) = (of.2, unnamed s next session of.0 is of.3)
  led s next session used is (statement.Watched name) still (inl of) = (of.4, named s next of.0 session of.1 is of.2.to of.5)
  led s next session used is (statement.Watched name) still (inr of) = (of.2, unnamed s next session of.0 is of.3)

  -- so it leads on
  led_on : (own : Statement) (s : State) (session told : SessionState) → LeavesBase own → IsKeptOfState s kept session → (used : List ImportCourse) (next : State) → IsPassed files rules s line own used text next → next.session ≡ told →
      (used : List ImportCourse) × (next : State) × IsKeptOfState next kept told × IsPassed files rules s line own used text next × RoseBy (losses_of used) before now
  led_on own s session told still is used next of tells =
      let on = led s next session used is own still of in
      (used, next, subst (IsKeptOfState next kept) tells on.1, of, subst (λ (u : List ImportCourse). RoseBy (losses_of u) before now) (sym on.0) (rose_by_none before now later))

  pub leads-still : (own : Statement) → LeavesBase own → LeadsOn files rules kept line own text kept before now
  leads-still (statement.Import path) still = absurd still
  leads-still (statement.Make games start) still = absurd still
  leads-still statement.Wait still = absurd still
  leads-still (statement.Until number) still = λ session told s is of. led_on (statement.Until number) s session told still is of.0 of.1 of.2 of.3
  leads-still (statement.Together searches) still = λ session told s is of. led_on (statement.Together searches) s session told still is of.0 of.1 of.2 of.3
  leads-still (statement.Search query filter) still = λ session told s is of. led_on (statement.Search query filter) s session told still is of.0 of.1 of.2 of.3
  leads-still (statement.Kept query) still = λ session told s is of. led_on (statement.Kept query) s session told still is of.0 of.1 of.2 of.3
  leads-still (statement.Signature pattern) still = λ session told s is of. led_on (statement.Signature pattern) s session told still is of.0 of.1 of.2 of.3
  leads-still statement.Players still = λ session told s is of. led_on statement.Players s session told still is of.0 of.1 of.2 of.3
  leads-still statement.Doubles still = λ session told s is of. led_on statement.Doubles s session told still is of.0 of.1 of.2 of.3
  leads-still (statement.Game number) still = λ session told s is of. led_on (statement.Game number) s session told still is of.0 of.1 of.2 of.3
  leads-still (statement.Opening shape depth least) still = λ session told s is of. led_on (statement.Opening shape depth least) s session told still is of.0 of.1 of.2 of.3
  leads-still statement.Report still = λ session told s is of. led_on statement.Report s session told still is of.0 of.1 of.2 of.3
  leads-still (statement.Retire name) still = λ session told s is of. led_on (statement.Retire name) s session told still is of.0 of.1 of.2 of.3
  leads-still (statement.Watch name query filter) still = λ session told s is of. led_on (statement.Watch name query filter) s session told still is of.0 of.1 of.2 of.3
  leads-still (statement.Watched name) still = λ session told s is of. led_on (statement.Watched name) s session told still is of.0 of.1 of.2 of.3

  pub leads-wait : LeadsOn files rules kept line statement.Wait text (record { version = kept.version; games = kept.games; waiting = None }) before now
  leads-wait = λ session told s is of. (
    [],
    with_floor (report_printed s) (last_of s),
    record { version = is.version; games = is.games; waiting = refl; floor = max-le (floor-joined s.waiting s.floor (last_of s) is.floor) (omega arith); session_is = ap (λ (t : State). t.session) (sym of.2.2) ∙ of.3 },
    (refl, of.2.1, refl),
    rose_by_none before now later,
  )

-- ---- a statement that begins an import

module _ (files : List File) (rules : Rules) (s : State) (line : ℕ) where
  pub opens-text : (from : Source) (text : List ℕ) (told : SessionState) → IsTextTo files rules s line (statement_of from) text told → (text ≡ waiting_text s ++ import_line_text line from) × (told ≡ s.session)
  opens-text (source.Under path) text told of = of
  opens-text (source.Made games start) text told of = of

-- a statement that begins an import, by its line and its source
pub placed_as : (p : Placed) (from : Source) → p.statement ≡ statement_of from → import_at p.line from ≡ p
placed_as p from is = λ i. record { line = p.line; statement = (sym is) i }

-- an import that found this leads on to what is kept with its games and its report
pub leads-import : (rules : Rules) (files : List File) (kept : Kept) (line : ℕ) (from : Source) (text : List ℕ) (before now : ℕ) (entry : ImportCourse) (finding : Finding) (games : List Game) (report : List ℕ) (version : ℕ) →
    IsImported files from (counts_of (trees_in kept.games)) entry finding → version ≡ kept.version + length (segments_of rules.batch finding) → games ≡ kept.games ++ games_of_segments (segments_of rules.batch finding) → report ≡ report_text line finding version →
    RoseBy (losses_of (entry ∷ [])) before now →
    LeadsOn files rules kept line (statement_of from) text (record { version = version; games = games; waiting = Some report }) before now
leads-import rules files kept line from text before now entry finding games report version found version_is games_are report_is paid = λ session told s is of.
    let own = opens-text files rules s line from text told of in
    let counted : version ≡ length (s.log ++ segments_of rules.batch finding) = version_is ∙ ap (λ n. n + length (segments_of rules.batch finding)) is.version ∙ sym (length-append s.log (segments_of rules.batch finding)) in (
      entry ∷ [],
      after_import rules s line finding,
      record {
        version = counted;
        games = games_are ∙ ap (λ gs. gs ++ games_of_segments (segments_of rules.batch finding)) is.games ∙ sym (flat_map-append (λ (g : List Game). g) s.log (segments_of rules.batch finding));
        waiting = ap (λ r. Some r) (report_is ∙ ap (λ n. report_text line finding n) counted);
        floor = rw length-append (omega (arith, floor-joined s.waiting s.floor (last_of s) is.floor));
        session_is = sym own.1;
      },
      opens-passed files rules s line from (entry ∷ []) text (after_import rules s line finding) (entry, finding, refl, subst (λ gs. IsImported files from (counts_of (trees_in gs)) entry finding) is.games found, own.0, refl),
      paid,
    )
