-- The text of a statement over a version, and how the guided output passes it.
use Rattle.std.proofs.Common.{◌≡◌, ◌∙◌, inl, inr, ℕ, ◌^◌, ◌<◌, List, [], ◌∷◌, ◌++◌, All, Some, None, false, true, true≢false, codes, drop, length, refl, sym, ap, subst, append_assoc, arith}
use Rattle.std.specs.Prelude.{IfSome}
use Rattle.std.specs.Fmt.{decimal}
use Rattle.std.proofs.Math.Seq.{drop-append_seam}
use Rattle.std.proofs.lemmas.List.{append_cancel_left}
use Rattle.kb_edges.specs.Files.{File}
use Rattle.game_tree.specs.Tree.{IsTree}
use Rattle.node_position.specs.Games.{Game}
use Rattle.import_work.specs.Course.{ImportCourse}
use Rattle.query_script.specs.declared.statement.Statement.{Statement}
use Rattle.query_script.specs.declared.statement.Statement.TheVariants as statement
use Rattle.session_core.specs.Answers.{View}
use Rattle.session_core.specs.Lawful.{IsNamed, Rules, State, last_of, view_at, with_floor, with_session}
use Rattle.session_core.specs.SessionState.{SessionState}
use Rattle.session_core.specs.Watches.{WatchesFit}
use Rattle.session_core.proofs.OneAnswer.{answer-unique}
use Rattle.session_core.proofs.WatchAnswers.{answer-fits}
use Rattle.session_core.proofs.WatchLemmas.{free-none}
use Rattle.run_audit.specs.Asked.{HasNoNumber, HasNumber}
use Rattle.run_audit.specs.Chosen.{BeginsWithoutDigit, IsChosen, StandsAt}
use Rattle.run_audit.specs.Guided.{IsGuidedPass, MayName, NamesBehind, NamesChosen, asked_by, left_at_number, version_head}
use Rattle.run_audit.specs.Standing.{DepartsIn, DepartsInNumber}
use Rattle.run_audit.specs.Texts.{IsOver, IsTextOver}
use Rattle.run_audit.proofs.ChosenNumbers.{stands-behind, stands-one}
use Rattle.run_audit.proofs.Departures.{departs-behind, departs-longer}
use Rattle.run_audit.proofs.TextHeads.{begun-names, doubles-names, game-names, kept-names, missing-unnamed, opening-names, players-names, search-names, signature-names, taken-unnamed, told-names, until-names}

none_some : ¬ (false ≡ true)
none_some e = true≢false (sym e)

some_none : {asked : List ℕ} → ¬ (Some asked ≡ None)
some_none e = cc

-- a number that may be named is one of a version
pub may-named : (rules : Rules) (s : State) (own : Statement) (n : ℕ) → MayName rules s own n → IsNamed rules s n
may-named rules s (statement.Until awaited) n h = h.named
may-named rules s (statement.Import path) n h = h
may-named rules s (statement.Make games start) n h = h
may-named rules s statement.Wait n h = h
may-named rules s (statement.Together searches) n h = h
may-named rules s (statement.Search query filter) n h = h
may-named rules s (statement.Kept query) n h = h
may-named rules s (statement.Signature pattern) n h = h
may-named rules s statement.Players n h = h
may-named rules s statement.Doubles n h = h
may-named rules s (statement.Game number) n h = h
may-named rules s (statement.Opening shape depth least) n h = h
may-named rules s statement.Report n h = h
may-named rules s (statement.Retire name) n h = h
may-named rules s (statement.Watch name query filter) n h = h
may-named rules s (statement.Watched name) n h = h

-- what a statement asks whose text names a version
pub asked-some : (session : SessionState) (own : Statement) → IsOver own → HasNumber session own → (asked : List ℕ) × (asked_by own ≡ Some asked)
asked-some session (statement.Until number) over has = (codes "until " ++ decimal number, refl)
asked-some session (statement.Import path) over has = absurd over
asked-some session (statement.Make games start) over has = absurd over
asked-some session statement.Wait over has = absurd over
asked-some session (statement.Together searches) over has = absurd over
asked-some session (statement.Search query filter) over has = (codes "search", refl)
asked-some session (statement.Kept query) over has = (codes "kept", refl)
asked-some session (statement.Signature pattern) over has = (codes "signature", refl)
asked-some session statement.Players over has = (codes "players", refl)
asked-some session statement.Doubles over has = (codes "doubles", refl)
asked-some session (statement.Game number) over has = (codes "game " ++ decimal number, refl)
asked-some session (statement.Opening shape depth least) over has = (codes "opening", refl)
asked-some session statement.Report over has = absurd (none_some has)
asked-some session (statement.Retire name) over has = absurd (none_some has)
asked-some session (statement.Watch name query filter) over has = (codes "watch " ++ name, refl)
asked-some session (statement.Watched name) over has = (codes "watched " ++ name, refl)

-- ---- a statement whose text names a version

module _ (line : ℕ) (view : View) (session : SessionState) where
  -- its text names that version
  pub over-names : (own : Statement) (asked text : List ℕ) (after : SessionState) → IsOver own → HasNumber session own → asked_by own ≡ Some asked → IsTextOver line view session own text after → NamesBehind line asked text view.version
  over-names (statement.Until number) asked text after over has is of =
      let same : codes "until " ++ decimal number ≡ asked = cc in subst (λ (a : List ℕ). NamesBehind line a text view.version) same (until-names line number view.version text of.0)
  over-names (statement.Import path) asked text after over has is of = absurd over
  over-names (statement.Make games start) asked text after over has is of = absurd over
  over-names statement.Wait asked text after over has is of = absurd over
  over-names (statement.Together searches) asked text after over has is of = absurd over
  over-names (statement.Search query filter) asked text after over has is of =
      let same : codes "search" ≡ asked = cc in subst (λ (a : List ℕ). NamesBehind line a text view.version) same (search-names line view query filter session after text of)
  over-names (statement.Kept query) asked text after over has is of =
      let same : codes "kept" ≡ asked = cc in subst (λ (a : List ℕ). NamesBehind line a text view.version) same (kept-names line view query text of.0)
  over-names (statement.Signature pattern) asked text after over has is of =
      let same : codes "signature" ≡ asked = cc in subst (λ (a : List ℕ). NamesBehind line a text view.version) same (signature-names line view pattern.bytes text of.0)
  over-names statement.Players asked text after over has is of =
      let same : codes "players" ≡ asked = cc in subst (λ (a : List ℕ). NamesBehind line a text view.version) same (players-names line view text of.0)
  over-names statement.Doubles asked text after over has is of =
      let same : codes "doubles" ≡ asked = cc in subst (λ (a : List ℕ). NamesBehind line a text view.version) same (doubles-names line view text of.0)
  over-names (statement.Game number) asked text after over has is of =
      let same : codes "game " ++ decimal number ≡ asked = cc in subst (λ (a : List ℕ). NamesBehind line a text view.version) same (game-names line view number text of.0)
  over-names (statement.Opening shape depth least) asked text after over has is of =
      let same : codes "opening" ≡ asked = cc in subst (λ (a : List ℕ). NamesBehind line a text view.version) same (opening-names line view shape depth least text of.0)
  over-names statement.Report asked text after over has is of = absurd (none_some has)
  over-names (statement.Retire name) asked text after over has is of = absurd (none_some has)
  over-names (statement.Watch name query filter) asked text after over has is (inl begun) =
      let same : codes "watch " ++ name ≡ asked = cc in subst (λ (a : List ℕ). NamesBehind line a text view.version) same (begun-names line view name query filter session after text begun)
  over-names (statement.Watch name query filter) asked text after over has is (inr taken) = absurd (free-none name session.watches has taken.found)
  over-names (statement.Watched name) asked text after over has is (inl told) =
      let same : codes "watched " ++ name ≡ asked = cc in subst (λ (a : List ℕ). NamesBehind line a text view.version) same (told-names line view name session after text told)
  over-names (statement.Watched name) asked text after over has is (inr missing) = absurd (free-none name session.watches missing.free has)

-- what it leaves fits the games of the version
pub over-fits : (line : ℕ) (view : View) (session after : SessionState) (own : Statement) (text : List ℕ) → WatchesFit view.games session → IsTextOver line view session own text after → WatchesFit view.games after
over-fits line view session after (statement.Until number) text fit of = subst (WatchesFit view.games) (sym of.1) fit
over-fits line view session after (statement.Import path) text fit of = answer-fits line view session after (statement.Import path) text fit of
over-fits line view session after (statement.Make games start) text fit of = answer-fits line view session after (statement.Make games start) text fit of
over-fits line view session after statement.Wait text fit of = answer-fits line view session after statement.Wait text fit of
over-fits line view session after (statement.Together searches) text fit of = answer-fits line view session after (statement.Together searches) text fit of
over-fits line view session after (statement.Search query filter) text fit of = answer-fits line view session after (statement.Search query filter) text fit of
over-fits line view session after (statement.Kept query) text fit of = answer-fits line view session after (statement.Kept query) text fit of
over-fits line view session after (statement.Signature pattern) text fit of = answer-fits line view session after (statement.Signature pattern) text fit of
over-fits line view session after statement.Players text fit of = answer-fits line view session after statement.Players text fit of
over-fits line view session after statement.Doubles text fit of = answer-fits line view session after statement.Doubles text fit of
over-fits line view session after (statement.Game number) text fit of = answer-fits line view session after (statement.Game number) text fit of
over-fits line view session after (statement.Opening shape depth least) text fit of = answer-fits line view session after (statement.Opening shape depth least) text fit of
over-fits line view session after statement.Report text fit of = answer-fits line view session after statement.Report text fit of
over-fits line view session after (statement.Retire name) text fit of = answer-fits line view session after (statement.Retire name) text fit of
over-fits line view session after (statement.Watch name query filter) text fit of = answer-fits line view session after (statement.Watch name query filter) text fit of
over-fits line view session after (statement.Watched name) text fit of = answer-fits line view session after (statement.Watched name) text fit of

-- a statement has one text over a version
pub over-one : (line : ℕ) (view : View) → All (λ (g : Game). IsTree g.tree) view.games → (session : SessionState) (own : Statement) (a b : List ℕ) (after other : SessionState) → IsTextOver line view session own a after → IsTextOver line view session own b other → a ≡ b
over-one line view trees session (statement.Until number) a b after other one too = one.0 ∙ sym too.0
over-one line view trees session (statement.Import path) a b after other one too = (answer-unique line view trees session (statement.Import path) a b after other one too).0
over-one line view trees session (statement.Make games start) a b after other one too = (answer-unique line view trees session (statement.Make games start) a b after other one too).0
over-one line view trees session statement.Wait a b after other one too = (answer-unique line view trees session statement.Wait a b after other one too).0
over-one line view trees session (statement.Together searches) a b after other one too = (answer-unique line view trees session (statement.Together searches) a b after other one too).0
over-one line view trees session (statement.Search query filter) a b after other one too = (answer-unique line view trees session (statement.Search query filter) a b after other one too).0
over-one line view trees session (statement.Kept query) a b after other one too = (answer-unique line view trees session (statement.Kept query) a b after other one too).0
over-one line view trees session (statement.Signature pattern) a b after other one too = (answer-unique line view trees session (statement.Signature pattern) a b after other one too).0
over-one line view trees session statement.Players a b after other one too = (answer-unique line view trees session statement.Players a b after other one too).0
over-one line view trees session statement.Doubles a b after other one too = (answer-unique line view trees session statement.Doubles a b after other one too).0
over-one line view trees session (statement.Game number) a b after other one too = (answer-unique line view trees session (statement.Game number) a b after other one too).0
over-one line view trees session (statement.Opening shape depth least) a b after other one too = (answer-unique line view trees session (statement.Opening shape depth least) a b after other one too).0
over-one line view trees session statement.Report a b after other one too = (answer-unique line view trees session statement.Report a b after other one too).0
over-one line view trees session (statement.Retire name) a b after other one too = (answer-unique line view trees session (statement.Retire name) a b after other one too).0
over-one line view trees session (statement.Watch name query filter) a b after other one too = (answer-unique line view trees session (statement.Watch name query filter) a b after other one too).0
over-one line view trees session (statement.Watched name) a b after other one too = (answer-unique line view trees session (statement.Watched name) a b after other one too).0

-- ---- a text that names a version isn't there

-- what stands before the number isn't
pub head-departs : (line : ℕ) (asked left text : List ℕ) (n count : ℕ) → NamesBehind line asked text n → DepartsIn left (version_head line asked) count → DepartsIn left text count
head-departs line asked left text n count names h = subst (λ t. DepartsIn left t count) (sym names.text_is) (departs-longer left (version_head line asked) names.others count h)

-- the number isn't
pub number-departs : (line : ℕ) (asked left behind text : List ℕ) (n count : ℕ) → left ≡ version_head line asked ++ behind → NamesBehind line asked text n → DepartsInNumber behind n count → DepartsIn left text count
number-departs line asked left behind text n count is names h =
    subst (λ t. DepartsIn left t count) (sym names.text_is)
    (departs-behind left (version_head line asked) behind names.others count is
    (subst (λ t. DepartsIn behind t count) (sym names.stands.begins) (departs-to names.stands.behind names.stands.ended)))
  where
    departs-to : (rest : List ℕ) → BeginsWithoutDigit rest → DepartsIn behind (decimal n ++ rest) count
    departs-to [] ended = absurd ended
    departs-to (byte ∷ bytes) ended = h byte bytes ended

-- How the guided output passes such a statement: the version that it names, and what it leaves.
pub record OverPass (rules : Rules) (s : State) (line : ℕ) (own : Statement) (text : List ℕ) : Type 0 where
  pub number : ℕ
  pub after : SessionState
  pub may : MayName rules s own number
  pub over : IsTextOver line (view_at s number) s.session own text after

module _ (files : List File) (rules : Rules) (recorded : List ℕ) (s : State) (left : List ℕ) (line : ℕ) where
  abbrev Pass : Statement → List ImportCourse → List ℕ → State → Type 0
  Pass own used text next = IsGuidedPass files rules recorded s left line own used text next

  pub over-pass : (own : Statement) (used : List ImportCourse) (text : List ℕ) (next : State) → IsOver own → HasNumber s.session own → Pass own used text next → OverPass rules s line own text
  over-pass (statement.Until number) used text next over has pass = record { number = pass.0.0; after = s.session; may = pass.0.1; over = (pass.0.3, refl) }
  over-pass (statement.Import path) used text next over has pass = absurd over
  over-pass (statement.Make games start) used text next over has pass = absurd over
  over-pass statement.Wait used text next over has pass = absurd over
  over-pass (statement.Together searches) used text next over has pass = absurd over
  over-pass (statement.Search query filter) used text next over has pass = record { number = pass.0.0; after = pass.0.1; may = pass.0.2; over = pass.0.3 }
  over-pass (statement.Kept query) used text next over has pass = record { number = pass.0.0; after = pass.0.1; may = pass.0.2; over = pass.0.3 }
  over-pass (statement.Signature pattern) used text next over has pass = record { number = pass.0.0; after = pass.0.1; may = pass.0.2; over = pass.0.3 }
  over-pass statement.Players used text next over has pass = record { number = pass.0.0; after = pass.0.1; may = pass.0.2; over = pass.0.3 }
  over-pass statement.Doubles used text next over has pass = record { number = pass.0.0; after = pass.0.1; may = pass.0.2; over = pass.0.3 }
  over-pass (statement.Game number) used text next over has pass = record { number = pass.0.0; after = pass.0.1; may = pass.0.2; over = pass.0.3 }
  over-pass (statement.Opening shape depth least) used text next over has pass = record { number = pass.0.0; after = pass.0.1; may = pass.0.2; over = pass.0.3 }
  over-pass statement.Report used text next over has pass = absurd (none_some has)
  over-pass (statement.Retire name) used text next over has pass = absurd (none_some has)
  over-pass (statement.Watch name query filter) used text next over has (inl named, shown, takes) = record { number = named.0; after = named.1; may = named.2; over = inl named.3 }
  over-pass (statement.Watch name query filter) used text next over has (inr none, shown, takes) = absurd (free-none name s.session.watches has none.1.found)
  over-pass (statement.Watched name) used text next over has (inl named, shown, takes) = record { number = named.0; after = named.1; may = named.2; over = inl named.3 }
  over-pass (statement.Watched name) used text next over has (inr none, shown, takes) = absurd (free-none name s.session.watches none.1.free has)

  -- its number is the one that is taken
  pub pass-takes : (own : Statement) (used : List ImportCourse) (text : List ℕ) (next : State) → IsOver own → Pass own used text next → NamesChosen rules s left line own text
  pass-takes (statement.Until number) used text next over pass = pass.2
  pass-takes (statement.Import path) used text next over pass = absurd over
  pass-takes (statement.Make games start) used text next over pass = absurd over
  pass-takes statement.Wait used text next over pass = absurd over
  pass-takes (statement.Together searches) used text next over pass = absurd over
  pass-takes (statement.Search query filter) used text next over pass = pass.2
  pass-takes (statement.Kept query) used text next over pass = pass.2
  pass-takes (statement.Signature pattern) used text next over pass = pass.2
  pass-takes statement.Players used text next over pass = pass.2
  pass-takes statement.Doubles used text next over pass = pass.2
  pass-takes (statement.Game number) used text next over pass = pass.2
  pass-takes (statement.Opening shape depth least) used text next over pass = pass.2
  pass-takes statement.Report used text next over pass = pass.2
  pass-takes (statement.Retire name) used text next over pass = pass.2
  pass-takes (statement.Watch name query filter) used text next over pass = pass.2
  pass-takes (statement.Watched name) used text next over pass = pass.2

  -- so a text over a version is passed
  pub pass-over : (own : Statement) (text : List ℕ) (n : ℕ) (after : SessionState) → IsOver own → HasNumber s.session own → MayName rules s own n → IsTextOver line (view_at s n) s.session own text after → NamesChosen rules s left line own text
      → Pass own [] text (with_session (with_floor s n) after)
  pass-over (statement.Until number) text n after over has may of takes = ((n, may, refl, of.0, ap (with_session (with_floor s n)) of.1), tt, takes)
  pass-over (statement.Import path) text n after over has may of takes = absurd over
  pass-over (statement.Make games start) text n after over has may of takes = absurd over
  pass-over statement.Wait text n after over has may of takes = absurd over
  pass-over (statement.Together searches) text n after over has may of takes = absurd over
  pass-over (statement.Search query filter) text n after over has may of takes = ((n, after, may, of, refl, refl), tt, takes)
  pass-over (statement.Kept query) text n after over has may of takes = ((n, after, may, of, refl, refl), tt, takes)
  pass-over (statement.Signature pattern) text n after over has may of takes = ((n, after, may, of, refl, refl), tt, takes)
  pass-over statement.Players text n after over has may of takes = ((n, after, may, of, refl, refl), tt, takes)
  pass-over statement.Doubles text n after over has may of takes = ((n, after, may, of, refl, refl), tt, takes)
  pass-over (statement.Game number) text n after over has may of takes = ((n, after, may, of, refl, refl), tt, takes)
  pass-over (statement.Opening shape depth least) text n after over has may of takes = ((n, after, may, of, refl, refl), tt, takes)
  pass-over statement.Report text n after over has may of takes = absurd (none_some has)
  pass-over (statement.Retire name) text n after over has may of takes = absurd (none_some has)
  pass-over (statement.Watch name query filter) text n after over has may (inl begun) takes = (inl (n, after, may, begun, refl, refl), tt, takes)
  pass-over (statement.Watch name query filter) text n after over has may (inr taken) takes = absurd (free-none name s.session.watches has taken.found)
  pass-over (statement.Watched name) text n after over has may (inl told) takes = (inl (n, after, may, told, refl, refl), tt, takes)
  pass-over (statement.Watched name) text n after over has may (inr missing) takes = absurd (free-none name s.session.watches missing.free has)

  -- the number that stands in the record is taken
  pub takes-read : (own : Statement) (text rest behind : List ℕ) (n : ℕ) → last_of s < 2 ^ 64 → ((asked : List ℕ) → asked_by own ≡ Some asked → left ≡ version_head line asked ++ behind) → left ≡ text ++ rest → MayName rules s own n → StandsAt behind n → NamesChosen rules s left line own text
  takes-read own text rest behind n few head next may stands = elim (asked_by own) as (λ o. o ≡ asked_by own → IfSome o (λ asked. (number : ℕ) → MayName rules s own number → NamesBehind line asked text number → IsChosen (MayName rules s own) (left_at_number line asked left) number)) [
    | None ↦ λ is. tt
    | Some asked ↦ λ is. λ number also names.
        let front : left ≡ version_head line asked ++ behind = head asked (sym is) in
        let whole : version_head line asked ++ behind ≡ version_head line asked ++ (names.others ++ rest) = sym front ∙ next ∙ ap (λ l. l ++ rest) names.text_is ∙ append_assoc (version_head line asked) names.others rest in
        let same = append_cancel_left (version_head line asked) behind (names.others ++ rest) whole in
        let there = subst (λ l. StandsAt l number) (sym same) (stands-behind names.others rest number names.stands) in
        let to = (may-named rules s own number also).to in
        let up = (may-named rules s own n may).to in
        let one = stands-one behind n number (omega (arith, few, up)) (omega (arith, few, to)) stands there in
        let here : left_at_number line asked left ≡ behind = ap (drop (length (version_head line asked))) front ∙ drop-append_seam (version_head line asked) behind in
        subst (IsChosen (MayName rules s own) (left_at_number line asked left)) one
        (subst (λ l. IsChosen (MayName rules s own) l n) (sym here) (IsChosen.read may stands))
  ] refl

  -- ---- a statement whose text names none

  -- its text is passed, over whichever version it was made
  pub pass-none : (own : Statement) (view : View) (text : List ℕ) (after : SessionState) → IsOver own → HasNoNumber s.session own → IsTextOver line view s.session own text after → Pass own [] text (with_session s after)
  pass-none (statement.Until number) view text after over none of = absurd (some_none none)
  pass-none (statement.Import path) view text after over none of = absurd over
  pass-none (statement.Make games start) view text after over none of = absurd over
  pass-none statement.Wait view text after over none of = absurd over
  pass-none (statement.Together searches) view text after over none of = absurd over
  pass-none (statement.Search query filter) view text after over none of = absurd (some_none none)
  pass-none (statement.Kept query) view text after over none of = absurd (some_none none)
  pass-none (statement.Signature pattern) view text after over none of = absurd (some_none none)
  pass-none statement.Players view text after over none of = absurd (some_none none)
  pass-none statement.Doubles view text after over none of = absurd (some_none none)
  pass-none (statement.Game number) view text after over none of = absurd (some_none none)
  pass-none (statement.Opening shape depth least) view text after over none of = absurd (some_none none)
  pass-none statement.Report view text after over none of = ((of.0, refl, ap (with_session s) of.1), tt, tt)
  pass-none (statement.Retire name) view text after over none of = ((after, of, refl, refl), tt, tt)
  pass-none (statement.Watch name query filter) view text after over none (inl begun) = absurd (free-none name s.session.watches begun.added.free none)
  pass-none (statement.Watch name query filter) view text after over none (inr taken) = (inr (after, taken, refl, refl), tt, λ number may names. absurd (taken-unnamed line name s.session after text number taken names))
  pass-none (statement.Watched name) view text after over none (inl told) = absurd (free-none name s.session.watches none told.advanced.found)
  pass-none (statement.Watched name) view text after over none (inr missing) = (inr (after, missing, refl, refl), tt, λ number may names. absurd (missing-unnamed line name s.session after text number missing names))

  -- and what is passed is such a text
  pub none-pass : (own : Statement) (view : View) (used : List ImportCourse) (text : List ℕ) (next : State) → IsOver own → HasNoNumber s.session own → Pass own used text next → (after : SessionState) × IsTextOver line view s.session own text after
  none-pass (statement.Until number) view used text next over none pass = absurd (some_none none)
  none-pass (statement.Import path) view used text next over none pass = absurd over
  none-pass (statement.Make games start) view used text next over none pass = absurd over
  none-pass statement.Wait view used text next over none pass = absurd over
  none-pass (statement.Together searches) view used text next over none pass = absurd over
  none-pass (statement.Search query filter) view used text next over none pass = absurd (some_none none)
  none-pass (statement.Kept query) view used text next over none pass = absurd (some_none none)
  none-pass (statement.Signature pattern) view used text next over none pass = absurd (some_none none)
  none-pass statement.Players view used text next over none pass = absurd (some_none none)
  none-pass statement.Doubles view used text next over none pass = absurd (some_none none)
  none-pass (statement.Game number) view used text next over none pass = absurd (some_none none)
  none-pass (statement.Opening shape depth least) view used text next over none pass = absurd (some_none none)
  none-pass statement.Report view used text next over none pass = (s.session, (pass.0.0, refl))
  none-pass (statement.Retire name) view used text next over none pass = (pass.0.0, pass.0.1)
  none-pass (statement.Watch name query filter) view used text next over none (inl named, shown, takes) = absurd (free-none name s.session.watches named.3.added.free none)
  none-pass (statement.Watch name query filter) view used text next over none (inr other, shown, takes) = (other.0, inr other.1)
  none-pass (statement.Watched name) view used text next over none (inl named, shown, takes) = absurd (free-none name s.session.watches none named.3.advanced.found)
  none-pass (statement.Watched name) view used text next over none (inr other, shown, takes) = (other.0, inr other.1)
