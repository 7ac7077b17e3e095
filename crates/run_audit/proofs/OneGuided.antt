-- A record has one guided output only.
use Rattle.std.proofs.Common.{◌≡◌, ◌∙◌, inl, inr, ℕ, ◌^◌, ◌<◌, List, [], ◌∷◌, ◌++◌, drop, length, codes, refl, sym, ap, subst, arith}
use Rattle.std.specs.Prelude.{max}
use Rattle.std.specs.Fmt.{decimal}
use Rattle.kb_geometry.proofs.Lists.{push_not_nil, push_same}
use Rattle.kb_edges.specs.Files.{File}
use Rattle.hit_collectors.specs.Tallies.{BoxTally}
use Rattle.query_script.specs.Texts.{until_text}
use Rattle.query_script.specs.declared.statement.Placed.{Placed}
use Rattle.query_script.specs.declared.statement.PlacedSearch.{PlacedSearch}
use Rattle.query_script.specs.declared.statement.Statement.{Statement}
use Rattle.query_script.specs.declared.statement.Statement.TheVariants as statement
use Rattle.import_work.specs.Course.{ImportCourse, IsImported, trees_in}
use Rattle.import_work.specs.Log.{games_of_segments}
use Rattle.import_work.specs.Outcome.{counts_of}
use Rattle.import_work.specs.declared.source.Source.{Source}
use Rattle.import_work.specs.declared.source.Source.TheVariants as source
use Rattle.import_work.proofs.OneFinding.{finding-one}
use Rattle.session_core.specs.Answers.{IsAnswer, IsSearched, IsWatchBegun, IsWatchTold, View}
use Rattle.session_core.specs.Lawful.{IsAwaited, IsNamed, NamesVersion, OpensImport, Rules, State, after_import, last_of, view_at, waiting_text, with_floor, with_session}
use Rattle.session_core.specs.SessionState.{SessionState}
use Rattle.session_core.proofs.OneAnswer.{answer-unique, retired-one, search-one}
use Rattle.session_core.proofs.WatchAnswers.{begun-one, missing-one, taken-one, told-one}
use Rattle.session_core.proofs.WatchLemmas.{free-none}
use Rattle.session_core.proofs.WholeOutputs.{IsReached, reached, trees-at}
use Rattle.run_audit.specs.Chosen.{IsChosen}
use Rattle.run_audit.specs.Guided.{AreGuidedSearches, HasGuided, IsGuided, IsGuidedPass, NamesBehind, left_at_number}
use Rattle.run_audit.proofs.ChosenNumbers.{chosen-one}
use Rattle.run_audit.proofs.FewVersions.{AreFew, few-before, few-versions}
use Rattle.run_audit.proofs.GuidedLawful.{guided-printed}
use Rattle.run_audit.proofs.OneFindings.{made-entry, shown-one}
use Rattle.run_audit.proofs.TextHeads.{begun-names, doubles-names, game-names, kept-names, opening-names, players-names, search-names, signature-names, told-names, until-names}

-- the entries of the course that a statement uses, its text, and the state after it
pub record Passed : Type 0 where
  pub used : List ImportCourse
  pub text : List ℕ
  pub next : State

abbrev pub passed_by : List ImportCourse → List ℕ → State → Passed
passed_by used text next = record { used = used; text = text; next = next }

module _ (files : List File) (rules : Rules) (recorded : List ℕ) (s : State) (h : IsReached s) (few : last_of s < 2 ^ 64) where
  small-named : (k : ℕ) → IsNamed rules s k → k < 2 ^ 64
  small-named k named = let to = named.to in omega (arith, to, few)

  -- what a block prints, the greatest number that it names, and what is left behind it
  record Block : Type 0 where
    greatest : ℕ
    text : List ℕ
    session : SessionState

  abbrev block_of : ℕ → List ℕ → SessionState → Block
  block_of greatest text session = record { greatest = greatest; text = text; session = session }

  one-block : (left : List ℕ) (searches : List PlacedSearch) (session : SessionState) (m n : ℕ) (a b : List ℕ) (after other : SessionState) → AreGuidedSearches rules s left searches session m a after → AreGuidedSearches rules s left searches session n b other → block_of m a after ≡ block_of n b other
  one-block left [] session m n a b after other one too = λ i. block_of ((one.0 ∙ sym too.0) i) ((one.1 ∙ sym too.1) i) ((one.2 ∙ sym too.2) i)
  one-block left (p ∷ ps) session m n a b after other one too =
      let number = chosen-one (IsNamed rules s) small-named (left_at_number p.line (codes "search") left) one.0 too.0 one.5 too.5 in
      let first = search-one p.line (view_at s too.0) (trees-at s h too.0) p.query p.filter session one.1 too.1 one.2 too.2
      (subst (λ k. IsSearched p.line (view_at s k) p.query p.filter session one.1 one.2) number one.6) too.6 in
      let rest = one-block (drop (length too.1) left) ps too.2 one.3 too.3 one.4 too.4 after other
      (subst (λ (t : List ℕ). AreGuidedSearches rules s (drop (length t) left) ps too.2 one.3 one.4 after) first.0
      (subst (λ (from : SessionState). AreGuidedSearches rules s (drop (length one.1) left) ps from one.3 one.4 after) first.1 one.7)) too.7 in
      let greatest = one.8 ∙ ap (λ k. max k one.3) number ∙ ap (λ (b : Block). max too.0 b.greatest) rest ∙ sym too.8 in
      let text = one.9 ∙ ap (λ t. t ++ one.4) first.0 ∙ ap (λ (b : Block). too.1 ++ b.text) rest ∙ sym too.9 in
      λ i. block_of (greatest i) (text i) (rest i).session

  -- the number of a text, where it may be named, is the one that is taken
  abbrev Takes : ℕ → List ℕ → List ℕ → List ℕ → Type 0
  Takes line asked left text =
      (number : ℕ) → IsNamed rules s number → NamesBehind line asked text number → IsChosen (IsNamed rules s) (left_at_number line asked left) number

  -- a statement that names a version prints one text, and leads to one state
  one-named : (line : ℕ) (asked left : List ℕ) (Leaves : List ℕ → View → SessionState → Type 0) →
      ((n : ℕ) (text : List ℕ) (after : SessionState) → Leaves text (view_at s n) after → NamesBehind line asked text n) →
      ((n : ℕ) (a b : List ℕ) (after other : SessionState) → Leaves a (view_at s n) after → Leaves b (view_at s n) other → (a ≡ b) × (after ≡ other)) →
      (used more : List ImportCourse) (a b : List ℕ) (next last : State) → NamesVersion rules s (Leaves a) used next → NamesVersion rules s (Leaves b) more last → Takes line asked left a → Takes line asked left b → passed_by used a next ≡ passed_by more b last
  one-named line asked left Leaves names one-text used more a b next last one other takes too =
      let number = chosen-one (IsNamed rules s) small-named (left_at_number line asked left) one.0 other.0
      (takes one.0 one.2 (names one.0 a one.1 one.3)) (too other.0 other.2 (names other.0 b other.1 other.3)) in
      let answer = one-text other.0 a b one.1 other.1 (subst (λ n. Leaves a (view_at s n) one.1) number one.3) other.3 in
      let state = one.5 ∙ (λ i. with_session (with_floor s (number i)) (answer.1 i)) ∙ sym other.5 in
      let course = one.4 ∙ sym other.4 in
      λ i. passed_by (course i) (answer.0 i) (state i)

  -- one that is answered
  one-answered : (line : ℕ) (own : Statement) (asked left : List ℕ) → ((n : ℕ) (text : List ℕ) (after : SessionState) → IsAnswer line (view_at s n) s.session own text after → NamesBehind line asked text n) →
      (used more : List ImportCourse) (a b : List ℕ) (next last : State) → NamesVersion rules s (λ view after. IsAnswer line view s.session own a after) used next → NamesVersion rules s (λ view after. IsAnswer line view s.session own b after) more last → Takes line asked left a → Takes line asked left b → passed_by used a next ≡ passed_by more b last
  one-answered line own asked left names =
      one-named line asked left (λ text view after. IsAnswer line view s.session own text after) names
      (λ n. answer-unique line (view_at s n) (trees-at s h n) s.session own)

  -- one that names none
  one-unnamed : (used more : List ImportCourse) (a b : List ℕ) (after other : SessionState) (next last : State) → (a ≡ b) × (after ≡ other) → used ≡ [] → more ≡ [] → next ≡ with_session s after → last ≡ with_session s other → passed_by used a next ≡ passed_by more b last
  one-unnamed used more a b after other next last same none too is is_too =
      let state = is ∙ ap (with_session s) same.1 ∙ sym is_too in
      let course = none ∙ sym too in
      λ i. passed_by (course i) (same.0 i) (state i)

  -- an import is begun in one way, by these entries of the course
  one-opening : (line : ℕ) (from : Source) (used more : List ImportCourse) (a b : List ℕ) (next last : State) → OpensImport files rules s line from used a next → OpensImport files rules s line from more b last → used ≡ more → passed_by used a next ≡ passed_by more b last
  one-opening line from used more a b next last one other course =
      let counts = counts_of (trees_in (games_of_segments s.log)) in
      let both : one.0 ∷ [] ≡ other.0 ∷ [] = sym one.2 ∙ course ∙ other.2 in
      let entry : one.0 ≡ other.0 = cc in
      let found = finding-one files from counts other.0 one.1 other.1 (subst (λ e. IsImported files from counts e one.1) entry one.3) other.3 in
      let text = one.4 ∙ sym other.4 in
      let state = one.5 ∙ ap (after_import rules s line) found ∙ sym other.5 in
      λ i. passed_by (course i) (text i) (state i)

  -- a statement is passed in one way
  pub one-pass : (left : List ℕ) (line : ℕ) (own : Statement) (used more : List ImportCourse) (a b : List ℕ) (next last : State) → IsGuidedPass files rules recorded s left line own used a next → IsGuidedPass files rules recorded s left line own more b last → passed_by used a next ≡ passed_by more b last
  one-pass left line (statement.Import path) used more a b next last one other =
      one-opening line (source.Under path) used more a b next last one.0 other.0
      (one.1.1
      ∙ ap (λ e. e ∷ []) (shown-one recorded line files (source.Under path) (counts_of (trees_in (games_of_segments s.log))) one.1.0 other.1.0 one.1.2 other.1.2)
      ∙ sym other.1.1)
  one-pass left line (statement.Make games start) used more a b next last one other =
      let counts = counts_of (trees_in (games_of_segments s.log)) in
      one-opening line (source.Made games start) used more a b next last one.0 other.0
      (one.0.2
      ∙ ap (λ e. e ∷ []) (made-entry files games start counts one.0.0 one.0.1 one.0.3 ∙ sym (made-entry files games start counts other.0.0 other.0.1 other.0.3))
      ∙ sym other.0.2)
  one-pass left line statement.Wait used more a b next last one other =
      let course = one.0.0 ∙ sym other.0.0 in
      let text = one.0.1 ∙ sym other.0.1 in
      let state = one.0.2 ∙ sym other.0.2 in
      λ i. passed_by (course i) (text i) (state i)
  one-pass left line (statement.Until number) used more a b next last one other =
      let asked = codes "until " ++ decimal number in
      let named = chosen-one (IsAwaited rules s number) (λ k awaited. small-named k awaited.named) (left_at_number line asked left) one.0.0 other.0.0
      (one.2 one.0.0 one.0.1 (until-names line number one.0.0 a one.0.3)) (other.2 other.0.0 other.0.1 (until-names line number other.0.0 b other.0.3)) in
      let course = one.0.2 ∙ sym other.0.2 in
      let text = one.0.3 ∙ ap (until_text line number) named ∙ sym other.0.3 in
      let state = one.0.4 ∙ ap (with_floor s) named ∙ sym other.0.4 in
      λ i. passed_by (course i) (text i) (state i)
  one-pass left line (statement.Together searches) used more a b next last one other =
      let block = one-block left searches s.session one.0 other.0 a b one.1 other.1 one.2 other.2 in
      let course = one.3 ∙ sym other.3 in
      let state = one.4 ∙ ap (λ (k : Block). with_session (with_floor s k.greatest) k.session) block ∙ sym other.4 in
      λ i. passed_by (course i) (block i).text (state i)
  one-pass left line (statement.Search query filter) used more a b next last one other =
      one-answered line (statement.Search query filter) (codes "search") left (λ n text after. search-names line (view_at s n) query filter s.session after text) used more a b next last one.0 other.0 one.2 other.2
  one-pass left line (statement.Kept query) used more a b next last one other =
      one-answered line (statement.Kept query) (codes "kept") left (λ n text after of. kept-names line (view_at s n) query text of.0) used more a b next last one.0 other.0 one.2 other.2
  one-pass left line (statement.Signature pattern) used more a b next last one other =
      one-answered line (statement.Signature pattern) (codes "signature") left (λ n text after of. signature-names line (view_at s n) pattern.bytes text of.0) used more a b next last one.0 other.0 one.2 other.2
  one-pass left line statement.Players used more a b next last one other =
      one-answered line statement.Players (codes "players") left (λ n text after of. players-names line (view_at s n) text of.0) used more a b next last one.0 other.0 one.2 other.2
  one-pass left line statement.Doubles used more a b next last one other =
      one-answered line statement.Doubles (codes "doubles") left (λ n text after of. doubles-names line (view_at s n) text of.0) used more a b next last one.0 other.0 one.2 other.2
  one-pass left line (statement.Game number) used more a b next last one other =
      one-answered line (statement.Game number) (codes "game " ++ decimal number) left (λ n text after of. game-names line (view_at s n) number text of.0) used more a b next last one.0 other.0 one.2 other.2
  one-pass left line (statement.Opening shape depth least) used more a b next last one other =
      one-answered line (statement.Opening shape depth least) (codes "opening") left (λ n text after of. opening-names line (view_at s n) shape depth least text of.0) used more a b next last one.0 other.0 one.2 other.2
  one-pass left line statement.Report used more a b next last one other =
      let text = one.0.0 ∙ sym other.0.0 in
      let course = one.0.1 ∙ sym other.0.1 in
      let state = one.0.2 ∙ sym other.0.2 in
      λ i. passed_by (course i) (text i) (state i)
  one-pass left line (statement.Retire name) used more a b next last one other =
      one-unnamed used more a b one.0.0 other.0.0 next last (retired-one line name s.session a b one.0.0 other.0.0 one.0.1 other.0.1) one.0.2 other.0.2 one.0.3 other.0.3
  one-pass left line (statement.Watch name query filter) used more a b next last (inl one, shown, takes) (inl other, also, too) =
      one-named line (codes "watch " ++ name) left (λ text view after. IsWatchBegun line view name query filter s.session text after)
      (λ n text after. begun-names line (view_at s n) name query filter s.session after text)
      (λ n. begun-one line (view_at s n) (trees-at s h n) name query filter s.session)
      used more a b next last one other takes too
  one-pass left line (statement.Watch name query filter) used more a b next last (inl one, shown, takes) (inr other, also, too) = absurd (free-none name s.session.watches one.3.added.free other.1.found)
  one-pass left line (statement.Watch name query filter) used more a b next last (inr one, shown, takes) (inl other, also, too) = absurd (free-none name s.session.watches other.3.added.free one.1.found)
  one-pass left line (statement.Watch name query filter) used more a b next last (inr one, shown, takes) (inr other, also, too) =
      one-unnamed used more a b one.0 other.0 next last (taken-one line name s.session a b one.0 other.0 one.1 other.1) one.2 other.2 one.3 other.3
  one-pass left line (statement.Watched name) used more a b next last (inl one, shown, takes) (inl other, also, too) =
      one-named line (codes "watched " ++ name) left (λ text view after. IsWatchTold line view name s.session text after)
      (λ n text after. told-names line (view_at s n) name s.session after text)
      (λ n. told-one line (view_at s n) (trees-at s h n) name s.session)
      used more a b next last one other takes too
  one-pass left line (statement.Watched name) used more a b next last (inl one, shown, takes) (inr other, also, too) = absurd (free-none name s.session.watches other.1.free one.3.advanced.found)
  one-pass left line (statement.Watched name) used more a b next last (inr one, shown, takes) (inl other, also, too) = absurd (free-none name s.session.watches one.1.free other.3.advanced.found)
  one-pass left line (statement.Watched name) used more a b next last (inr one, shown, takes) (inr other, also, too) =
      one-unnamed used more a b one.0 other.0 next last (missing-one line name s.session a b one.0 other.0 one.1 other.1) one.2 other.2 one.3 other.3

-- the course that was used, where a run stands, and what it has printed
pub record Printed : Type 0 where
  pub course : List ImportCourse
  pub state : State
  pub out : List ℕ

abbrev pub printed_by : List ImportCourse → State → List ℕ → Printed
printed_by course s out = record { course = course; state = s; out = out }

module _ (files : List File) (rules : Rules) (boxes : List BoxTally) (recorded : List ℕ) where
  one-so-far : (course more : List ImportCourse) (placed others : List Placed) (s t : State) (a b : List ℕ) → HasGuided files rules boxes recorded course placed s a → HasGuided files rules boxes recorded more others t b → placed ≡ others → AreFew rules others → printed_by course s a ≡ printed_by more t b
  one-so-far _ _ _ _ _ _ _ _ HasGuided.nothing HasGuided.nothing same few = refl
  one-so-far _ _ _ _ _ _ _ _ HasGuided.nothing (HasGuided.one_more {placed} used p next text h is) same few = absurd (push_not_nil placed p same)
  one-so-far _ _ _ _ _ _ _ _ (HasGuided.one_more {placed} used p next text h is) HasGuided.nothing same few = absurd (push_not_nil placed p (sym same))
  one-so-far _ _ _ _ _ _ _ _ (HasGuided.one_more {course} {placed} {s} {out} used p next text h is) (HasGuided.one_more {course = more} {placed = others} {s = t} {out = so_far} gone q last other k is_too) same few =
      let split = push_same placed others p q same in
      let before = few-before rules others (q ∷ []) few in
      let first = one-so-far course more placed others s t out so_far h k split.0 before in
      let printed = guided-printed files rules recorded boxes more others t so_far k in
      let passes = one-pass files rules recorded t (reached files rules boxes more others t so_far printed) (few-versions files rules boxes more others t so_far before printed)
      (drop (length so_far) recorded) q.line q.statement used gone text other next last
      (subst (λ (r : Printed). IsGuidedPass files rules recorded r.state (drop (length r.out) recorded) q.line q.statement used text next) first
      (subst (λ (r : Placed). IsGuidedPass files rules recorded s (drop (length out) recorded) r.line r.statement used text next) split.1 is))
      is_too in
      λ i. printed_by ((first i).course ++ (passes i).used) (passes i).next ((first i).out ++ (passes i).text)

  -- statements have one guided beginning
  pub guided-same : (course more : List ImportCourse) (placed : List Placed) (s t : State) (a b : List ℕ) → AreFew rules placed → HasGuided files rules boxes recorded course placed s a → HasGuided files rules boxes recorded more placed t b → printed_by course s a ≡ printed_by more t b
  guided-same course more placed s t a b few one other = one-so-far course more placed placed s t a b one other refl few

  -- they have one guided output
  pub guided-one : (placed : List Placed) (one other : List ℕ) → AreFew rules placed → IsGuided files rules boxes placed recorded one → IsGuided files rules boxes placed recorded other → one ≡ other
  guided-one placed one other few (course, (s, a, h, is)) (more, (t, b, k, is_too)) =
      is ∙ ap (λ (r : Printed). r.out ++ waiting_text r.state) (guided-same course more placed s t a b few h k) ∙ sym is_too
