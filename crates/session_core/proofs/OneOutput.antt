-- In a serial run statements by which nothing is lost have one lawful output alone.
use Rattle.std.proofs.Common.{◌≡◌, inl, inr, ℕ, ◌+◌, Bool, true, false, cond, List, [], ◌∷◌, ◌++◌, length, refl, sym, ap, ◌∙◌, subst, arith}
use Rattle.std.specs.Prelude.{IsTrue, max}
use Rattle.kb_edges.specs.Files.{File}
use Rattle.query_script.specs.declared.statement.Placed.{Placed}
use Rattle.query_script.specs.declared.statement.PlacedSearch.{PlacedSearch}
use Rattle.query_script.specs.declared.statement.Statement.{Statement}
use Rattle.query_script.specs.declared.statement.Statement.TheVariants as statement
use Rattle.query_script.specs.Texts.{until_text}
use Rattle.hit_collectors.specs.Tallies.{BoxTally}
use Rattle.session_core.specs.Answers.{IsAnswer, IsSearched, IsWatchBegun, IsWatchTold, View}
use Rattle.kb_geometry.proofs.Lists.{push_not_nil, push_same}
use Rattle.session_core.proofs.OneAnswer.{answer-unique, retired-one, search-one}
use Rattle.import_work.specs.Course.{ImportCourse, IsImported, losses_of, nothing_lost, trees_in}
use Rattle.session_core.specs.Lawful.{AreSearched, HasPrinted, IsLawful, IsNamed, OpensImport, IsPassed, Rules, State, after_import, last_of, view_at, waiting_text, with_session, with_floor}
use Rattle.session_core.specs.SessionState.{SessionState}
use Rattle.import_work.specs.Log.{games_of_segments}
use Rattle.import_work.specs.Outcome.{counts_of}
use Rattle.import_work.proofs.Losses.{losses_of-append}
use Rattle.import_work.specs.declared.source.Source.{Source}
use Rattle.import_work.specs.declared.source.Source.TheVariants as source
use Rattle.import_work.proofs.OneFinding.{finding-one}
use Rattle.session_core.proofs.WatchAnswers.{begun-one, missing-one, taken-one, told-one}
use Rattle.session_core.proofs.WatchLemmas.{free-none}
use Rattle.session_core.proofs.WholeOutputs.{IsReached, reached, trees-at}

-- an entry by which nothing is lost
no_loss_is : (entry : ImportCourse) → losses_of (entry ∷ []) ≡ 0 → entry ≡ nothing_lost
no_loss_is entry none = by_parts entry.unlisted entry.unread refl refl
  where
    by_parts : (lost : Bool) (unread : List (List ℕ)) → entry.unlisted ≡ lost → entry.unread ≡ unread → entry ≡ nothing_lost
    by_parts true unread a b = absurd (omega (arith, subst (λ l. 0 + (cond l 1 0 + length entry.unread) ≡ 0) a none))
    by_parts false (name ∷ names) a b = absurd (omega (arith, subst (λ ns. 0 + (cond entry.unlisted 1 0 + length ns) ≡ 0) b none))
    by_parts false [] a b = λ i. record { unlisted = a i; unread = b i }

-- the text of a statement, and the state after it
record Passed : Type 0 where
  text : List ℕ
  next : State

abbrev passed_by : List ℕ → State → Passed
passed_by text next = record { text = text; next = next }

module _ (files : List File) (rules : Rules) (serial : IsTrue rules.serial) (s : State) (h : IsReached s) where
  -- two numbers that a statement may name are the last
  one-number : (m n : ℕ) → IsNamed rules s m → IsNamed rules s n → m ≡ n
  one-number m n a b = a.serial serial ∙ sym (b.serial serial)

  -- a named version is seen as the last one
  at_last : (P : ℕ → Type 0) (n : ℕ) → IsNamed rules s n → P n → P (last_of s)
  at_last P n a p = subst P (a.serial serial) p

  -- what a block prints, the greatest number that it names, and what the boxes tell behind it
  record Block : Type 0 where
    greatest : ℕ
    text : List ℕ
    session : SessionState

  abbrev block_of : ℕ → List ℕ → SessionState → Block
  block_of greatest text session = record { greatest = greatest; text = text; session = session }

  one-block : (searches : List PlacedSearch) (session : SessionState) (m n : ℕ) (a b : List ℕ) (after other : SessionState) → AreSearched rules s searches session m a after → AreSearched rules s searches session n b other → block_of m a after ≡ block_of n b other
  one-block [] session m n a b after other one too = λ i. block_of ((one.0 ∙ sym too.0) i) ((one.1 ∙ sym too.1) i) ((one.2 ∙ sym too.2) i)
  one-block (p ∷ ps) session m n a b after other one too =
      let number = one-number one.0 too.0 one.5 too.5 in
      let first = search-one p.line (view_at s (last_of s)) (trees-at s h (last_of s)) p.query p.filter session one.1 too.1 one.2 too.2
      (at_last (λ k. IsSearched p.line (view_at s k) p.query p.filter session one.1 one.2) one.0 one.5 one.6)
      (at_last (λ k. IsSearched p.line (view_at s k) p.query p.filter session too.1 too.2) too.0 too.5 too.6) in
      let rest = one-block ps too.2 one.3 too.3 one.4 too.4 after other
      (subst (λ (from : SessionState). AreSearched rules s ps from one.3 one.4 after) first.1 one.7) too.7 in
      let greatest = one.8 ∙ ap (λ k. max k one.3) number ∙ ap (λ (b : Block). max too.0 b.greatest) rest ∙ sym too.8 in
      let text = one.9 ∙ ap (λ t. t ++ one.4) first.0 ∙ ap (λ (b : Block). too.1 ++ b.text) rest ∙ sym too.9 in
      λ i. block_of (greatest i) (text i) (rest i).session

  -- a statement that names a version prints one text, and leads to one state
  one-named : (Leaves : View → List ℕ → SessionState → Type 0) → ((a b : List ℕ) (after other : SessionState) → Leaves (view_at s (last_of s)) a after → Leaves (view_at s (last_of s)) b other → (a ≡ b) × (after ≡ other)) →
      (m n : ℕ) (a b : List ℕ) (after other : SessionState) (next last : State) → IsNamed rules s m → IsNamed rules s n → Leaves (view_at s m) a after → Leaves (view_at s n) b other
      → next ≡ with_session (with_floor s m) after → last ≡ with_session (with_floor s n) other → passed_by a next ≡ passed_by b last
  one-named Leaves one-text m n a b after other next last named also one too is is_too =
      let answer = one-text a b after other
      (at_last (λ k. Leaves (view_at s k) a after) m named one)
      (at_last (λ k. Leaves (view_at s k) b other) n also too) in
      let state = is ∙ (λ i. with_session (with_floor s (one-number m n named also i)) (answer.1 i)) ∙ sym is_too in
      λ i. passed_by (answer.0 i) (state i)

  one-answer : (line : ℕ) (own : Statement) (m n : ℕ) (a b : List ℕ) (after other : SessionState) (next last : State) → IsNamed rules s m → IsNamed rules s n → IsAnswer line (view_at s m) s.session own a after → IsAnswer line (view_at s n) s.session own b other
      → next ≡ with_session (with_floor s m) after → last ≡ with_session (with_floor s n) other → passed_by a next ≡ passed_by b last
  one-answer line own =
      one-named (λ view text after. IsAnswer line view s.session own text after)
      (answer-unique line (view_at s (last_of s)) (trees-at s h (last_of s)) s.session own)

  -- one that names none
  one-unnamed : (a b : List ℕ) (after other : SessionState) (next last : State) → (a ≡ b) × (after ≡ other) → next ≡ with_session s after → last ≡ with_session s other → passed_by a next ≡ passed_by b last
  one-unnamed a b after other next last same is is_too =
      let state = is ∙ ap (with_session s) same.1 ∙ sym is_too in
      λ i. passed_by (same.0 i) (state i)

  -- an import is begun in one way
  one-opening : (line : ℕ) (from : Source) (used more : List ImportCourse) (a b : List ℕ) (next after : State) → OpensImport files rules s line from used a next → losses_of used ≡ 0 → OpensImport files rules s line from more b after → losses_of more ≡ 0 → passed_by a next ≡ passed_by b after
  one-opening line from used more a b next after one none other too =
      let counts = counts_of (trees_in (games_of_segments s.log)) in
      let entry : one.0 ≡ other.0 = no_loss_is one.0 (ap losses_of (sym one.2) ∙ none) ∙ sym (no_loss_is other.0 (ap losses_of (sym other.2) ∙ too)) in
      let found = finding-one files from counts other.0 one.1 other.1 (subst (λ e. IsImported files from counts e one.1) entry one.3) other.3 in
      let text = one.4 ∙ sym other.4 in
      let state = one.5 ∙ ap (after_import rules s line) found ∙ sym other.5 in
      λ i. passed_by (text i) (state i)

  -- a statement is passed in one way
  one-passing : (line : ℕ) (own : Statement) (used more : List ImportCourse) (a b : List ℕ) (next after : State) → IsPassed files rules s line own used a next → losses_of used ≡ 0 → IsPassed files rules s line own more b after → losses_of more ≡ 0 → passed_by a next ≡ passed_by b after
  one-passing line (statement.Import path) used more a b next after one none other too = one-opening line (source.Under path) used more a b next after one none other too
  one-passing line (statement.Make games start) used more a b next after one none other too = one-opening line (source.Made games start) used more a b next after one none other too
  one-passing line statement.Wait used more a b next after one none other too =
      let text = one.1 ∙ sym other.1 in
      let state = one.2 ∙ sym other.2 in
      λ i. passed_by (text i) (state i)
  one-passing line (statement.Until number) used more a b next after one none other too =
      let named = one-number one.0 other.0 one.1.named other.1.named in
      let text = one.3 ∙ ap (until_text line number) named ∙ sym other.3 in
      let state = one.4 ∙ ap (with_floor s) named ∙ sym other.4 in
      λ i. passed_by (text i) (state i)
  one-passing line (statement.Together searches) used more a b next after one none other too =
      let block = one-block searches s.session one.0 other.0 a b one.1 other.1 one.2 other.2 in
      let state = one.4 ∙ ap (λ (k : Block). with_session (with_floor s k.greatest) k.session) block ∙ sym other.4 in
      λ i. passed_by (block i).text (state i)
  one-passing line (statement.Search query filter) used more a b next after one none other too =
      one-answer line (statement.Search query filter) one.0 other.0 a b one.1 other.1 next after one.2 other.2 one.3 other.3 one.5 other.5
  one-passing line (statement.Kept query) used more a b next after one none other too =
      one-answer line (statement.Kept query) one.0 other.0 a b one.1 other.1 next after one.2 other.2 one.3 other.3 one.5 other.5
  one-passing line (statement.Signature pattern) used more a b next after one none other too =
      one-answer line (statement.Signature pattern) one.0 other.0 a b one.1 other.1 next after one.2 other.2 one.3 other.3 one.5 other.5
  one-passing line statement.Players used more a b next after one none other too =
      one-answer line statement.Players one.0 other.0 a b one.1 other.1 next after one.2 other.2 one.3 other.3 one.5 other.5
  one-passing line statement.Doubles used more a b next after one none other too =
      one-answer line statement.Doubles one.0 other.0 a b one.1 other.1 next after one.2 other.2 one.3 other.3 one.5 other.5
  one-passing line (statement.Game number) used more a b next after one none other too =
      one-answer line (statement.Game number) one.0 other.0 a b one.1 other.1 next after one.2 other.2 one.3 other.3 one.5 other.5
  one-passing line (statement.Opening shape depth least) used more a b next after one none other too =
      one-answer line (statement.Opening shape depth least) one.0 other.0 a b one.1 other.1 next after one.2 other.2 one.3 other.3 one.5 other.5
  one-passing line statement.Report used more a b next after one none other too =
      let text = one.0 ∙ sym other.0 in
      let state = one.2 ∙ sym other.2 in
      λ i. passed_by (text i) (state i)
  one-passing line (statement.Retire name) used more a b next after one none other too =
      one-unnamed a b one.0 other.0 next after (retired-one line name s.session a b one.0 other.0 one.1 other.1) one.3 other.3
  one-passing line (statement.Watch name query filter) used more a b next after (inl one) none (inl other) too =
      one-named (λ view text left. IsWatchBegun line view name query filter s.session text left)
      (begun-one line (view_at s (last_of s)) (trees-at s h (last_of s)) name query filter s.session)
      one.0 other.0 a b one.1 other.1 next after one.2 other.2 one.3 other.3 one.5 other.5
  one-passing line (statement.Watch name query filter) used more a b next after (inl one) none (inr other) too = absurd (free-none name s.session.watches one.3.added.free other.1.found)
  one-passing line (statement.Watch name query filter) used more a b next after (inr one) none (inl other) too = absurd (free-none name s.session.watches other.3.added.free one.1.found)
  one-passing line (statement.Watch name query filter) used more a b next after (inr one) none (inr other) too =
      one-unnamed a b one.0 other.0 next after (taken-one line name s.session a b one.0 other.0 one.1 other.1) one.3 other.3
  one-passing line (statement.Watched name) used more a b next after (inl one) none (inl other) too =
      one-named (λ view text left. IsWatchTold line view name s.session text left)
      (told-one line (view_at s (last_of s)) (trees-at s h (last_of s)) name s.session)
      one.0 other.0 a b one.1 other.1 next after one.2 other.2 one.3 other.3 one.5 other.5
  one-passing line (statement.Watched name) used more a b next after (inl one) none (inr other) too = absurd (free-none name s.session.watches other.1.free one.3.advanced.found)
  one-passing line (statement.Watched name) used more a b next after (inr one) none (inl other) too = absurd (free-none name s.session.watches one.1.free other.3.advanced.found)
  one-passing line (statement.Watched name) used more a b next after (inr one) none (inr other) too =
      one-unnamed a b one.0 other.0 next after (missing-one line name s.session a b one.0 other.0 one.1 other.1) one.3 other.3

-- where a run stands, and what it has printed
record Printed : Type 0 where
  state : State
  out : List ℕ

abbrev printed_by : State → List ℕ → Printed
printed_by s out = record { state = s; out = out }

-- two courses together lose nothing only where both do
first_none : (course more : List ImportCourse) → losses_of (course ++ more) ≡ 0 → losses_of course ≡ 0
first_none course more none = omega (arith, none, losses_of-append course more)

second_none : (course more : List ImportCourse) → losses_of (course ++ more) ≡ 0 → losses_of more ≡ 0
second_none course more none = omega (arith, none, losses_of-append course more)

module _ (files : List File) (rules : Rules) (boxes : List BoxTally) (serial : IsTrue rules.serial) where
  one-printed : (course more : List ImportCourse) (placed others : List Placed) (s t : State) (a b : List ℕ) → HasPrinted files rules boxes course placed s a → HasPrinted files rules boxes more others t b → placed ≡ others → losses_of course ≡ 0 → losses_of more ≡ 0 → printed_by s a ≡ printed_by t b
  one-printed _ _ _ _ _ _ _ _ HasPrinted.nothing HasPrinted.nothing same none too = refl
  one-printed _ _ _ _ _ _ _ _ HasPrinted.nothing (HasPrinted.one_more {placed} used p next text h is) same none too = absurd (push_not_nil placed p same)
  one-printed _ _ _ _ _ _ _ _ (HasPrinted.one_more {placed} used p next text h is) HasPrinted.nothing same none too = absurd (push_not_nil placed p (sym same))
  one-printed _ _ _ _ _ _ _ _ (HasPrinted.one_more {course} {placed} {s} {out} used p next text h is) (HasPrinted.one_more {course = more} {placed = others} {s = t} {out = so_far} gone q after other k is_too) same none too =
      let split = push_same placed others p q same in
      let first = one-printed course more placed others s t out so_far h k split.0 (first_none course used none) (first_none more gone too) in
      let passes = one-passing files rules serial t (reached files rules boxes more others t so_far k) q.line q.statement used gone text other next after
      (subst (λ (r : Printed). IsPassed files rules r.state q.line q.statement used text next) first
      (subst (λ (r : Placed). IsPassed files rules s r.line r.statement used text next) split.1 is))
      (second_none course used none) is_too (second_none more gone too) in
      λ i. printed_by (passes i).next ((first i).out ++ (passes i).text)

  one-lawful : (placed : List Placed) (course other : List ImportCourse) (a b : List ℕ) → IsLawful files rules boxes course placed a → losses_of course ≡ 0 → IsLawful files rules boxes other placed b → losses_of other ≡ 0 → a ≡ b
  one-lawful placed course other a b (s, text, printed, is) none (t, more, also, too) nothing =
      is ∙ ap (λ (r : Printed). r.out ++ waiting_text r.state) (one-printed course other placed placed s t text more printed also refl none nothing) ∙ sym too

pub one-output : (files : List File) (rules : Rules) (boxes : List BoxTally) (placed : List Placed) (course other : List ImportCourse) (a b : List ℕ) → IsTrue rules.serial → IsLawful files rules boxes course placed a → losses_of course ≡ 0 → IsLawful files rules boxes other placed b → losses_of other ≡ 0 → a ≡ b
one-output files rules boxes placed course other a b serial = one-lawful files rules boxes serial placed course other a b
