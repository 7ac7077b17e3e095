-- The statements of watched searches have a text, and one only; and what they leave fits the games of the version.
use Rattle.std.proofs.Common.{◌≡◌, ◌⊎◌, inl, inr, ℕ, List, [], ◌∷◌, ◌++◌, drop, length, refl, sym, ap, ◌∙◌, subst}
use Rattle.std.specs.Prelude.{All}
use Rattle.std.proofs.lemmas.List.Elements.{All-nil}
use Rattle.game_tree.specs.Tree.{IsTree}
use Rattle.node_position.specs.Games.{Game}
use Rattle.pattern_images.specs.declared.hit.Hit.{Hit}
use Rattle.pattern_images.specs.declared.query.Query.{Query}
use Rattle.info_filter.specs.declared.filter.Filter.{Filter}
use Rattle.continuation_table.specs.Table.{IsTable}
use Rattle.continuation_table.proofs.OneTable.{one_table}
use Rattle.continuation_table.proofs.SomeTable.{some_table}
use Rattle.query_script.specs.declared.statement.Statement.{Statement}
use Rattle.query_script.specs.declared.statement.Statement.TheVariants as statement
use Rattle.query_script.specs.Texts.{no_watch_text, taken_text, watch_text, watched_text}
use Rattle.search_engine.specs.Hits.{AreHits}
use Rattle.search_engine.proofs.HitsExist.{hits-found}
use Rattle.search_engine.proofs.OneListOfHits.{hits-unique}
use Rattle.session_core.specs.Answers.{IsAnswer, IsLeft, IsRetiredBy, IsWatchBegun, IsWatchMissing, IsWatchTaken, IsWatchTold, View}
use Rattle.session_core.specs.SessionState.{SessionState, Watched, fed_with, with_watches}
use Rattle.session_core.specs.Watches.{AreNewHits, IsWatchOf, WatchesFit, covering, watch_over}
use Rattle.session_core.proofs.WatchLemmas.{Parted, fit-added, fit-advanced, free-none, one_watch, told_watch, trees-behind}

-- ---- texts that name no version

pub taken-one : (line : ℕ) (name : List ℕ) (session : SessionState) (a b : List ℕ) (after other : SessionState) → IsWatchTaken line name session a after → IsWatchTaken line name session b other → (a ≡ b) × (after ≡ other)
taken-one line name session a b after other one too = (one.text_is ∙ sym too.text_is, one.same ∙ sym too.same)

pub missing-one : (line : ℕ) (name : List ℕ) (session : SessionState) (a b : List ℕ) (after other : SessionState) → IsWatchMissing line name session a after → IsWatchMissing line name session b other → (a ≡ b) × (after ≡ other)
missing-one line name session a b after other one too = (one.text_is ∙ sym too.text_is, one.same ∙ sym too.same)

-- ---- texts over what is seen of the base

module _ (line : ℕ) (view : View) (trees : All (λ (g : Game). IsTree g.tree) view.games) where
  pub watch-found : (name : List ℕ) (query : Query) (filter : Filter) (session : SessionState) →
      (text : List ℕ) × (after : SessionState) × (IsWatchBegun line view name query filter session text after ⊎ IsWatchTaken line name session text after)
  watch-found name query filter session = elim (told_watch name session.watches) [
    | inr found ↦ (taken_text line name, session, inr (record { found = found; text_is = refl; same = refl }))
    | inl free ↦
        let hits = hits-found 0 query filter view.games trees in
        let watches = session.watches ++ watch_over name query filter view.games hits.0 ∷ [] in (
          watch_text line name view.version (length hits.0),
          fed_with hits.0 (with_watches session watches),
          inl (record { hits = hits.0; watches = watches; added = record { free = free; are_hits = hits.1; added = refl }; text_is = refl; fed = refl }),
        )
  ]

  pub watched-found : (name : List ℕ) (session : SessionState) →
      (text : List ℕ) × (after : SessionState) × (IsWatchTold line view name session text after ⊎ IsWatchMissing line name session text after)
  watched-found name session = elim (told_watch name session.watches) [
    | inl free ↦ (no_watch_text line name, session, inr (record { free = free; text_is = refl; same = refl }))
    | inr found ↦
        let watch : Watched = found.watch in
        let hits = hits-found 0 watch.query watch.filter view.games trees in
        let more = hits-found watch.covered watch.query watch.filter (drop watch.covered view.games) (trees-behind watch.covered view.games trees) in
        let table = some_table hits.0 in
        let watches = found.earlier ++ covering watch view.games hits.0 ∷ found.later in (
          watched_text line name view.version (length view.games) hits.0 table.0,
          fed_with more.0 (with_watches session watches),
          inl (record {
            hits = hits.0;
            new = more.0;
            table = table.0;
            watches = watches;
            advanced = record { found = found; are_hits = hits.1; are_new = more.1; others = refl };
            is_table = table.1;
            text_is = refl;
            fed = refl;
          }),
        )
  ]

  pub begun-one : (name : List ℕ) (query : Query) (filter : Filter) (session : SessionState) (a b : List ℕ) (after other : SessionState) → IsWatchBegun line view name query filter session a after → IsWatchBegun line view name query filter session b other → (a ≡ b) × (after ≡ other)
  begun-one name query filter session a b after other one too =
      let hits = hits-unique 0 query filter view.games view.games one.hits too.hits trees one.added.are_hits too.added.are_hits refl in
      let watches : one.watches ≡ too.watches =
      one.added.added ∙ ap (λ (hs : List Hit). session.watches ++ watch_over name query filter view.games hs ∷ []) hits ∙ sym too.added.added in (
        one.text_is ∙ ap (λ (hs : List Hit). watch_text line name view.version (length hs)) hits ∙ sym too.text_is,
        one.fed ∙ (λ i. fed_with (hits i) (with_watches session (watches i))) ∙ sym too.fed,
      )

  pub told-one : (name : List ℕ) (session : SessionState) (a b : List ℕ) (after other : SessionState) → IsWatchTold line view name session a after → IsWatchTold line view name session b other → (a ≡ b) × (after ≡ other)
  told-one name session a b after other one too =
      let found = one_watch name session.watches one.advanced.found too.advanced.found in
      let watch : one.advanced.found.watch ≡ too.advanced.found.watch = ap (λ (p : Parted). p.watch) found in
      let its : Watched = too.advanced.found.watch in
      let hits =
      hits-unique 0 its.query its.filter view.games view.games one.hits too.hits trees
      (subst (λ (w : Watched). AreHits w.query w.filter view.games one.hits) watch one.advanced.are_hits) too.advanced.are_hits refl in
      let more =
      hits-unique its.covered its.query its.filter (drop its.covered view.games) (drop its.covered view.games) one.new too.new (trees-behind its.covered view.games trees)
      (subst (λ (w : Watched). AreNewHits w view.games one.new) watch one.advanced.are_new) too.advanced.are_new refl in
      let table = one_table too.hits one.table too.table (subst (λ (hs : List Hit). IsTable hs one.table) hits one.is_table) too.is_table in
      let watches : one.watches ≡ too.watches =
      one.advanced.others ∙ (λ i. (found i).earlier ++ covering (found i).watch view.games (hits i) ∷ (found i).later) ∙ sym too.advanced.others in (
        one.text_is ∙ (λ i. watched_text line name view.version (length view.games) (hits i) (table i)) ∙ sym too.text_is,
        one.fed ∙ (λ i. fed_with (more i) (with_watches session (watches i))) ∙ sym too.fed,
      )

  pub watch-one : (name : List ℕ) (query : Query) (filter : Filter) (session : SessionState) (a b : List ℕ) (after other : SessionState) →
      IsWatchBegun line view name query filter session a after ⊎ IsWatchTaken line name session a after → IsWatchBegun line view name query filter session b other ⊎ IsWatchTaken line name session b other → (a ≡ b) × (after ≡ other)
  watch-one name query filter session a b after other (inl one) (inl too) = begun-one name query filter session a b after other one too
  watch-one name query filter session a b after other (inl one) (inr too) = absurd (free-none name session.watches one.added.free too.found)
  watch-one name query filter session a b after other (inr one) (inl too) = absurd (free-none name session.watches too.added.free one.found)
  watch-one name query filter session a b after other (inr one) (inr too) = taken-one line name session a b after other one too

  pub watched-one : (name : List ℕ) (session : SessionState) (a b : List ℕ) (after other : SessionState) →
      IsWatchTold line view name session a after ⊎ IsWatchMissing line name session a after → IsWatchTold line view name session b other ⊎ IsWatchMissing line name session b other → (a ≡ b) × (after ≡ other)
  watched-one name session a b after other (inl one) (inl too) = told-one name session a b after other one too
  watched-one name session a b after other (inl one) (inr too) = absurd (free-none name session.watches too.free one.advanced.found)
  watched-one name session a b after other (inr one) (inl too) = absurd (free-none name session.watches one.free too.advanced.found)
  watched-one name session a b after other (inr one) (inr too) = missing-one line name session a b after other one too

-- ---- what is left fits the version

retired-fits : (games : List Game) (line : ℕ) (name : List ℕ) (session after : SessionState) (text : List ℕ) → WatchesFit games session → IsRetiredBy line name session text after → WatchesFit games after
retired-fits games line name session _ _ fit (IsRetiredBy.retired boxes gone) = fit
retired-fits games line name session _ _ fit (IsRetiredBy.none none) = fit

pub answer-fits : (line : ℕ) (view : View) (session after : SessionState) (own : Statement) (text : List ℕ) → WatchesFit view.games session → IsAnswer line view session own text after → WatchesFit view.games after
answer-fits line view session after (statement.Search query filter) text fit of = subst (WatchesFit view.games) (sym of.fed) fit
answer-fits line view session after (statement.Kept query) text fit of = subst (WatchesFit view.games) (sym of.1) fit
answer-fits line view session after (statement.Signature pattern) text fit of = subst (WatchesFit view.games) (sym of.1) fit
answer-fits line view session after statement.Players text fit of = subst (WatchesFit view.games) (sym of.1) fit
answer-fits line view session after statement.Doubles text fit of = subst (WatchesFit view.games) (sym of.1) fit
answer-fits line view session after (statement.Game number) text fit of = subst (WatchesFit view.games) (sym of.1) fit
answer-fits line view session after (statement.Opening shape depth least) text fit of = subst (WatchesFit view.games) (sym of.1) fit
answer-fits line view session after statement.Report text fit of = subst (WatchesFit view.games) (sym of.1) fit
answer-fits line view session after (statement.Retire name) text fit of = retired-fits view.games line name session after text fit of
answer-fits line view session after (statement.Watch name query filter) text fit (inl of) =
    subst (WatchesFit view.games) (sym of.fed) (fit-added name query filter view.games session.watches of.watches of.hits of.added fit)
answer-fits line view session after (statement.Watch name query filter) text fit (inr of) = subst (WatchesFit view.games) (sym of.same) fit
answer-fits line view session after (statement.Watched name) text fit (inl of) =
    subst (WatchesFit view.games) (sym of.fed) (fit-advanced name view.games session.watches of.watches of.hits of.new of.advanced fit)
answer-fits line view session after (statement.Watched name) text fit (inr of) = subst (WatchesFit view.games) (sym of.same) fit
answer-fits line view session after (statement.Import path) text fit of = absurd of
answer-fits line view session after (statement.Make games start) text fit of = absurd of
answer-fits line view session after statement.Wait text fit of = absurd of
answer-fits line view session after (statement.Until number) text fit of = absurd of
answer-fits line view session after (statement.Together searches) text fit of = absurd of

-- a session that watches nothing fits all games
pub fit-unwatched : (games : List Game) (session : SessionState) → session.watches ≡ [] → WatchesFit games session
fit-unwatched games session none = subst (All (IsWatchOf games)) (sym none) (All-nil (IsWatchOf games))

-- where boxes were fed in part what is watched stays
pub left-watches : (AreThese : List Hit → Type 0) (session after : SessionState) → IsLeft AreThese session after → after.watches ≡ session.watches
left-watches AreThese session after (inl same) = ap (λ (s : SessionState). s.watches) same
left-watches AreThese session after (inr (hits, boxes, these, fed, same)) = ap (λ (s : SessionState). s.watches) same
