-- A statement that is answered has a text, and one only.
use Rattle.std.proofs.Common.{◌≡◌, ℕ, zero, suc, ◌<◌, inl, inr, List, [], ◌∷◌, ◌++◌, length, refl, sym, ap, ◌∙◌, subst, arith}
use Rattle.std.specs.Prelude.{All}
use Rattle.std.proofs.lemmas.Bool.{cases_lt}
use Rattle.game_tree.specs.Tree.{IsTree}
use Rattle.node_position.specs.Games.{Game}
use Rattle.pattern_images.specs.declared.hit.Hit.{Hit}
use Rattle.pattern_images.specs.declared.query.Query.{Query}
use Rattle.info_filter.specs.declared.filter.Filter.{Filter}
use Rattle.continuation_table.specs.Table.{TableView}
use Rattle.continuation_table.proofs.OneTable.{one_table}
use Rattle.continuation_table.proofs.SomeTable.{some_table}
use Rattle.sgf_writer.specs.Written.{IsWritten}
use Rattle.sgf_writer.proofs.EachWritten.{each-written}
use Rattle.sgf_writer.proofs.OneText.{one_text}
use Rattle.query_script.specs.declared.statement.Statement.{Statement}
use Rattle.query_script.specs.declared.statement.Statement.TheVariants as statement
use Rattle.query_script.specs.Texts.{game_head, kept_text, no_game_text, no_retire_text, retire_text, search_text}
use Rattle.hit_collectors.specs.Tallies.{BoxTally}
use Rattle.hit_collectors.proofs.RetiredOnce.{none_retired, one_retired, some_retired}
use Rattle.session_core.specs.Answers.{IsAnswer, IsAnswered, IsDoublesText, IsGameText, IsKeptText, IsOpeningText, IsPlayersText, IsRetiredBy, IsSearchText, IsSearched, IsSignatureText, IsThere, View, boxes_text}
use Rattle.session_core.specs.SessionState.{SessionState, fed_with, with_boxes}
use Rattle.search_engine.proofs.HitsExist.{hits-found}
use Rattle.search_engine.proofs.KeptCounts.{AreKept-unique, kept-found}
use Rattle.session_core.proofs.OpeningAnswers.{opening-one, opening-text}
use Rattle.session_core.proofs.ListAnswers.{doubles-one, doubles-text, players-one, players-text, signature-one, signature-text}
use Rattle.session_core.proofs.WatchAnswers.{watch-found, watch-one, watched-found, watched-one}
use Rattle.search_engine.proofs.OneListOfHits.{hits-unique}

-- the game with a number
nth : (games : List Game) (n : ℕ) → n < length games → (game : Game) × IsThere games n game
nth [] n below = absurd (omega arith)
nth (game ∷ games) zero below = (game, record { in_range = below; at = λ d. refl })
nth (game ∷ games) (suc n) below =
    let rest = nth games n (omega arith) in
    (rest.0, record { in_range = below; at = λ d. rest.1.at d })

-- its tree is one
tree_there : (games : List Game) → All (λ (g : Game). IsTree g.tree) games → (n : ℕ) (game : Game) → IsThere games n game → IsTree game.tree
tree_there games trees n game there = subst (λ (g : Game). IsTree g.tree) (there.at game) (trees n game there.in_range)

-- a box is retired in one way
pub retired-found : (line : ℕ) (name : List ℕ) (session : SessionState) → (text : List ℕ) × (after : SessionState) × IsRetiredBy line name session text after
retired-found line name session = elim (some_retired (λ (told : BoxTally). told.name) name session.boxes) [
  | inl none ↦ (no_retire_text line name, session, IsRetiredBy.none none)
  | inr (boxes, gone) ↦ (retire_text line name, with_boxes session boxes, IsRetiredBy.retired boxes gone)
]

pub retired-one : (line : ℕ) (name : List ℕ) (session : SessionState) (a b : List ℕ) (after other : SessionState) → IsRetiredBy line name session a after → IsRetiredBy line name session b other → (a ≡ b) × (after ≡ other)
retired-one line name session _ _ _ _ (IsRetiredBy.retired boxes gone) (IsRetiredBy.retired others too) =
    (refl, ap (with_boxes session) (one_retired (λ (told : BoxTally). told.name) name session.boxes boxes others gone too))
retired-one line name session _ _ _ _ (IsRetiredBy.retired boxes gone) (IsRetiredBy.none none) = absurd (none_retired (λ (told : BoxTally). told.name) name session.boxes boxes none gone)
retired-one line name session _ _ _ _ (IsRetiredBy.none none) (IsRetiredBy.retired others too) = absurd (none_retired (λ (told : BoxTally). told.name) name session.boxes others none too)
retired-one line name session _ _ _ _ (IsRetiredBy.none none) (IsRetiredBy.none too) = (refl, refl)

module _ (line : ℕ) (view : View) (trees : All (λ (g : Game). IsTree g.tree) view.games) where
  -- a search has one list of hits
  hits-one : (query : Query) (filter : Filter) (hits others : List Hit) (a b : List ℕ) → IsSearchText line view query filter hits a → IsSearchText line view query filter others b → hits ≡ others
  hits-one query filter hits others a b one other = hits-unique 0 query filter view.games view.games hits others trees one.are_hits other.are_hits refl

  text-one : (query : Query) (filter : Filter) (hits : List Hit) (a b : List ℕ) → IsSearchText line view query filter hits a → IsSearchText line view query filter hits b → a ≡ b
  text-one query filter hits a b one other =
      one.text_is
      ∙ ap (λ (t : TableView). search_text line view.version (length view.games) hits t) (one_table hits one.table other.table one.is_table other.is_table)
      ∙ sym other.text_is

  pub search-found : (query : Query) (filter : Filter) (session : SessionState) → (text : List ℕ) × (after : SessionState) × IsSearched line view query filter session text after
  search-found query filter session =
      let hits = hits-found 0 query filter view.games trees in
      let table = some_table hits.0 in (
        search_text line view.version (length view.games) hits.0 table.0,
        fed_with hits.0 session,
        record { hits = hits.0; is_text = record { table = table.0; are_hits = hits.1; is_table = table.1; text_is = refl }; fed = refl },
      )

  pub search-one : (query : Query) (filter : Filter) (session : SessionState) (a b : List ℕ) (after other : SessionState) → IsSearched line view query filter session a after → IsSearched line view query filter session b other → (a ≡ b) × (after ≡ other)
  search-one query filter session a b after other one too =
      let same = hits-one query filter one.hits too.hits a b one.is_text too.is_text in (
        text-one query filter too.hits a b (subst (λ (hits : List Hit). IsSearchText line view query filter hits a) same one.is_text) too.is_text,
        one.fed ∙ ap (λ (hits : List Hit). fed_with hits session) same ∙ sym too.fed,
      )

  kept-text : (query : Query) → (text : List ℕ) × IsKeptText line view query text
  kept-text query =
      let (kept, are) = kept-found query view.games trees in
      (kept_text line view.version (length view.games) kept, record { kept = kept; are_kept = are; text_is = refl })

  kept-one : (query : Query) (a b : List ℕ) → IsKeptText line view query a → IsKeptText line view query b → a ≡ b
  kept-one query a b one other =
      one.text_is
      ∙ ap (λ k. kept_text line view.version (length view.games) k) (AreKept-unique query view.games view.games one.kept other.kept one.are_kept other.are_kept refl)
      ∙ sym other.text_is

  game-text : (number : ℕ) → (text : List ℕ) × IsGameText line view number text
  game-text number = elim (cases_lt number (length view.games)) [
    | inl below ↦
        let there = nth view.games number below in
        let written = each-written there.0.tree (tree_there view.games trees number there.0 there.1) in
        (game_head line number view.version there.0.place there.0.file ++ (written.0 ++ 10 ∷ []), IsGameText.there there.0 written.0 there.1 written.1)
    | inr past ↦ (no_game_text line number view.version, IsGameText.none past)
  ]

  game-one : (number : ℕ) (a b : List ℕ) → IsGameText line view number a → IsGameText line view number b → a ≡ b
  game-one number _ _ (IsGameText.there g one here written) (IsGameText.there k other too as_written) =
      let same : g ≡ k = sym (here.at g) ∙ too.at g in
      let text = one_text k.tree one other (subst (λ (h : Game). IsWritten h.tree one) same written) as_written in
      ap (λ (h : Game). game_head line number view.version h.place h.file ++ (one ++ 10 ∷ [])) same
      ∙ ap (λ t. game_head line number view.version k.place k.file ++ (t ++ 10 ∷ [])) text
  game-one number _ _ (IsGameText.there g one here written) (IsGameText.none past) = let below = here.in_range in absurd (omega arith)
  game-one number _ _ (IsGameText.none past) (IsGameText.there k other too written) = let below = too.in_range in absurd (omega arith)
  game-one number _ _ (IsGameText.none past) (IsGameText.none too) = refl

  -- a text that leaves the session as it is
  found-same : (IsText : List ℕ → Type 0) (session : SessionState) → (text : List ℕ) × IsText text → (text : List ℕ) × (after : SessionState) × (IsText text × (after ≡ session))
  found-same IsText session found = (found.0, session, (found.1, refl))

  one-same : (a b : List ℕ) (session after other : SessionState) → a ≡ b → after ≡ session → other ≡ session → (a ≡ b) × (after ≡ other)
  one-same a b session after other text same too = (text, same ∙ sym too)

  pub answer-found : (session : SessionState) (own : Statement) → IsAnswered own → (text : List ℕ) × (after : SessionState) × IsAnswer line view session own text after
  answer-found session (statement.Search query filter) answered = search-found query filter session
  answer-found session (statement.Kept query) answered = found-same (IsKeptText line view query) session (kept-text query)
  answer-found session (statement.Signature pattern) answered = found-same (IsSignatureText line view pattern.bytes) session (signature-text line view trees pattern.bytes)
  answer-found session statement.Players answered = found-same (IsPlayersText line view) session (players-text line view trees)
  answer-found session statement.Doubles answered = found-same (IsDoublesText line view) session (doubles-text line view trees)
  answer-found session (statement.Game number) answered = found-same (IsGameText line view number) session (game-text number)
  answer-found session (statement.Opening shape depth least) answered = found-same (IsOpeningText line view shape depth least) session (opening-text line view trees shape depth least)
  answer-found session statement.Report answered = (boxes_text line session.boxes, session, (refl, refl))
  answer-found session (statement.Retire name) answered = retired-found line name session
  answer-found session (statement.Watch name query filter) answered = watch-found line view trees name query filter session
  answer-found session (statement.Watched name) answered = watched-found line view trees name session
  answer-found session (statement.Import path) answered = absurd answered
  answer-found session (statement.Make games start) answered = absurd answered
  answer-found session statement.Wait answered = absurd answered
  answer-found session (statement.Until number) answered = absurd answered
  answer-found session (statement.Together searches) answered = absurd answered

  pub answer-unique : (session : SessionState) (own : Statement) (a b : List ℕ) (after other : SessionState) → IsAnswer line view session own a after → IsAnswer line view session own b other → (a ≡ b) × (after ≡ other)
  answer-unique session (statement.Search query filter) a b after other one too = search-one query filter session a b after other one too
  answer-unique session (statement.Kept query) a b after other one too = one-same a b session after other (kept-one query a b one.0 too.0) one.1 too.1
  answer-unique session (statement.Signature pattern) a b after other one too = one-same a b session after other (signature-one line view trees pattern.bytes a b one.0 too.0) one.1 too.1
  answer-unique session statement.Players a b after other one too = one-same a b session after other (players-one line view trees a b one.0 too.0) one.1 too.1
  answer-unique session statement.Doubles a b after other one too = one-same a b session after other (doubles-one line view trees a b one.0 too.0) one.1 too.1
  answer-unique session (statement.Game number) a b after other one too = one-same a b session after other (game-one number a b one.0 too.0) one.1 too.1
  answer-unique session (statement.Opening shape depth least) a b after other one too = one-same a b session after other (opening-one line view trees shape depth least a b one.0 too.0) one.1 too.1
  answer-unique session statement.Report a b after other one too = one-same a b session after other (one.0 ∙ sym too.0) one.1 too.1
  answer-unique session (statement.Retire name) a b after other one too = retired-one line name session a b after other one too
  answer-unique session (statement.Watch name query filter) a b after other one too = watch-one line view trees name query filter session a b after other one too
  answer-unique session (statement.Watched name) a b after other one too = watched-one line view trees name session a b after other one too
  answer-unique session (statement.Import path) a b after other one too = absurd one
  answer-unique session (statement.Make games start) a b after other one too = absurd one
  answer-unique session statement.Wait a b after other one too = absurd one
  answer-unique session (statement.Until number) a b after other one too = absurd one
  answer-unique session (statement.Together searches) a b after other one too = absurd one
