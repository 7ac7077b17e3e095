-- The counts of a base.
use Rattle.std.proofs.Common.{◌≡◌, ◌≢◌, ◌⊎◌, inl, inr, suc, ℕ, ◌+◌, ◌<◌, ◌≤◌, List, [], ◌∷◌, ◌++◌, length, length-append, get_or, take, refl, sym, ◌∙◌, ap, arith}
use Rattle.std.specs.List.{AllZip}
use Rattle.std.proofs.lemmas.List.{length-map, map-append, take_more}
use Rattle.std.proofs.lemmas.List.Sums.{sum_by-append}
use Rattle.game_tree.specs.Tree.{Tree, node_count}
use Rattle.import_work.specs.declared.outcome.Counts.{Counts}
use Rattle.import_work.specs.declared.outcome.FileOutcome.{FileOutcome}
use Rattle.import_work.specs.declared.outcome.FileOutcome.TheVariants as file
use Rattle.sgf_reader.specs.declared.collection.Collection.{Collection}
use Rattle.sgf_reader.specs.Faults.{IsRead}
use Rattle.sgf_reader.specs.Grammar.{raw_game}
use Rattle.sgf_reader.proofs.WithinLimits.{read-within_limits}
use Rattle.game_tree.specs.Trees.{AreTreesOf, IsTreeOf}
use Rattle.import_work.specs.Outcome.{HaveGames, IsAddedBy, IsOutcome, counts_of, games_after, nodes_after, nodes_of_trees, with_games}
use Rattle.import_work.specs.Rooms.{AddsGames, AreAdded, IsAdded}
use Rattle.import_work.specs.Batches.{IsTurnedAway}
use Rattle.import_work.specs.Course.{games_from, trees_in}
use Rattle.node_position.specs.Games.{Game}

-- the nodes of one game more
pub nodes_of_trees-more : (trees : List Tree) (i : ℕ) (tree : Tree) → i < length trees → tree ≡ get_or trees i tree → nodes_of_trees (take (i + 1) trees) ≡ nodes_of_trees (take i trees) + node_count tree
nodes_of_trees-more trees i tree below is =
    ap nodes_of_trees (take_more trees i tree below ∙ ap (λ t. take i trees ++ t ∷ []) (sym is)) ∙ sum_by-append node_count (take i trees) (tree ∷ []) ∙ ap (λ n. nodes_of_trees (take i trees) + n) (nodes_of_trees-one tree)
  where
    nodes_of_trees-one : (t : Tree) → nodes_of_trees (t ∷ []) ≡ node_count t
    nodes_of_trees-one t = omega arith

nodes_of_trees-append : (trees more : List Tree) → nodes_of_trees (trees ++ more) ≡ nodes_of_trees trees + nodes_of_trees more
nodes_of_trees-append trees more = sum_by-append node_count trees more

-- the counts with games, and with more games
pub with_games-append : (before : Counts) (trees more : List Tree) → with_games (with_games before trees) more ≡ with_games before (trees ++ more)
with_games-append before trees more =
    let games : before.games + length trees + length more ≡ before.games + length (trees ++ more) = rw length-append (omega arith) in
    let nodes : before.nodes + nodes_of_trees trees + nodes_of_trees more ≡ before.nodes + nodes_of_trees (trees ++ more) = rw nodes_of_trees-append (omega arith) in
    cc

pub with_games-none : (before : Counts) → with_games before [] ≡ before
with_games-none before =
    let games : before.games + 0 ≡ before.games = omega arith in
    let nodes : before.nodes + 0 ≡ before.nodes = omega arith in
    let first : with_games before [] ≡ record { games = before.games; nodes = before.nodes + 0 } = ap (λ n. record { games = n; nodes = before.nodes + 0 }) games in
    first ∙ ap (λ n. record { games = before.games; nodes = n }) nodes

-- no game is added
pub AreAdded-none : (before : Counts) → AreAdded before before []
AreAdded-none before = sym (with_games-none before)

pub trees_in-append : (games more : List Game) → trees_in (games ++ more) ≡ trees_in games ++ trees_in more
trees_in-append games more = map-append (λ (game : Game). game.tree) games more

-- more games are added
pub AreAdded-more : (before between after : Counts) (games more : List Game) → AreAdded before between (trees_in games) → AddsGames between after games more → AreAdded before after (trees_in more)
AreAdded-more before between after games more h adds =
    rw (adds.pushed, trees_in-append games adds.added)
    (adds.counted ∙ ap (λ (c : Counts). with_games c (trees_in adds.added)) h ∙ with_games-append before (trees_in games) (trees_in adds.added))

-- there are as many trees as games
pub length-trees : (games : List Game) → length (trees_in games) ≡ length games
length-trees games = length-map games (λ (game : Game). game.tree)

-- the games that were added are among those that are counted
pub added_counted : (before after : Counts) (games : List Game) → AreAdded before after (trees_in games) → length games ≤ after.games
added_counted before after games h =
    let counted : after.games ≡ before.games + length games = ap (λ (c : Counts). c.games) h ∙ ap (λ n. before.games + n) (length-trees games) in
    omega (arith, counted)

-- the trees of a file's games
pub trees_in-games_from : (name : List ℕ) (place : ℕ) (trees : List Tree) → trees_in (games_from name place trees) ≡ trees
trees_in-games_from name place [] = refl
trees_in-games_from name place (tree ∷ trees) = ap (λ ts. tree ∷ ts) (trees_in-games_from name (place + 1) trees)

-- the counts with the games of a file more
pub with_file : (base : Counts) (games : List Game) (name : List ℕ) (trees : List Tree) → with_games (with_games base (trees_in games)) trees ≡ with_games base (trees_in (games ++ games_from name 0 trees))
with_file base games name trees =
    with_games-append base (trees_in games) trees
    ∙ ap (λ ts. with_games base (trees_in games ++ ts)) (sym (trees_in-games_from name 0 trees))
    ∙ ap (with_games base) (sym (trees_in-append games (games_from name 0 trees)))

-- what an outcome adds
pub IsAdded-outcome : (bytes : List ℕ) (before : Counts) (outcome : FileOutcome) (trees : List Tree) → IsOutcome bytes before outcome trees → IsAdded before outcome trees
IsAdded-outcome bytes before (file.Refused _ _) _ (IsOutcome.refused h) = refl
IsAdded-outcome bytes before (file.Full _ _) _ (IsOutcome.full trees have room) = refl
IsAdded-outcome bytes before (file.Accepted _) _ (IsOutcome.accepted have room) = (refl, room)
IsAdded-outcome bytes before file.Unread trees h = elim h [ ]

-- the counts without a game more
pub with_games-is : (before : Counts) (trees : List Tree) → trees ≡ [] → before ≡ with_games before trees
with_games-is before trees none = rw none (sym (with_games-none before))

-- an unread file adds nothing
pub unread_adds_none : (before : Counts) (outcome : FileOutcome) (trees : List Tree) → outcome ≡ file.Unread → IsAdded before outcome trees → trees ≡ []
unread_adds_none before outcome trees is h = rw is at h

-- a file that was read isn't unread
pub read-not_unread : (bytes : List ℕ) (before : Counts) (outcome : FileOutcome) (trees : List Tree) → IsOutcome bytes before outcome trees → outcome ≢ file.Unread
read-not_unread bytes before (file.Refused _ _) _ (IsOutcome.refused h) is = cc
read-not_unread bytes before (file.Full _ _) _ (IsOutcome.full trees have room) is = cc
read-not_unread bytes before (file.Accepted _) _ (IsOutcome.accepted have room) is = cc
read-not_unread bytes before file.Unread trees h is = elim h [ ]

-- a file is unread or not
pub cases_unread : (outcome : FileOutcome) → (outcome ≡ file.Unread) ⊎ (outcome ≢ file.Unread)
cases_unread (file.Accepted games) = inr (λ is. cc)
cases_unread (file.Refused of at) = inr (λ is. cc)
cases_unread (file.Full games nodes) = inr (λ is. cc)
cases_unread file.Unread = inl refl

-- there is no room
pub full_is : (before : Counts) (trees added : List Tree) (games nodes : ℕ) → games ≡ games_after before trees → nodes ≡ nodes_after before trees → (400000 < games) ⊎ (67108864 < nodes) → added ≡ [] → IsAddedBy before trees (file.Full games nodes) added
full_is before trees added games nodes games_is nodes_is past none =
    rw (games_is, nodes_is, none) (IsAddedBy.full (λ room. elim past [
      | inl many ↦ omega (arith, many, games_is, room.0)
      | inr many ↦ omega (arith, many, nodes_is, room.1)
    ]))

-- there is room
pub accepted_is : (before : Counts) (trees : List Tree) (count games nodes : ℕ) → count ≡ length trees → games ≡ games_after before trees → nodes ≡ nodes_after before trees → games ≤ 400000 → nodes ≤ 67108864 → IsAddedBy before trees (file.Accepted count) trees
accepted_is before trees count games nodes count_is games_is nodes_is few small =
    rw count_is (IsAddedBy.accepted (omega (arith, few, games_is), omega (arith, small, nodes_is)))

-- what becomes of games without a fault
pub IsOutcome-in_room : (bytes : List ℕ) (before : Counts) (trees : List Tree) (outcome : FileOutcome) (added : List Tree) → HaveGames bytes trees → IsAddedBy before trees outcome added → IsOutcome bytes before outcome added
IsOutcome-in_room bytes before trees _ _ have (IsAddedBy.full room) = IsOutcome.full trees have room
IsOutcome-in_room bytes before trees _ _ have (IsAddedBy.accepted room) = IsOutcome.accepted have room

-- lists that fit each other are of one length
length-AllZip : {A B : Type 0} (R : A → B → Type 0) (xs : List A) (ys : List B) → AllZip R xs ys → length xs ≡ length ys
length-AllZip R [] [] h = refl
length-AllZip R [] (y ∷ ys) h = absurd h
length-AllZip R (x ∷ xs) [] h = absurd h
length-AllZip R (x ∷ xs) (y ∷ ys) h = ap suc (length-AllZip R xs ys h.1)

-- a text has few games
pub few_trees : (bytes : List ℕ) (collection : Collection) (trees : List Tree) → IsRead bytes collection → AreTreesOf bytes collection trees → length trees ≤ 65536
few_trees bytes collection trees is_read are =
    let limits = (read-within_limits is_read.0 bytes is_read.1).1 in
    let few = limits.few in
    let games : length collection.games ≡ length is_read.0 = ap (λ (c : Collection). length c.games) is_read.2 ∙ length-map is_read.0 raw_game in
    omega (arith, few, games, length-AllZip (IsTreeOf bytes) collection.games trees are)

-- a file that is turned away adds nothing
pub turned_away : (before : Counts) (outcome : FileOutcome) (trees : List Tree) → IsAdded before outcome trees → IsTurnedAway outcome → (trees ≡ []) × (with_games before trees ≡ before)
turned_away before (file.Accepted games) trees added away = absurd away
turned_away before (file.Refused of at) trees added away = (added, sym (with_games-is before trees added))
turned_away before (file.Full games nodes) trees added away = (added, sym (with_games-is before trees added))
turned_away before file.Unread trees added away = (added, sym (with_games-is before trees added))

-- the counts of a base with more games
counts_of-append : (trees more : List Tree) → with_games (counts_of trees) more ≡ counts_of (trees ++ more)
counts_of-append trees more =
    let games : length trees + length more ≡ length (trees ++ more) = rw length-append refl in
    let nodes : nodes_of_trees trees + nodes_of_trees more ≡ nodes_of_trees (trees ++ more) = sym (nodes_of_trees-append trees more) in
    cc

-- a base whose counts are known gets more games
pub counts_of-more : (before after : Counts) (games found more : List Game) → before ≡ counts_of (trees_in games) → AreAdded before after (trees_in found) → more ≡ games ++ found → after ≡ counts_of (trees_in more)
counts_of-more before after games found more h added pushed =
    rw (pushed, trees_in-append games found)
    (added ∙ ap (λ (c : Counts). with_games c (trees_in found)) h ∙ counts_of-append (trees_in games) (trees_in found))
