-- What is known of the raw games of a text without a fault.
use Rattle.std.proofs.Common.{◌≡◌, ℕ, ◌≤◌, ap, sym, subst, refl, ◌∙◌, arith, List, [], ◌∷◌, ◌++◌, length, map, All, Contains, flat_map}
use Rattle.std.proofs.lemmas.List.{length-map}
use Rattle.std.proofs.lemmas.List.Elements.{All-append, All-cons, All-head, All-nil, All-tail}
use Rattle.sgf_reader.specs.declared.collection.Collection.{Collection}
use Rattle.sgf_reader.specs.declared.collection.Pair.{Pair}
use Rattle.sgf_reader.specs.declared.collection.RawGame.{RawGame}
use Rattle.sgf_reader.specs.Limits.{most_nodes, most_open}
use Rattle.sgf_reader.specs.Grammar.{SpelledGame, SpelledNode, raw_game, raw_node}
use Rattle.sgf_reader.specs.Faults.{IsRead}
use Rattle.sgf_reader.proofs.NodeParents.{AreHung}
use Rattle.sgf_reader.proofs.ReadBounds.{GameFits, NodeFits, PairFits, read-bounds}
use Rattle.sgf_reader.proofs.ReadAscending.{all_pairs, pairs_of_nodes, read-ascending}
use Rattle.sgf_reader.proofs.ReadParents.{depths_of, parents_of, read-parents}
use Rattle.sgf_reader.proofs.ValuePlaces.{IsBehindBracket, read-behind_bracket}
use Rattle.game_tree.specs.NodeValues.{Ascend, LiesIn}
use Rattle.game_tree.specs.RawGames.{node_pairs, raw_parents}
use Rattle.game_tree.proofs.Parts.{All-back, All-front, Contains-head, Contains-later}

-- the values of raw games
abbrev pub game_pairs : List RawGame → List Pair
game_pairs raws = flat_map (λ (raw : RawGame). node_pairs raw.nodes) raws

-- a raw game of a text of this length: its values lie in the text, and its nodes hang below each other
pub record GameIsRead (end : ℕ) (raw : RawGame) : Type 0 where
  pub some : 1 ≤ length raw.nodes
  pub few : length raw.nodes ≤ most_nodes
  pub inside : All (LiesIn end) (node_pairs raw.nodes)
  pub depths : List ℕ
  pub hung : AreHung (raw_parents raw.nodes) depths
  pub as_many : length depths ≡ length raw.nodes
  pub shallow : All (λ (depth : ℕ). depth ≤ most_open) depths

-- the raw games of a text of this length
pub record GamesAreRead (end : ℕ) (raws : List RawGame) : Type 0 where
  pub each : All (GameIsRead end) raws
  pub ascending : Ascend (game_pairs raws)

-- the values of the raw nodes are those of the spelled ones
node_pairs-raw : (nodes : List SpelledNode) → node_pairs (map raw_node nodes) ≡ pairs_of_nodes nodes
node_pairs-raw [] = refl
node_pairs-raw (node ∷ nodes) = ap (λ rest. node.pairs ++ rest) (node_pairs-raw nodes)

game_pairs-raw : (games : List SpelledGame) → game_pairs (map raw_game games) ≡ all_pairs games
game_pairs-raw [] = refl
game_pairs-raw (game ∷ games) = ap (λ own. own ++ game_pairs (map raw_game games)) (node_pairs-raw game.nodes) ∙ ap (λ rest. pairs_of_nodes game.nodes ++ rest) (game_pairs-raw games)

raw_parents-raw : (nodes : List SpelledNode) → raw_parents (map raw_node nodes) ≡ parents_of nodes
raw_parents-raw [] = refl
raw_parents-raw (node ∷ nodes) = ap (λ rest. node.parent ∷ rest) (raw_parents-raw nodes)

-- a value within the text, behind its bracket
lies : (end : ℕ) (pair : Pair) → PairFits end pair → IsBehindBracket pair → LiesIn end pair
lies end pair fits behind = record { name = fits.0.0; name_in = fits.0.1; bracket = behind; value = fits.1.0; value_in = fits.1.1 }

pairs-inside : (end : ℕ) (pairs : List Pair) → All (PairFits end) pairs → All IsBehindBracket pairs → All (LiesIn end) pairs
pairs-inside end [] fits behind = All-nil (LiesIn end)
pairs-inside end (pair ∷ pairs) fits behind = All-cons (LiesIn end) pair pairs (lies end pair (All-head (PairFits end) pair pairs fits) (All-head IsBehindBracket pair pairs behind)) (pairs-inside end pairs (All-tail (PairFits end) pair pairs fits) (All-tail IsBehindBracket pair pairs behind))

nodes-fit : (end : ℕ) (nodes : List SpelledNode) → All (NodeFits end) nodes → All (PairFits end) (pairs_of_nodes nodes)
nodes-fit end [] fits = All-nil (PairFits end)
nodes-fit end (node ∷ nodes) fits = All-append (PairFits end) node.pairs (pairs_of_nodes nodes) ((All-head (NodeFits end) node nodes fits).1) (nodes-fit end nodes (All-tail (NodeFits end) node nodes fits))

nodes-shallow : (end : ℕ) (nodes : List SpelledNode) → All (NodeFits end) nodes → All (λ (depth : ℕ). depth ≤ most_open) (depths_of nodes)
nodes-shallow end [] fits = All-nil (λ (depth : ℕ). depth ≤ most_open)
nodes-shallow end (node ∷ nodes) fits = All-cons (λ (depth : ℕ). depth ≤ most_open) node.depth (depths_of nodes) ((All-head (NodeFits end) node nodes fits).0) (nodes-shallow end nodes (All-tail (NodeFits end) node nodes fits))

game-read : (end : ℕ) (game : SpelledGame) → GameFits end game → All IsBehindBracket (pairs_of_nodes game.nodes) → AreHung (parents_of game.nodes) (depths_of game.nodes) → GameIsRead end (raw_game game)
game-read end game fits behind hung = record {
  some = omega (arith, fits.some, length-map game.nodes raw_node);
  few = omega (arith, fits.few, length-map game.nodes raw_node);
  inside = subst (All (LiesIn end)) (sym (node_pairs-raw game.nodes)) (pairs-inside end (pairs_of_nodes game.nodes) (nodes-fit end game.nodes fits.nodes) behind);
  depths = depths_of game.nodes;
  hung = subst (λ parents. AreHung parents (depths_of game.nodes)) (sym (raw_parents-raw game.nodes)) hung;
  as_many = length-map game.nodes (λ (node : SpelledNode). node.depth) ∙ sym (length-map game.nodes raw_node);
  shallow = nodes-shallow end game.nodes fits.nodes;
}

each-read : (end : ℕ) (games : List SpelledGame) → All (GameFits end) games → All IsBehindBracket (all_pairs games) → ((game : SpelledGame) → Contains games game → AreHung (parents_of game.nodes) (depths_of game.nodes)) → All (GameIsRead end) (map raw_game games)
each-read end [] fits behind hung = All-nil (GameIsRead end)
each-read end (game ∷ games) fits behind hung =
    All-cons (GameIsRead end) (raw_game game) (map raw_game games)
    (game-read end game (All-head (GameFits end) game games fits) (All-front IsBehindBracket (pairs_of_nodes game.nodes) (all_pairs games) behind) (hung game (Contains-head game games)))
    (each-read end games (All-tail (GameFits end) game games fits) (All-back IsBehindBracket (pairs_of_nodes game.nodes) (all_pairs games) behind) (λ other there. hung other (Contains-later game games other there)))

-- what is known of the games of a text without a fault
pub games-read : (text : List ℕ) (collection : Collection) → IsRead text collection → GamesAreRead (length text) collection.games
games-read text collection (games, h, is) =
    let fits = read-bounds text games h in
    let raws : collection.games ≡ map raw_game games = ap (λ (c : Collection). c.games) is in
    subst (GamesAreRead (length text)) (sym raws) (record {
      each = each-read (length text) games fits.each (read-behind_bracket 0 text games h.spells.0) (read-parents text games h.spells.0);
      ascending = subst Ascend (sym (game_pairs-raw games)) (read-ascending text games h.spells.0);
    })
