-- Each value stands behind its bracket `[`.
use Rattle.std.proofs.Common.{ℕ, ◌≤◌, sym, subst, arith, List, ◌++◌, Option, All}
use Rattle.std.proofs.lemmas.Grind.{flat_map-append}
use Rattle.std.proofs.lemmas.List.Elements.{All-append, All-cons, All-nil}
use Rattle.sgf_reader.specs.declared.collection.Pair.{Pair}
use Rattle.sgf_reader.specs.declared.collection.Span.{Span}
use Rattle.sgf_reader.specs.Grammar.{AreNodes, AreProperties, AreTreeTexts, AreValues, HasGames, IsTreeText, SpelledGame, SpelledNode, in_brackets}
use Rattle.sgf_reader.proofs.ReadAscending.{all_pairs, pairs_of_nodes}

-- the value begins behind a byte
abbrev pub IsBehindBracket : Pair → Type 0
IsBehindBracket pair = 1 ≤ pair.value.from

values-place : (name : Span) (at : ℕ) (text : List ℕ) (pairs : List Pair) → AreValues name at text pairs → All IsBehindBracket pairs
values-place name at _ _ AreValues.none = All-nil IsBehindBracket
values-place name at _ _ (AreValues.one_more white value rest {pairs = pairs} w v more) = All-cons IsBehindBracket _ pairs (omega arith) (values-place name _ rest pairs more)

properties-place : (at : ℕ) (text : List ℕ) (pairs : List Pair) → AreProperties at text pairs → All IsBehindBracket pairs
properties-place at _ _ AreProperties.none = All-nil IsBehindBracket
properties-place at _ _ (AreProperties.one_more white name values rest pairs more w n v some others) = All-append IsBehindBracket pairs more (values-place _ _ values pairs v) (properties-place _ rest more others)

nodes-place : (depth : ℕ) (opened parent : Option ℕ) (number at : ℕ) (text : List ℕ) (nodes : List SpelledNode) → AreNodes depth opened parent number at text nodes → All IsBehindBracket (pairs_of_nodes nodes)
nodes-place depth opened parent number at _ _ AreNodes.none = All-nil IsBehindBracket
nodes-place depth opened parent number at _ _ (AreNodes.one_more white properties rest {pairs = pairs} {nodes = nodes} w p more) = All-append IsBehindBracket pairs (pairs_of_nodes nodes) (properties-place _ properties pairs p) (nodes-place depth _ _ _ _ rest nodes more)

joined : (nodes more : List SpelledNode) → All IsBehindBracket (pairs_of_nodes nodes) → All IsBehindBracket (pairs_of_nodes more) → All IsBehindBracket (pairs_of_nodes (nodes ++ more))
joined nodes more a b = subst (All IsBehindBracket) (sym (flat_map-append (λ (node : SpelledNode). node.pairs) nodes more)) (All-append IsBehindBracket (pairs_of_nodes nodes) (pairs_of_nodes more) a b)

mutual
  tree-place : (depth : ℕ) (parent : Option ℕ) (number at : ℕ) (text : List ℕ) (nodes : List SpelledNode) → IsTreeText depth parent number at text nodes → All IsBehindBracket (pairs_of_nodes nodes)
  tree-place depth parent number at _ _ (in_brackets sequence inner white nodes inside own some trees w) = joined nodes inside (nodes-place _ _ _ _ _ sequence nodes own) (trees-place _ _ _ _ inner inside trees)

  trees-place : (depth : ℕ) (parent : Option ℕ) (number at : ℕ) (text : List ℕ) (nodes : List SpelledNode) → AreTreeTexts depth parent number at text nodes → All IsBehindBracket (pairs_of_nodes nodes)
  trees-place depth parent number at _ _ AreTreeTexts.none = All-nil IsBehindBracket
  trees-place depth parent number at _ _ (AreTreeTexts.one_more white text rest nodes more w tree others) = joined nodes more (tree-place depth parent number _ text nodes tree) (trees-place depth parent _ _ rest more others)

-- each value of the games that a text has stands behind its bracket
pub read-behind_bracket : (at : ℕ) (text : List ℕ) (games : List SpelledGame) → HasGames at text games → All IsBehindBracket (all_pairs games)
read-behind_bracket at _ _ HasGames.end = All-nil IsBehindBracket
read-behind_bracket at _ games (HasGames.skipped {rest = rest} none more) = read-behind_bracket _ rest games more
read-behind_bracket at _ _ (HasGames.with_game text rest {nodes = nodes} {games = games} tree more) = All-append IsBehindBracket (pairs_of_nodes nodes) (all_pairs games) (tree-place _ _ _ _ text nodes tree) (read-behind_bracket _ rest games more)
