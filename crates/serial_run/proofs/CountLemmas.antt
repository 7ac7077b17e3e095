-- The nodes of games, counted one game after another.
use Rattle.std.proofs.Common.{◌≡◌, ℕ, ◌+◌, ◌<◌, ◌≤◌, List, [], ◌∷◌, ◌++◌, get_or, length, map, take, drop, ap, ◌∙◌, arith}
use Rattle.std.proofs.lemmas.List.{map-append, take-append-drop}
use Rattle.std.proofs.lemmas.List.Sums.{sum_by-append}
use Rattle.game_tree.specs.Tree.{node_count}
use Rattle.node_position.specs.Games.{Game}
use Rattle.import_work.specs.Course.{trees_in}
use Rattle.import_work.specs.Outcome.{nodes_of_trees}
use Rattle.serial_run.proofs.RunLemmas.{taken_more}

module _ {X : Type 0} (now : X → Game) where
  -- the nodes of these games
  abbrev nodes : List X → ℕ
  nodes games = nodes_of_trees (trees_in (map now games))

  nodes-append : (games more : List X) → nodes (games ++ more) ≡ nodes games + nodes more
  nodes-append games more =
      ap (λ gs. nodes_of_trees (trees_in gs)) (map-append now games more)
      ∙ ap nodes_of_trees (map-append (λ (g : Game). g.tree) (map now games) (map now more))
      ∙ sum_by-append node_count (trees_in (map now games)) (trees_in (map now more))

  -- with one game more
  pub nodes-more : (games : List X) (i : ℕ) (game : X) → i < length games → game ≡ get_or games i game → nodes (take (i + 1) games) ≡ nodes (take i games) + node_count (now game).tree
  nodes-more games i game below is =
      let one : nodes (game ∷ []) ≡ node_count (now game).tree = omega arith in
      ap nodes (taken_more games i game below is) ∙ nodes-append (take i games) (game ∷ []) ∙ ap (λ n. nodes (take i games) + n) one

  -- the first ones have no more than all
  pub nodes-most : (games : List X) (i : ℕ) → nodes (take i games) ≤ nodes games
  nodes-most games i = omega (arith, nodes-append (take i games) (drop i games), ap nodes (take-append-drop i games))
