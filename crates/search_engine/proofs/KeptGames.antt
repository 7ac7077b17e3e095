-- Whether a game is kept, and games one after another.
use Rattle.std.proofs.Common.{◌≡◌, ℕ, ◌+◌, ◌<◌, ◌≤◌, List, length, length-append, get_or, take, sym, ap, ◌∙◌, subst, arith}
use Rattle.game_tree.specs.Tree as tree
use Rattle.capture_board.specs.Deltas as deltas
use Rattle.node_position.specs.Games.{AreNodeChanges}
use Rattle.pattern_images.specs.declared.query.Query.{Query}
use Rattle.pattern_images.specs.Query.{IsForBoard}
use Rattle.search_engine.specs.declared.item.Item.{Item}
use Rattle.search_engine.specs.Items.{AreNumberedFrom, games_of_item, games_of_items}
use Rattle.search_engine.specs.KeptGames.{AreKept, IsKeptGame}
use Rattle.search_engine.proofs.ItemLists.{games_to_next}
use Rattle.search_engine.proofs.KeptCounts.{AreKept-append}

-- the changes of a tree have a node
pub some_node : (game : tree.Tree) → tree.IsTree game → (changes : deltas.Deltas) → AreNodeChanges game changes → 0 < deltas.node_count changes
some_node game is_tree changes of = omega (arith, is_tree.some, of.lead.each_node)

module _ (query : Query) (game : tree.Tree) where
  -- a kept game is on a board on which the query looks
  pub kept_on_board : IsKeptGame query game → IsForBoard query game.shape
  kept_on_board is = (is.are_placements.sound is.kept.0 is.kept.1 is.kept.2).board

-- how many games of the first blocks are kept, one block more
pub AreKept-block : (query : Query) (items : List Item) (k : ℕ) (i : Item) (count more : ℕ) → k < length items → i ≡ get_or items k i
    → AreKept query (games_of_items (take k items)) count → AreKept query (games_of_item i) more → AreKept query (games_of_items (take (k + 1) items)) (count + more)
AreKept-block query items k i count more lt at so_far here =
    subst (λ gs. AreKept query gs (count + more)) (sym (games_to_next items k i lt at)) (AreKept-append query (games_of_items (take k items)) count so_far (games_of_item i) more here)

module _ (items : List Item) (k : ℕ) (i : Item) (lt : k < length items) (at : i ≡ get_or items k i) where
  -- how many games the first blocks have, one block more
  pub games_longer : length (games_of_items (take (k + 1) items)) ≡ length (games_of_items (take k items)) + length (games_of_item i)
  games_longer = ap length (games_to_next items k i lt at) ∙ length-append (games_of_items (take k items)) (games_of_item i)

  -- a block lies within the most games of a version
  pub within_all : AreNumberedFrom 0 items → length (games_of_items (take k items)) + length (games_of_item i) ≤ 400000
  within_all numbered =
      let first : i.first ≡ 0 + length (games_of_items (take k items)) = ap (λ (j : Item). j.first) at ∙ numbered k i lt in
      omega (arith, first, i.fits)
