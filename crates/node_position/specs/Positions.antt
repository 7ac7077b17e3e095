-- The changes at the nodes of a game tree.
use Rattle.std.specs.Prelude.{◌≡◌, ℕ, ◌<◌, List, [], slice_index_or}
use Rattle.kb_geometry.specs.Capture.{Position}
use Rattle.game_tree.specs.Tree as tree
use Rattle.capture_board.specs.Deltas as deltas

-- The board, the nodes and their parents are those of the tree, and the changes added along the
-- path from the root to a node give the position at that node.
pub record AreDeltasOf (game : tree.Tree) (positions : List Position)
    (changes : deltas.Deltas) : Type 0 where
  pub same_shape : changes.shape ≡ game.shape
  pub each_node : deltas.node_count changes ≡ tree.node_count game
  pub parents : (n : ℕ) → n < tree.node_count game →
      deltas.parent_of changes n ≡ tree.parent_of game n
  pub each_position : (n : ℕ) → n < tree.node_count game →
      deltas.position_at changes n ≡ slice_index_or positions n []
