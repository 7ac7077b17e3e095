-- The move number of a parent, and the positions at nodes by the changes there.
use Rattle.std.proofs.Common.{◌≡◌, ℕ, ◌<◌, ◌≤◌, List, Some, ap, ◌∙◌, arith}
use Rattle.kb_geometry.specs.Capture.{Position}
use Rattle.game_tree.specs.Position.{ArePositions}
use Rattle.game_tree.specs.Tree as tree
use Rattle.game_tree.proofs.Paths.{move_number-parent}
use Rattle.game_tree.proofs.Trees.{IsGrown-tree}
use Rattle.capture_board.specs.Deltas as deltas
use Rattle.node_position.specs.Games.{AreNodeChanges}
use Rattle.node_position.proofs.OnePosition.{positions-unique}
use Rattle.opening_tree.specs.Entries.{position_in}

-- a parent has no greater move number
pub move_number-above : (game : tree.Tree) → tree.IsTree game → (n m : ℕ) → tree.parent_of game n ≡ Some m → tree.move_number_of game m ≤ tree.move_number_of game n
move_number-above game is_tree n m e = omega (arith, move_number-parent game (IsGrown-tree game is_tree) n m e)

module _ (depth : ℕ) (game : tree.Tree) (is_tree : tree.IsTree game) (changes : deltas.Deltas) (of : AreNodeChanges game changes) where
  -- the positions that the changes lead to are those at the nodes
  pub position-there : (positions : List Position) → ArePositions game positions → (n : ℕ) → n < tree.node_count game → deltas.position_at changes n ≡ position_in positions n
  position-there positions are n lt = of.lead.each_position n lt ∙ ap (λ (ps : List Position). position_in ps n) (positions-unique game of.positions positions is_tree of.are_positions are)
