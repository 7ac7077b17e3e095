-- Games as a base keeps them, and the changes at the nodes of a game.
use Rattle.std.specs.Prelude.{ℕ, List}
use Rattle.kb_geometry.specs.Capture.{Position}
use Rattle.game_tree.specs.Position.{ArePositions}
use Rattle.game_tree.specs.Tree.{Tree}
use Rattle.capture_board.specs.Deltas.{AreDeltas, Deltas}
use Rattle.node_position.specs.Positions.{AreDeltasOf}

-- a game: the name of its file, its place among the games of the file, from 0, and its tree
pub record Game : Type 0 where
  pub file : List ℕ
  pub place : ℕ
  pub tree : Tree

-- The changes at the nodes of a tree: net changes, which lead to the positions there.
pub record AreNodeChanges (tree : Tree) (changes : Deltas) : Type 0 where
  pub positions : List Position
  pub are_positions : ArePositions tree positions
  pub net : AreDeltas changes
  pub lead : AreDeltasOf tree positions changes
