-- The position at each node of a tree.
use Rattle.std.specs.Prelude.{◌≡◌, ℕ, ◌<◌, List, [], ◌∷◌, length, slice_index_or, Option, Some, None}
use Rattle.std.specs.Option.{option_map_or}
use Rattle.kb_geometry.specs.declared.shape.Shape.{Shape}
use Rattle.kb_geometry.specs.Capture.{Position, empty_board, with_rect, IsMovePlayed}
use Rattle.game_tree.specs.declared.node.Setup.{Setup}
use Rattle.game_tree.specs.declared.node.Move.{Move}
use Rattle.game_tree.specs.Tree.{Tree, node_at, node_count, parent_of}

-- the position after these setups, one after another
abbrev pub set_up_all : Shape → Position → List Setup → Position
set_up_all shape position [] = position
set_up_all shape position (s ∷ ss) = set_up_all shape (with_rect shape position s.cell s.rect) ss

-- the position after what a node plays, if it plays anything
abbrev pub IsMoved : Shape → Position → Option Move → Position → Type 0
IsMoved shape before None after = after ≡ before
IsMoved shape before (Some m) after = IsMovePlayed shape before m.colour m.point after

-- the position at a node's parent, or the empty board above the root
abbrev pub position_above : Tree → List Position → ℕ → Position
position_above tree positions n =
    option_map_or (λ m. slice_index_or positions m []) (parent_of tree n) (empty_board tree.shape)

-- These are the positions at the nodes: each comes from the one at the node's parent, or from the
-- empty board at the root, by the node's setups in order and then its move.
pub record ArePositions (tree : Tree) (positions : List Position) : Type 0 where
  pub each_node : length positions ≡ node_count tree
  pub steps : (n : ℕ) →
      n < node_count tree →
      IsMoved tree.shape (set_up_all tree.shape (position_above tree positions n)
      (node_at tree n).setups) (node_at tree n).played (slice_index_or positions n [])
