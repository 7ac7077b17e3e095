-- The changes at each node of a game, and the position at a node: these changes added along the
-- path from the root.
use Rattle.std.specs.Prelude.{ℕ, ◌<◌, ◌≤◌, List, [], ◌∷◌, ◌++◌, length, slice_index_or, Option, None}
use Rattle.std.specs.Option.{option_map_or}
use Rattle.node_paths.specs.Parents.{AreParents, MayHaveParent}
use Rattle.node_paths.specs.Paths.{path_to}
use Rattle.kb_geometry.specs.declared.shape.Shape.{Shape}
use Rattle.kb_geometry.specs.declared.stone.Change.{Change}
use Rattle.kb_geometry.specs.Capture.{Position, empty_board}
use Rattle.capture_board.specs.Changes.{AreChangesOf, with_changes}

-- a node: the number of its parent, and what it changes against the position there
pub record NodeChanges : Type 0 where
  pub parent : Option ℕ
  pub changes : List Change

-- the board of a game and the changes at its nodes, in order of the text
pub record Deltas : Type 0 where
  pub shape : Shape
  pub nodes : List NodeChanges

abbrev pub node_count : Deltas → ℕ
node_count deltas = length deltas.nodes

-- the node with this number, or one without parent and changes
abbrev pub node_at : Deltas → ℕ → NodeChanges
node_at deltas n = slice_index_or deltas.nodes n (record { parent = None; changes = [] })

abbrev pub parent_of : Deltas → ℕ → Option ℕ
parent_of deltas n = (node_at deltas n).parent

abbrev pub changes_of : Deltas → ℕ → List Change
changes_of deltas n = (node_at deltas n).changes

-- the changes of the nodes on a path up to the root, added from the root on to the empty board
abbrev pub position_along : Deltas → List ℕ → Position
position_along deltas [] = empty_board deltas.shape
position_along deltas (n ∷ up) = with_changes (position_along deltas up) (changes_of deltas n)

-- the position at a node
abbrev pub position_at : Deltas → ℕ → Position
position_at deltas n = position_along deltas (path_to (parent_of deltas) n)

-- the position where a walk stands: at a node, or above the root, where the board is empty
abbrev pub position_where : Deltas → Option ℕ → Position
position_where deltas here = option_map_or (position_at deltas) here (empty_board deltas.shape)

-- the next node may have this parent
abbrev pub IsNextParent : Deltas → Option ℕ → Type 0
IsNextParent deltas parent = MayHaveParent (parent_of deltas) (node_count deltas) parent

-- The parent of each node but the first is the node before it, or an ancestor of that. The changes
-- of a node are net changes against the position at its parent, or against the empty board at the
-- root.
pub record AreDeltas (deltas : Deltas) : Type 0 where
  pub most : node_count deltas ≤ 65536
  pub parents : AreParents (parent_of deltas) (node_count deltas)
  pub changes : (n : ℕ) →
      n < node_count deltas →
      AreChangesOf (position_where deltas (parent_of deltas n)) (changes_of deltas n)

-- a board without a node yet
abbrev pub no_nodes : Shape → Deltas
no_nodes shape = record { shape = shape; nodes = [] }

-- the changes of a game with one node more
abbrev pub with_node : Deltas → Option ℕ → List Change → Deltas
with_node deltas parent changes = record {
  shape = deltas.shape;
  nodes = deltas.nodes ++ (record { parent = parent; changes = changes } ∷ []);
}
