-- How a tree is stored: definitions for the private functions of trees.
use Rattle.std.specs.Prelude.{◌≡◌, ◌≢◌, ℕ, ◌+◌, ◌-◌, ◌<◌, ◌≤◌, nat_lt, filter, List, [], ◌∷◌, length, map, drop, slice_index_or, Option, Some, None, All, is_some}
use Rattle.std.specs.List.{range_with_len, between}
use Rattle.std.specs.Option.{option_map_or}
use Rattle.node_paths.specs.StoredNodes.{AreParts, part_start, stored_parent}
use Rattle.kb_geometry.specs.declared.shape.Shape.{Shape}
use Rattle.kb_geometry.specs.Counts.{one_if}
use Rattle.game_tree.specs.declared.node.Setup.{Setup}
use Rattle.game_tree.specs.declared.stored.TreeNode.{TreeNode}
use Rattle.game_tree.specs.Built.{Built, IsGrown, tree_so_far}
use Rattle.game_tree.specs.Information.{Information}
use Rattle.game_tree.specs.Tree.{Tree, Node, IsTree, node_count, parent_of, children_of, next_sibling_of, move_number_of}
use Rattle.kb_geometry.specs.Board.{IsOrderedRectOnBoard}

-- the stored node with this number
abbrev pub tree_node : List TreeNode → ℕ → TreeNode
tree_node ts n =
    slice_index_or ts n
    (record { parent = 0; next_sibling = 0; moves_above = 0; setups_end = 0; played = None })

-- where the setups of a node end
abbrev pub end_of_setups : List TreeNode → ℕ → ℕ
end_of_setups ts n = (tree_node ts n).setups_end

-- where the setups of a node begin: where those of the node before it end
abbrev pub setups_start : List TreeNode → ℕ → ℕ
setups_start ts n = part_start (end_of_setups ts) n

-- the node with this number
abbrev pub shown_node : List TreeNode → List Setup → ℕ → Node
shown_node ts setups n = record {
  parent = stored_parent (λ (k : ℕ). (tree_node ts k).parent) n;
  setups = between (setups_start ts n) (end_of_setups ts n) setups;
  played = (tree_node ts n).played;
}

-- the nodes
abbrev pub shown_nodes : List TreeNode → List Setup → List Node
shown_nodes ts setups = map (shown_node ts setups) (range_with_len 0 (length ts))

-- the tree
abbrev pub shown_tree : Shape → Information → List TreeNode → List Setup → Tree
shown_tree shape info ts setups = record {
  shape = shape;
  info = info;
  nodes = shown_nodes ts setups;
}

-- what is being built: the setups behind those of the last node are those of the node that is being
-- read
abbrev pub shown_built : Shape → List TreeNode → List Setup → Built
shown_built shape ts setups = record {
  shape = shape;
  nodes = shown_nodes ts setups;
  pending = drop (setups_start ts (length ts)) setups;
  setup_count = length setups;
}

-- the number, or 0 if there is none
abbrev pub or_zero : Option ℕ → ℕ
or_zero o = option_map_or (λ n. n) o 0

-- The nodes below this number are those of the main line: each is the child of the one before, and
-- the next node is not.
pub record IsMainEnd (tree : Tree) (main : ℕ) : Type 0 where
  pub within : main ≤ node_count tree
  pub some : 1 ≤ node_count tree → 1 ≤ main
  pub line : (n : ℕ) → n + 1 < main → parent_of tree (n + 1) ≡ Some n
  pub ended : main < node_count tree → parent_of tree main ≢ Some (main - 1)

-- the nodes' setups are parts of the list
abbrev pub AreSetupEnds : List TreeNode → List Setup → Type 0
AreSetupEnds ts setups = AreParts (end_of_setups ts) (length ts) (length setups)

-- the stored numbers are those of the tree: the next siblings, the moves above each node, and the
-- end of the main line
pub record AreLinks (tree : Tree) (ts : List TreeNode) (main : ℕ) : Type 0 where
  pub siblings : (n : ℕ) →
      n < length ts →
      (tree_node ts n).next_sibling ≡ or_zero (next_sibling_of tree n)
  pub moves : (n : ℕ) →
      n < length ts →
      (tree_node ts n).moves_above + one_if (is_some (tree_node ts n).played)
      ≡ move_number_of tree n
  pub main_end : IsMainEnd tree main

-- a whole tree is stored
pub record IsStored (shape : Shape) (info : Information) (ts : List TreeNode)
    (setups : List Setup) (main : ℕ) : Type 0 where
  pub tree : IsTree (shown_tree shape info ts setups)
  pub ends : AreSetupEnds ts setups
  pub links : AreLinks (shown_tree shape info ts setups) ts main

-- the beginning of a tree is stored, and perhaps setups of its next node
pub record IsBeginning (shape : Shape) (ts : List TreeNode) (setups : List Setup)
    (main : ℕ) : Type 0 where
  pub grown : IsGrown (tree_so_far (shown_built shape ts setups))
  pub ends : AreSetupEnds ts setups
  pub links : AreLinks (tree_so_far (shown_built shape ts setups)) ts main
  pub pending :
      All (λ (s : Setup). IsOrderedRectOnBoard shape s.rect)
      (drop (setups_start ts (length ts)) setups)
  pub room : length setups < 4294967296

-- a node, if there is one, and then the later children of its parent
abbrev pub siblings_from : Tree → Option ℕ → List ℕ
siblings_from tree None = []
siblings_from tree (Some n) =
    n ∷ option_map_or (λ m. filter (nat_lt n) (children_of tree m)) (parent_of tree n) []
