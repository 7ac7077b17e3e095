-- A tree that is being built, node by node in order of the text.
use Rattle.std.specs.Prelude.{ℕ, ◌+◌, ◌<◌, ◌≤◌, List, [], ◌∷◌, ◌++◌, length, Option}
use Rattle.node_paths.specs.Parents.{AreParents, MayHaveParent}
use Rattle.kb_geometry.specs.declared.shape.Shape.{Shape}
use Rattle.game_tree.specs.declared.node.Setup.{Setup}
use Rattle.game_tree.specs.declared.node.Move.{Move}
use Rattle.game_tree.specs.Information.{Information, no_information}
use Rattle.game_tree.specs.Tree.{Tree, Node, IsNodeOnBoard, node_count, node_at, parent_of}

-- the board, the nodes that were read, the setups so far of the node that is being read, and the
-- number of all setups
pub record Built : Type 0 where
  pub shape : Shape
  pub nodes : List Node
  pub pending : List Setup
  pub setup_count : ℕ

-- nothing was read yet
abbrev pub nothing_built : Shape → Built
nothing_built shape = record { shape = shape; nodes = []; pending = []; setup_count = 0 }

-- one setup more of the node that is being read
abbrev pub with_setup : Built → Setup → Built
with_setup b s = record {
  shape = b.shape;
  nodes = b.nodes;
  pending = b.pending ++ s ∷ [];
  setup_count = b.setup_count + 1;
}

-- the node that is being read ends: it has this parent, the setups so far, and this move
abbrev pub with_node : Built → Option ℕ → Option Move → Built
with_node b parent played = record {
  shape = b.shape;
  nodes = b.nodes ++ record { parent = parent; setups = b.pending; played = played } ∷ [];
  pending = [];
  setup_count = b.setup_count;
}

-- the tree of the nodes that were read
abbrev pub tree_of : Built → Information → Tree
tree_of b info = record { shape = b.shape; info = info; nodes = b.nodes }

-- the tree of the nodes that were read, with nothing told of the game
abbrev pub tree_so_far : Built → Tree
tree_so_far b = tree_of b no_information

-- the node with this parent can come next
abbrev pub IsNextParent : Built → Option ℕ → Type 0
IsNextParent b parent = MayHaveParent (parent_of (tree_so_far b)) (length b.nodes) parent

-- The nodes of the list make up a tree but for its bounds on brackets and its texts.
pub record IsGrown (tree : Tree) : Type 0 where
  pub most : node_count tree ≤ 65536
  pub parents : AreParents (parent_of tree) (node_count tree)
  pub on_board : (n : ℕ) → n < node_count tree → IsNodeOnBoard tree.shape (node_at tree n)
