-- A game tree: its nodes in order of the text, each with its parent, its setups and its move.
use Rattle.std.specs.Prelude.{ℕ, ◌<◌, ◌≤◌, ◌==◌, nat_lt, Bool, false, List, length, slice_index_or, [], ◌∷◌, Option, Some, None, IfSome, All, filter, count_by, is_some, option_and_then}
use Rattle.std.specs.Option.{option_map_or}
use Rattle.std.specs.List.{range_with_len}
use Rattle.node_paths.specs.Parents.{AreParents}
use Rattle.node_paths.specs.Paths.{path_to}
use Rattle.kb_geometry.specs.declared.shape.Shape.{Shape}
use Rattle.kb_geometry.specs.declared.shape.Point.{Point}
use Rattle.kb_geometry.specs.Board.{IsOnBoard, IsOrderedRectOnBoard}
use Rattle.game_tree.specs.declared.node.Setup.{Setup}
use Rattle.game_tree.specs.declared.node.Move.{Move}
use Rattle.game_tree.specs.Information.{Information, HasSimpleTexts}

-- a node: the number of its parent, what it sets up, and what it plays
pub record Node : Type 0 where
  pub parent : Option ℕ
  pub setups : List Setup
  pub played : Option Move

-- a game: its board, its information, and its nodes in order of the text
pub record Tree : Type 0 where
  pub shape : Shape
  pub info : Information
  pub nodes : List Node

abbrev pub node_count : Tree → ℕ
node_count tree = length tree.nodes

-- the node with this number, or one without parent, setups and move
abbrev pub node_at : Tree → ℕ → Node
node_at tree n = slice_index_or tree.nodes n (record { parent = None; setups = []; played = None })

abbrev pub parent_of : Tree → ℕ → Option ℕ
parent_of tree n = (node_at tree n).parent

-- what a node sets up and plays lies on the board
pub record IsNodeOnBoard (shape : Shape) (node : Node) : Type 0 where
  pub setups : All (λ (s : Setup). IsOrderedRectOnBoard shape s.rect) node.setups
  pub played : IfSome node.played (λ (m : Move). IfSome m.point (λ (p : Point). IsOnBoard shape p))

-- the node's parent is m
abbrev pub is_child_of : Tree → ℕ → ℕ → Bool
is_child_of tree m n = option_map_or (λ p. p == m) (parent_of tree n) false

-- the children of a node, in order of the text
abbrev pub children_of : Tree → ℕ → List ℕ
children_of tree m = filter (is_child_of tree m) (range_with_len 0 (node_count tree))

-- the first of these numbers, if there is one
abbrev pub first_number : List ℕ → Option ℕ
first_number [] = None
first_number (n ∷ ns) = Some n

-- the first child of a node
abbrev pub first_child_of : Tree → ℕ → Option ℕ
first_child_of tree m = first_number (children_of tree m)

-- the next child of the node's parent
abbrev pub next_sibling_of : Tree → ℕ → Option ℕ
next_sibling_of tree n =
    option_and_then (λ m. first_number (filter (nat_lt n) (children_of tree m))) (parent_of tree n)

-- how many nodes on the path from the root to the node, both ends among them, have more than one
-- child
abbrev pub branchings_to : Tree → ℕ → ℕ
branchings_to tree n =
    count_by (λ m. nat_lt 1 (length (children_of tree m))) (path_to (parent_of tree) n)

-- the number of moves and passes on the path from the root to the node, both ends among them
abbrev pub move_number_of : Tree → ℕ → ℕ
move_number_of tree n = count_by (λ m. is_some (node_at tree m).played) (path_to (parent_of tree) n)

-- There is a root, and the parent of each other node is the node before it, or an ancestor of that.
-- Behind a node with more than one child each child's text stands in brackets, so of the brackets
-- of the written text at most 1,024 are open at one time, that of the whole tree among them.
pub record IsTree (tree : Tree) : Type 0 where
  pub some : 1 ≤ node_count tree
  pub most : node_count tree ≤ 65536
  pub parents : AreParents (parent_of tree) (node_count tree)
  pub on_board : (n : ℕ) → n < node_count tree → IsNodeOnBoard tree.shape (node_at tree n)
  pub depth : (n : ℕ) → n < node_count tree → branchings_to tree n < 1024
  pub texts : HasSimpleTexts tree.info
