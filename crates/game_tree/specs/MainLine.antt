-- The main line: the root, and from there always the first child.
use Rattle.std.specs.Prelude.{◌≡◌, ℕ, Some}
use Rattle.game_tree.specs.Tree.{Tree, first_child_of}

-- the node lies on the main line
pub data IsOnMainLine (tree : Tree) : ℕ → Type 0 where
  root : IsOnMainLine tree 0
  first_child : {m n : ℕ} → IsOnMainLine tree m → first_child_of tree m ≡ Some n →
      IsOnMainLine tree n
