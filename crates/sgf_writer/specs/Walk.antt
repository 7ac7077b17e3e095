-- For the writer's private functions: the brackets round a node's text, and what is written between
-- two nodes.
use Rattle.std.specs.Prelude.{◌≡◌, ℕ, nat_lt, Bool, List, [], ◌++◌, length, Option, Some, None, codes, if◌then◌else◌}
use Rattle.std.specs.Option.{option_map_or}
use Rattle.game_tree.specs.Tree.{Tree, children_of, first_child_of, next_sibling_of, parent_of}

-- brackets stand round the text from this node on: that of the root, and that of each of several
-- children
abbrev pub in_brackets : Tree → ℕ → Bool
in_brackets tree n = option_map_or (λ p. nat_lt 1 (length (children_of tree p)))
    (parent_of tree n) Bool.true

-- what stands before the node
abbrev pub opening : Tree → ℕ → List ℕ
opening tree n = if in_brackets tree n then codes "(" else []

-- what stands behind the last node below the node, for the node's own sake
abbrev pub closing : Tree → ℕ → List ℕ
closing tree n = if in_brackets tree n then codes ")" else []

-- Behind the last node below this one stands this text, and then this node, if there is one.
pub data Closes (tree : Tree) : ℕ → Option ℕ → List ℕ → Type 0 where
  before_sibling : {n s : ℕ} → next_sibling_of tree n ≡ Some s →
      Closes tree n (Some s) (closing tree n)
  at_end : {n : ℕ} → parent_of tree n ≡ None → Closes tree n None (closing tree n)
  last_child : {n p : ℕ} {next : Option ℕ} {text : List ℕ} →
      next_sibling_of tree n ≡ None →
      parent_of tree n ≡ Some p →
      Closes tree p next text →
      Closes tree n next (closing tree n ++ text)

-- Behind this node stands this text, and then this node, if there is one.
pub data Follows (tree : Tree) : ℕ → Option ℕ → List ℕ → Type 0 where
  before_child : {n c : ℕ} → first_child_of tree n ≡ Some c → Follows tree n (Some c) []
  behind_leaf : {n : ℕ} {next : Option ℕ} {text : List ℕ} →
      first_child_of tree n ≡ None →
      Closes tree n next text →
      Follows tree n next text
