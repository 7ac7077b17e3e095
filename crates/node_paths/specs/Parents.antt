-- Nodes in order of the text, by the numbers of their parents. A parent function gives the number
-- of a node's parent, or none.
use Rattle.std.specs.Prelude.{◌≡◌, ℕ, ◌-◌, ◌<◌, ◌≤◌, Option, Some, None}

-- a is n or an ancestor of n
pub data IsOnPathTo (parent : ℕ → Option ℕ) : ℕ → ℕ → Type 0 where
  itself : {n : ℕ} → IsOnPathTo parent n n
  higher : {a m n : ℕ} → parent n ≡ Some m → IsOnPathTo parent a m → IsOnPathTo parent a n

-- The node n may have this parent: the first node has none, and that of each later one is the node
-- before it, or an ancestor of that.
abbrev pub MayHaveParent : (ℕ → Option ℕ) → ℕ → Option ℕ → Type 0
MayHaveParent parent n None = n ≡ 0
MayHaveParent parent n (Some m) = (m < n) × IsOnPathTo parent m (n - 1)

-- These are the parents of so many nodes: each node's is one that it may have, and no number past
-- them has one.
pub record AreParents (parent : ℕ → Option ℕ) (count : ℕ) : Type 0 where
  pub each : (n : ℕ) → n < count → MayHaveParent parent n (parent n)
  pub past : (n : ℕ) → count ≤ n → parent n ≡ None
