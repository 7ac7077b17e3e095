-- Nodes that are stored: the numbers of their parents, and the parts that they have of one list.
use Prim.Native.Nat.{zero}
use Rattle.std.specs.Prelude.{ℕ, ◌<◌, ◌≤◌, suc, Option, Some, None}

-- The parent of a node, by the number that is stored for each node. The root has none, whatever is
-- stored there.
abbrev pub stored_parent : (ℕ → ℕ) → ℕ → Option ℕ
stored_parent number zero = None
stored_parent number (suc n) = Some (number (suc n))

-- where a node's part begins: where that of the node before it ends
abbrev pub part_start : (ℕ → ℕ) → ℕ → ℕ
part_start end zero = 0
part_start end (suc n) = end n

-- the parts of so many nodes end behind their starts, and within a list of this length
pub record AreParts (end : ℕ → ℕ) (count whole : ℕ) : Type 0 where
  pub starts : (n : ℕ) → n < count → part_start end n ≤ end n
  pub ends : (n : ℕ) → n < count → end n ≤ whole
