-- The path from a node up to the root, by the numbers of the parents.
use Prim.Native.Nat.{zero}
use Rattle.std.specs.Prelude.{ℕ, ◌+◌, suc, List, [], ◌∷◌, Option}
use Rattle.std.specs.Option.{option_map_or}

-- the path from a node up to the root, the node itself first, of at most so many nodes
abbrev pub path_within : (ℕ → Option ℕ) → ℕ → ℕ → List ℕ
path_within parent zero n = []
path_within parent (suc most) n = n ∷ option_map_or (path_within parent most) (parent n) []

-- the path from a node up to the root: a parent's number is less than its child's
abbrev pub path_to : (ℕ → Option ℕ) → ℕ → List ℕ
path_to parent n = path_within parent (n + 1) n
