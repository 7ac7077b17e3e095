-- The nodes at which the text goes back: definitions for the private functions.
use Prim.Native.Nat.{zero}
use Rattle.std.specs.Prelude.{◌≡◌, ◌≢◌, ℕ, suc, ◌-◌, ◌==◌, ◌<◌, ◌≤◌, List, [], ◌∷◌, if◌then◌else◌, length, slice_index_or, Option, Some, None}
use Rattle.capture_board.specs.Deltas.{Deltas, parent_of}
use Rattle.capture_index.specs.declared.run.Branch.{Branch}

-- some branch is at the node, and has this parent
abbrev pub HasBranch : List Branch → ℕ → ℕ → Type 0
HasBranch branches n m = (k : ℕ) × (d : Branch) × (k < length branches) ×
    ((slice_index_or branches k d).node ≡ n) × ((slice_index_or branches k d).parent ≡ m)

-- no branch is at the node
abbrev pub HasNoBranch : List Branch → ℕ → Type 0
HasNoBranch branches n = (k : ℕ) (d : Branch) → k < length branches →
    (slice_index_or branches k d).node ≢ n

-- the branches ascend by node
abbrev pub AreAscending : List Branch → Type 0
AreAscending branches = (i j : ℕ) (d e : Branch) → i < j → j < length branches →
    (slice_index_or branches i d).node < (slice_index_or branches j e).node

-- so many branches are at nodes before this one
pub record IsFirstAt (branches : List Branch) (n : ℕ) (count : ℕ) : Type 0 where
  pub most : count ≤ length branches
  pub before : (k : ℕ) (d : Branch) → k < count → (slice_index_or branches k d).node < n
  pub from : (k : ℕ) (d : Branch) → count ≤ k → k < length branches →
      n ≤ (slice_index_or branches k d).node

-- the parent that a branch at the node has, or the node before where no branch is at the node
abbrev pub branch_parent : List Branch → ℕ → ℕ
branch_parent [] n = n - 1
branch_parent (b ∷ bs) n = if b.node == n then b.parent else branch_parent bs n

-- the parent by the branches; the root has none
abbrev pub parent_by : List Branch → ℕ → Option ℕ
parent_by branches zero = None
parent_by branches (suc n) = Some (branch_parent branches (suc n))

-- The branches are those of the first so many nodes of a game whose parent isn't the node before
-- them.
pub record AreBranchesTo (deltas : Deltas) (count : ℕ) (branches : List Branch) : Type 0 where
  pub sound : (n m : ℕ) → HasBranch branches n m → (n < count) × (parent_of deltas n ≡ Some m)
  pub complete : (n : ℕ) → 1 ≤ n → n < count → HasNoBranch branches n →
      parent_of deltas n ≡ Some (n - 1)
  pub ascending : AreAscending branches
