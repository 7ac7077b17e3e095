-- The nodes of stretches at which something begins: definitions for the private functions.
use Rattle.std.specs.Prelude.{◌≡◌, ℕ, ◌<◌, ◌≤◌, ◌⊎◌, ◌↔◌, List, Some, Contains, length, slice_index_or}
use Rattle.capture_index.specs.declared.run.Branch.{Branch}
use Rattle.capture_index.specs.declared.stretch.Stretch.{Stretch}
use Rattle.capture_index.specs.Branches.{parent_by}
use Rattle.capture_index.specs.Stretches.{IsIn, IsOutside}

-- the node is in the stretches, and is the root or has a parent that isn't
pub record BeginsFor (branches : List Branch) (stretches : List Stretch) (n : ℕ) : Type 0 where
  pub inside : IsIn stretches n
  pub first : IsOutside stretches (parent_by branches n)

-- the list grows by the nodes at which something begins
abbrev pub HasBegun : List Branch → List Stretch → List ℕ → List ℕ → Type 0
HasBegun branches stretches before after = (x : ℕ) → Contains after x ↔
    (Contains before x ⊎ BeginsFor branches stretches x)

-- each stretch has a node, and ends before the one that is listed before it begins
pub record AreFalling (stretches : List Stretch) : Type 0 where
  pub some : (k : ℕ) (d : Stretch) → k < length stretches →
      (slice_index_or stretches k d).from < (slice_index_or stretches k d).to
  pub falling : (i j : ℕ) (d e : Stretch) → i < j → j < length stretches →
      (slice_index_or stretches j e).to ≤ (slice_index_or stretches i d).from

-- so many stretches begin behind the node: the first ones
pub record AreBehind (stretches : List Stretch) (n count : ℕ) : Type 0 where
  pub most : count ≤ length stretches
  pub before : (k : ℕ) (d : Stretch) → k < count → n < (slice_index_or stretches k d).from
  pub from : (k : ℕ) (d : Stretch) → count ≤ k → k < length stretches →
      (slice_index_or stretches k d).from ≤ n

-- one of the first so many branches is at the node, which stands in the stretch behind its first
-- one, and the branch's parent isn't in the stretches
abbrev pub IsBehindTo : List Branch → List Stretch → Stretch → ℕ → ℕ → Type 0
IsBehindTo branches stretches stretch count n = (k : ℕ) × (d : Branch) × (k < count) ×
    ((slice_index_or branches k d).node ≡ n) × (stretch.from < n) × (n < stretch.to) ×
    IsOutside stretches (Some (slice_index_or branches k d).parent)
