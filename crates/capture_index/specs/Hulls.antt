-- The nodes from one up to before another that have all at which something is wanted: definitions for
-- the private functions.
use Rattle.std.specs.Prelude.{◌≡◌, ℕ, ◌<◌, ◌≤◌, false}
use Rattle.capture_index.specs.declared.by_lists.Hull.{Hull}

-- the node is one of those of the hull
abbrev pub IsInHull : Hull → ℕ → Type 0
IsInHull hull n = (hull.from ≤ n) × (n < hull.to)

-- The hull keeps each of its nodes at which something is wanted, and gains none; some is left. It has
-- no gap only where it had none before.
pub record IsSmaller (before : Hull) (IsWanted : ℕ → Type 0) (after : Hull) : Type 0 where
  pub kept : (n : ℕ) → IsInHull before n → IsWanted n → IsInHull after n
  pub inside : (n : ℕ) → IsInHull after n → IsInHull before n
  pub within : after.to ≤ before.to
  pub some : after.from < after.to
  pub gap : after.gap ≡ false → before.gap ≡ false

-- The hull has each node from the lowest one up to before the end at which something is wanted. All
-- its nodes are such, where it has no gap, and where it has no node it stands at the lowest.
pub record IsHullTo (IsWanted : ℕ → Type 0) (end lowest : ℕ) (hull : Hull) : Type 0 where
  pub kept : (n : ℕ) → lowest ≤ n → n < end → IsWanted n → (hull.from ≤ n) × (n < hull.to)
  pub whole : hull.gap ≡ false → (n : ℕ) → hull.from ≤ n → n < hull.to → IsWanted n
  pub above : lowest ≤ hull.from
  pub ordered : hull.from ≤ hull.to
  pub below : hull.to ≤ end
  pub none : hull.from ≡ hull.to → hull.from ≡ lowest
