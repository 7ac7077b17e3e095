-- A set of points by a list of its members and a mark for each point.
use Rattle.std.specs.Prelude.{◌≡◌, ℕ, ◌<◌, ◌≤◌, ◌⊎◌, ◌++◌, [], ◌∷◌, List, Bool, true, false, length, take, slice_index, slice_index_or, count_by, Contains}

-- The first len points of a list are the members, and the points that are marked. There are as many
-- marks as members.
pub record IsPointSet (points : List ℕ) (len : ℕ) (has : List Bool) : Type 0 where
  pub fits : len ≤ length points
  pub counted : count_by (λ b. b) has ≡ len
  pub marked : (q : ℕ) → slice_index_or has q false ≡ true → Contains (take len points) q
  pub members : (q : ℕ) → Contains (take len points) q → slice_index_or has q false ≡ true

-- after is before with the point, at the end where it was not there
abbrev pub IsWithPoint : List ℕ → ℕ → List ℕ → Type 0
IsWithPoint before point after = (Contains before point × (after ≡ before))
    ⊎ ((¬ Contains before point) × (after ≡ before ++ point ∷ []))

-- after begins with before
pub record Extends (before after : List ℕ) : Type 0 where
  pub no_shorter : length before ≤ length after
  pub same : (k : ℕ) → k < length before → slice_index after k ≡ slice_index before k

-- Marks after these points have lost theirs: no other mark comes, and no other goes.
pub record IsUnmarked (points : List ℕ) (before after : List Bool) : Type 0 where
  pub same_length : length after ≡ length before
  pub gone : (q : ℕ) → Contains points q → slice_index_or after q false ≡ false
  pub kept : (q : ℕ) → ¬ Contains points q →
      slice_index_or after q false ≡ slice_index_or before q false
