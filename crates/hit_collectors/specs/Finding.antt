-- Definitions of the private functions that find a box by its name.
use Rattle.std.specs.Prelude.{◌≡◌, ◌≢◌, ◌<◌, ℕ, List, length, slice_index_or, take, All}

-- the box with this number is the first that has the name
pub record IsFirstNamed {A : Type 0} (named : A → List ℕ) (name : List ℕ) (boxes : List A) (i : ℕ)
    : Type 0 where
  pub within : i < length boxes
  pub is_named : (d : A) → named (slice_index_or boxes i d) ≡ name
  pub is_first : All (λ (box : A). named box ≢ name) (take i boxes)
