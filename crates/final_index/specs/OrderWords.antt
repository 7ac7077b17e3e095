-- How the words of order lie: definitions for private functions.
use Rattle.std.specs.Prelude.{◌≡◌, ℕ, ◌+◌, ◌-◌, ◌*◌, ◌<◌, ◌≤◌, ◌⊎◌, Bool, IsTrue, List, length, slice_index}
use Rattle.std.specs.Int.{bit_at}
use Rattle.kb_geometry.specs.declared.shape.Shape.{Shape}
use Rattle.kb_geometry.specs.Board.{cols_of, point_count}
use Rattle.final_index.specs.declared.order_planes.Side.TheVariants as side
use Rattle.final_index.specs.declared.spans.Spans.{Spans}
use Rattle.final_index.specs.Order.{side_start}
use Rattle.final_index.specs.Spans.{below_at, from_at}

-- The words of so many games, for a board with so many points: no other game has a bit.
pub record AreOrderWords (points count : ℕ) (words : List ℕ) : Type 0 where
  pub room : length words ≡ 4 * points
  pub few : count ≤ 64
  pub counted : (k g : ℕ) → bit_at (slice_index words k) g ≡ 1 → g < count

-- The word stands at a place, and a game is to have its bit there.
pub record IsGivenAt (at : ℕ) (is : Bool) (k : ℕ) : Type 0 where
  pub word : k ≡ at
  pub given : IsTrue is

-- The word is that of one of the first so many points, from a place on, which may have had a stone
-- while the point so many further was empty.
pub record IsAhead (spans : Spans) (start step end k : ℕ) : Type 0 where
  pub p : ℕ
  pub in_range : p < end
  pub word : k ≡ start + p
  pub before : from_at spans p < below_at spans (p + step)

-- the same, while the point so many less was empty
pub record IsBehindOf (spans : Spans) (start step end k : ℕ) : Type 0 where
  pub p : ℕ
  pub in_range : p < end
  pub word : k ≡ start + (p + step)
  pub before : from_at spans (p + step) < below_at spans p

-- the word is one of those in which a game with these numbers has its bit
abbrev pub IsOrdered : Shape → Spans → ℕ → Type 0
IsOrdered shape spans k =
    (IsAhead spans (side_start (point_count shape) side.Right) 1 (point_count shape - 1) k
    ⊎ IsBehindOf spans (side_start (point_count shape) side.Left) 1 (point_count shape - 1) k)
    ⊎ (IsAhead spans (side_start (point_count shape) side.Below) (cols_of shape)
    (point_count shape - cols_of shape) k
    ⊎ IsBehindOf spans (side_start (point_count shape) side.Above) (cols_of shape)
    (point_count shape - cols_of shape) k)
