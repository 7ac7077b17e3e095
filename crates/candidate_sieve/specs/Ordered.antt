-- Placements by the order of stones in the games of a block.
use Rattle.std.specs.Prelude.{◌≡◌, ℕ, ◌+◌, ◌<◌, List, All, IfSome, Option, slice_index_or}
use Rattle.std.specs.Borrow.{Bor}
use Rattle.std.specs.Int.{bit_at}
use Rattle.kb_geometry.specs.declared.shape.Shape.{Shape}
use Rattle.pattern_images.specs.Placements.{Placement}
use Rattle.ready_images.specs.declared.pair.Pair.{Pair}
use Rattle.ready_images.specs.Pairs.{IsPairBelow, IsPairIn}
use Rattle.ready_images.specs.Wants.{base_of}
use Rattle.final_index.specs.Order.{MayHaveStood, OrderGames}

-- game g of the block may have the placement by the order of stones: each cell that must be a stone may
-- have had one while the point under one beside it that must be empty was empty
abbrev pub StandsInOrder : OrderGames → ℕ → Shape → Placement → Type 0
StandsInOrder order g shape placement = (pair : Pair) → IsPairIn shape placement.grid pair →
    MayHaveStood order g (base_of shape placement + pair.stone) (base_of shape placement + pair.empty)

-- the same, where the order is known
abbrev pub MayStand : Option (Bor OrderGames) → ℕ → Shape → Placement → Type 0
MayStand order g shape placement = IfSome order (λ (o : Bor OrderGames).
    StandsInOrder o.now g shape placement)

-- ---- for private functions

-- no pair
abbrev pub no_pair : Pair
no_pair = record { stone = 0; empty = 0 }

-- the pairs of so many placements in a row are on a board with so many points
abbrev pub ArePairsBelow : (points base : ℕ) → List Pair → ℕ → Type 0
ArePairsBelow points base pairs count = All (IsPairBelow points base count) pairs

-- game g may have had the stone of each of the first so many pairs while the other point was empty
abbrev pub HadInOrder : OrderGames → ℕ → List Pair → ℕ → ℕ → Type 0
HadInOrder order base pairs count g = (k : ℕ) → k < count →
    MayHaveStood order g (base + (slice_index_or pairs k no_pair).stone)
    (base + (slice_index_or pairs k no_pair).empty)

-- Of the games of a word those are left that may have had them, if the order is known, and else all.
pub record IsCutInOrder (order : Option (Bor OrderGames)) (base : ℕ) (pairs : List Pair)
    (count before after : ℕ) : Type 0 where
  pub part : (g : ℕ) → bit_at after g ≡ 1 → bit_at before g ≡ 1
  pub kept : (g : ℕ) → g < 64 → bit_at before g ≡ 1 →
      IfSome order (λ (o : Bor OrderGames). HadInOrder o.now base pairs count g) →
      bit_at after g ≡ 1
