-- The games of a block that are kept, as bits of a word.
use Rattle.std.specs.Prelude.{◌≡◌, ◌↔◌, ℕ, ◌<◌, ◌≤◌, Contains, List, None, Some, length, slice_index, slice_index_or}
use Rattle.std.specs.Borrow.{Bor}
use Rattle.std.specs.Int.{bit_at}
use Rattle.std.specs.List.{slice_get}
use Rattle.std.specs.Option.{IsSome, IsSomeAnd}
use Rattle.kb_geometry.specs.declared.shape.Shape.{Shape}
use Rattle.capture_board.specs.Deltas.{Deltas, node_count}
use Rattle.corner_index.specs.Corners.{AreNumbersOfGame, keys_of}
use Rattle.final_index.specs.Ever.{AreSetsOf}
use Rattle.final_index.specs.Planes.{PlaneGames}
use Rattle.pattern_images.specs.ImageList.{placement_at}
use Rattle.pattern_images.specs.Placements.{Placement}
use Rattle.ready_images.specs.declared.row.Row.{Row}
use Rattle.ready_images.specs.Rows.{row_at}
use Rattle.candidate_sieve.specs.BlockGames.{numbers_in, words_in}
use Rattle.candidate_sieve.specs.Kept.{HadCorners, IsKept}

-- these are the numbers that the corners of game g of a block had, by its changes
pub record HasNumbers (corners : List (Bor (List (List ℕ)))) (g : ℕ)
    (changes : Deltas) : Type 0 where
  pub keys : Bor (List (List ℕ))
  pub at : slice_get corners g ≡ Some keys
  pub are : AreNumbersOfGame changes keys.now

-- Game g of a block has these changes: it is on a board of the shape of some planes, which have its
-- sets, and its corners had these numbers.
pub record IsGameOf (planes : PlaneGames) (corners : List (Bor (List (List ℕ)))) (g : ℕ)
    (changes : Deltas) : Type 0 where
  pub some_node : 0 < node_count changes
  pub same_shape : changes.shape ≡ planes.shape
  pub sets : IsSomeAnd (slice_index_or planes.games g None) (AreSetsOf changes)
  pub numbers : HasNumbers corners g changes

-- Of the games of a block on boards of one shape exactly those that are kept have their bits.
pub record AreKeptOf (planes : PlaneGames) (placements : List Placement)
    (corners : List (Bor (List (List ℕ)))) (word : ℕ) : Type 0 where
  pub exact : (g : ℕ) (changes : Deltas) → g < 64 → IsGameOf planes corners g changes →
      (bit_at word g ≡ 1) ↔ IsKept changes placements
  pub there : (g : ℕ) → g < 64 → bit_at word g ≡ 1 →
      IsSome (slice_index_or planes.games g None)

-- ---- for private functions

-- of the games of a word those have their bits that had the number at the corner
abbrev pub HadKey : List (Bor (List (List ℕ))) → ℕ → ℕ → ℕ → ℕ → Type 0
HadKey corners corner key games word = (g : ℕ) (keys : Bor (List (List ℕ))) → g < 64 →
    slice_get corners g ≡ Some keys →
    (bit_at word g ≡ 1) ↔ ((bit_at games g ≡ 1) × Contains (keys_of keys.now corner) key)

-- a word has no games but these
abbrev pub AreAmong : ℕ → ℕ → Type 0
AreAmong word games = (g : ℕ) → g < 64 → bit_at word g ≡ 1 → bit_at games g ≡ 1

-- of the games of a word on boards of the shape those have their bits of which this is true
abbrev pub AreThose : Shape → List (Bor (List (List ℕ))) → (Deltas → Type 0) → ℕ → ℕ → Type 0
AreThose shape corners holds games word = (g : ℕ) (changes : Deltas) → g < 64 →
    changes.shape ≡ shape → HasNumbers corners g changes →
    (bit_at word g ≡ 1) ↔ ((bit_at games g ≡ 1) × holds changes)

-- one of some placements, of which each has a word of games, has the game g, of which each corner that
-- it covers had its cells
abbrev pub IsMetBy : List Placement → List ℕ → List ℕ → ℕ → Deltas → Type 0
IsMetBy placements numbers words g changes = (k : ℕ) × (k < length numbers)
    × (bit_at (slice_index words k) g ≡ 1)
    × HadCorners changes (placement_at placements (slice_index numbers k))

-- so by a placement of the rows from one number to the one before another, where the first word is that
-- of the first row's base
abbrev pub IsMetInRows : List Placement → List Row → List ℕ → List ℕ → ℕ → ℕ → ℕ → Deltas → Type 0
IsMetInRows placements rows numbers words first end g changes =
    (r : ℕ) × (first ≤ r) × (r < end) × IsMetBy placements (numbers_in numbers (row_at rows r))
    (words_in words (row_at rows first).base (row_at rows r)) g changes

-- one of the words has the game g
abbrev pub IsInWords : List ℕ → ℕ → Type 0
IsInWords words g = (k : ℕ) × (k < length words) × (bit_at (slice_index words k) g ≡ 1)
