-- How the words of planes hold the sets of games: definitions for private functions.
use Rattle.std.specs.Prelude.{◌≡◌, ℕ, ◌+◌, ◌*◌, ◌<◌, ◌≤◌, ◌==◌, ◌⊎◌, ◌↔◌, if◌then◌else◌, List, length, map, Option, None, Some, Contains, slice_index}
use Rattle.std.specs.Int.{bit_at}
use Rattle.std.specs.List.{range_with_len}
use Rattle.kb_geometry.specs.declared.stone.Cell.{Cell}
use Rattle.kb_geometry.specs.declared.stone.Cell.TheVariants as cell
use Rattle.kb_bits.specs.Members.{numbers_below}
use Rattle.final_index.specs.declared.ever_sets.EverSets.{EverSets}
use Rattle.final_index.specs.Ever.{set_of}

-- where the words of a cell begin, for a board with so many points
abbrev pub start_of : ℕ → Cell → ℕ
start_of points cell.Empty = 0
start_of points cell.Black = points
start_of points cell.White = 2 * points

-- the bit of a game in the word of a cell and point, on a board with so many points
abbrev pub bit_in : ℕ → List ℕ → ℕ → Cell → ℕ → ℕ
bit_in points words g stone p = bit_at (slice_index words (start_of points stone + p)) g

-- the points of a board with so many at which a game has its bit for the cell, ascending
unfoldable pub points_with : ℕ → List ℕ → ℕ → Cell → List ℕ
points_with points words g stone = numbers_below points (λ p. bit_in points words g stone p == 1)

-- the sets of a game that has its bit among those present
unfoldable pub game_in : ℕ → ℕ → List ℕ → ℕ → Option EverSets
game_in points present words g = if bit_at present g == 1 then Some (record {
  black = points_with points words g cell.Black;
  white = points_with points words g cell.White;
  empty = points_with points words g cell.Empty;
}) else None

-- the first so many games, as the words have them
unfoldable pub games_of_words : ℕ → ℕ → List ℕ → ℕ → List (Option EverSets)
games_of_words points present words count =
    map (game_in points present words) (range_with_len 0 count)

-- The words of so many games, for a board with so many points: a game that isn't present has no bit.
pub record ArePlaneWords (points count present : ℕ) (words : List ℕ) : Type 0 where
  pub room : length words ≡ 3 * points
  pub few : count ≤ 64
  pub counted : (g : ℕ) → bit_at present g ≡ 1 → g < count
  pub of_present : (k g : ℕ) → bit_at (slice_index words k) g ≡ 1 → bit_at present g ≡ 1

-- the word is that of the cell and one of the first so many points, which is in the set
abbrev pub IsWordIn : ℕ → ℕ → Cell → List ℕ → ℕ → Type 0
IsWordIn points end stone members k = (p : ℕ) × (p < end) × Contains members p
    × (k ≡ start_of points stone + p)

-- the word stands behind this place, by the place of one of the first so many bits of a word
abbrev pub IsBehind : ℕ → ℕ → ℕ → ℕ → Type 0
IsBehind first bits end k = (j : ℕ) × (j < end) × (bit_at bits j ≡ 1) × (k ≡ first + j)

-- A game has gained its bit in the words at these places.
pub record HaveGained (P : ℕ → Type 0) (g : ℕ) (before after : List ℕ) : Type 0 where
  pub room : length after ≡ length before
  pub bits : (k i : ℕ) → (bit_at (slice_index after k) i ≡ 1) ↔
      ((bit_at (slice_index before k) i ≡ 1) ⊎ ((i ≡ g) × P k))

-- A game has gained its bit in the words of a cell and of the members of a set, of the first so many
-- points.
pub record AreNoted (points end : ℕ) (stone : Cell) (members : List ℕ) (g : ℕ)
    (before after : List ℕ) : Type 0 where
  pub room : length after ≡ length before
  pub bits : (k i : ℕ) → (bit_at (slice_index after k) i ≡ 1) ↔
      ((bit_at (slice_index before k) i ≡ 1)
      ⊎ ((i ≡ g) × IsWordIn points end stone members k))

-- A game has gained its bit in the words of each cell and of the points of its set.
pub record AreSetsNoted (points : ℕ) (sets : EverSets) (g : ℕ)
    (before after : List ℕ) : Type 0 where
  pub room : length after ≡ length before
  pub bits : (k i : ℕ) → (bit_at (slice_index after k) i ≡ 1) ↔
      ((bit_at (slice_index before k) i ≡ 1)
      ⊎ ((i ≡ g) × ((stone : Cell) × IsWordIn points points stone (set_of sets stone) k)))

-- the bits of one word, and behind them those of another
abbrev pub HasBitsOfBoth : ℕ → ℕ → ℕ → ℕ → Type 0
HasBitsOfBoth a b by both = (i : ℕ) → (bit_at both i ≡ 1) ↔
    ((bit_at a i ≡ 1) ⊎ ((j : ℕ) × (i ≡ j + by) × (bit_at b j ≡ 1)))

-- each word has the bits of one list's word, and behind them those of the other's
abbrev pub HaveBitsOfBoth : List ℕ → List ℕ → ℕ → List ℕ → Type 0
HaveBitsOfBoth a b by both = (k : ℕ) →
    HasBitsOfBoth (slice_index a k) (slice_index b k) by (slice_index both k)
