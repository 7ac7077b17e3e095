-- How the entries of a corner are kept: definitions for private functions.
use Rattle.std.specs.Prelude.{◌≡◌, ℕ, ◌+◌, ◌<◌, ◌≤◌, ◌⊎◌, ◌↔◌, List, length, map, slice_index}
use Rattle.std.specs.List.{range_with_len}
use Rattle.corner_index.specs.CornerGames.{Entry, entry}

-- the entries of numbers and games at the same places
abbrev pub entries_of : List ℕ → List ℕ → List Entry
entries_of keys games =
    map (λ i. entry (slice_index keys i) (slice_index games i)) (range_with_len 0 (length keys))

-- There is a game for each number. They stand by number, and those of one number by game.
pub record AreOrdered (keys games : List ℕ) : Type 0 where
  pub as_many : length games ≡ length keys
  pub ordered : (i j : ℕ) → i < j → j < length keys →
      (slice_index keys i < slice_index keys j)
      ⊎ ((slice_index keys i ≡ slice_index keys j) × (slice_index games i < slice_index games j))

-- an entry with this number and this game stands there, at a place before this one
abbrev pub StandsBelow : List ℕ → List ℕ → ℕ → ℕ → ℕ → Type 0
StandsBelow keys games end key g = (k : ℕ) × (k < end)
    × (slice_index keys k ≡ key) × (slice_index games k ≡ g)

-- the entries are those of two pairs of lists, where the games of the second are moved on by so
-- many
abbrev pub AreListsJoined : List ℕ → List ℕ → List ℕ → List ℕ → ℕ → List ℕ → List ℕ → Type 0
AreListsJoined a_keys a_games b_keys b_games first keys games = (key g : ℕ) →
    StandsBelow keys games (length keys) key g
    ↔ (StandsBelow a_keys a_games (length a_keys) key g
    ⊎ ((h : ℕ) × StandsBelow b_keys b_games (length b_keys) key h × (g ≡ first + h)))

-- each of these games is below this number
abbrev pub AreAllBelow : List ℕ → ℕ → Type 0
AreAllBelow games count = (k : ℕ) → k < length games → slice_index games k < count

-- the numbers ascend, perhaps with equal ones
abbrev pub AreRising : List ℕ → Type 0
AreRising keys = (i j : ℕ) → i < j → j < length keys → slice_index keys i ≤ slice_index keys j

-- so many numbers are less than this one, the first ones
pub record IsFirstFrom (keys : List ℕ) (key count : ℕ) : Type 0 where
  pub most : count ≤ length keys
  pub before : (k : ℕ) → k < count → slice_index keys k < key
  pub from : (k : ℕ) → count ≤ k → k < length keys → key ≤ slice_index keys k

-- so many numbers are at most this one, the first ones
pub record IsFirstBehind (keys : List ℕ) (key count : ℕ) : Type 0 where
  pub most : count ≤ length keys
  pub before : (k : ℕ) → k < count → slice_index keys k ≤ key
  pub from : (k : ℕ) → count ≤ k → k < length keys → key < slice_index keys k
