-- Which games of a list had which number in a corner.
use Rattle.std.specs.Prelude.{◌≡◌, ℕ, ◌+◌, ◌<◌, ◌⊎◌, ◌↔◌, List, [], length, slice_index_or, Contains}
use Rattle.corner_index.specs.Corners.{keys_of}

-- a number of a corner, and a game that had it there, by its place in the list
pub record Entry : Type 0 where
  pub key : ℕ
  pub game : ℕ

-- the entry of these
abbrev pub entry : ℕ → ℕ → Entry
entry key game = record { key = key; game = game }

-- The entries are those of a corner: one for each number that it had in one of the games, whose
-- numbers these are.
abbrev pub AreEntriesOf : List (List (List ℕ)) → ℕ → List Entry → Type 0
AreEntriesOf games corner entries = (key g : ℕ) → Contains entries (entry key g)
    ↔ ((g < length games) × Contains (keys_of (slice_index_or games g []) corner) key)

-- the entries of a corner
abbrev pub entries_in : List (List Entry) → ℕ → List Entry
entries_in index corner = slice_index_or index corner []

-- the entries of each corner are those of the games
abbrev pub IsIndexOf : List (List (List ℕ)) → List (List Entry) → Type 0
IsIndexOf games index = (corner : ℕ) → corner < 4 →
    AreEntriesOf games corner (entries_in index corner)

-- the games of all entries are below this number
abbrev pub AreBelow : List Entry → ℕ → Type 0
AreBelow entries count = (key g : ℕ) → Contains entries (entry key g) → g < count

-- those of each corner
abbrev pub HaveGamesBelow : List (List Entry) → ℕ → Type 0
HaveGamesBelow index count = (corner : ℕ) → corner < 4 → AreBelow (entries_in index corner) count

-- the entries are those of two lists, where the games of the second are moved on by so many
abbrev pub AreEntriesOfBoth : List Entry → List Entry → ℕ → List Entry → Type 0
AreEntriesOfBoth a b first joined = (key g : ℕ) → Contains joined (entry key g)
    ↔ (Contains a (entry key g)
    ⊎ ((h : ℕ) × Contains b (entry key h) × (g ≡ first + h)))

-- the entries of each corner are those of two indexes, put together so
abbrev pub IsIndexOfBoth : List (List Entry) → List (List Entry) → ℕ → List (List Entry) → Type 0
IsIndexOfBoth a b first joined = (corner : ℕ) → corner < 4 →
    AreEntriesOfBoth (entries_in a corner) (entries_in b corner) first (entries_in joined corner)
