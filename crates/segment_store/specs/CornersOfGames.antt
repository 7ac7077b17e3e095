-- Which games had which number in which corner of their boards.
use Rattle.std.specs.Prelude.{◌<◌, ◌↔◌, ℕ, Contains, List}
use Rattle.std.specs.List.{slice_get}
use Rattle.std.specs.Option.{IsSomeAnd}
use Rattle.corner_index.specs.CornerGames.{Entry, entries_in, entry}
use Rattle.node_position.specs.Games.{Game}
use Rattle.segment_store.specs.Finished.{HadCornerNumber}

-- The entries of an index are the numbers that the corners had in these games, by the games'
-- numbers.
abbrev pub AreCornersOfGames : List Game → List (List Entry) → Type 0
AreCornersOfGames games index = (corner : ℕ) → corner < 4 → (key g : ℕ) →
    Contains (entries_in index corner) (entry key g)
    ↔ IsSomeAnd (slice_get games g) (λ game. HadCornerNumber game corner key)
