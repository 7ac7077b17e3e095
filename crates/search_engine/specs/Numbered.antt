-- Games by their numbers.
use Rattle.std.specs.Prelude.{◌≡◌, ℕ, ◌<◌, List, length, slice_index_or}
use Rattle.node_position.specs.Games.{Game}

-- the game with this number, from 0 on
abbrev pub IsNumbered : List Game → ℕ → Game → Type 0
IsNumbered games number game = (number < length games) × (slice_index_or games number game ≡ game)
