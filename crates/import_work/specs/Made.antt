-- Made games as a base keeps them, and the room that they want.
use Rattle.std.specs.Prelude.{◌≡◌, ◌⊎◌, ℕ, ◌+◌, ◌*◌, ◌<◌, ◌≤◌, List, map}
use Rattle.std.specs.List.{range_with_len}
use Rattle.made_games.specs.Made.{made_tree}
use Rattle.node_position.specs.Games.{Game}
use Rattle.import_work.specs.Course.{made_name}
use Rattle.import_work.specs.declared.outcome.Counts.{Counts}

-- the made game with this number
abbrev pub made_game : ℕ → ℕ → Game
made_game start number = record {
  file = made_name;
  place = number;
  tree = made_tree start number;
}

-- made games from this number on, so many
abbrev pub made_games : ℕ → ℕ → ℕ → List Game
made_games start first count = map (made_game start) (range_with_len first count)

-- a base with these counts has room for so many made games, of 201 nodes each
abbrev pub HasRoomForMade : Counts → ℕ → Type 0
HasRoomForMade before count =
    (before.games + count ≤ 400000) × (before.nodes + count * 201 ≤ 67108864)

-- So many of all made games are added to a base with these counts, the first ones: as many as there is
-- room for.
pub record AreAddedFirst (seed games added : ℕ) (before : Counts) (found : List Game)
    : Type 0 where
  pub few : added ≤ games
  pub found_are : found ≡ made_games seed 0 added
  pub room : (added ≡ 0) ⊎ HasRoomForMade before added
  pub most : added < games → ¬ HasRoomForMade before (added + 1)
