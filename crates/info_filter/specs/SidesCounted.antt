-- The rows of a players' table with one side more, and with one game more.
use Rattle.std.specs.Prelude.{◌≡◌, ◌≢◌, ℕ, ◌+◌, if◌then◌else◌, List, [], ◌∷◌}
use Rattle.std.specs.Str.{bytes_eq}
use Rattle.game_tree.specs.Information.{Information}
use Rattle.kb_geometry.specs.Counts.{one_if}
use Rattle.info_filter.specs.Players.{Side, TableRow, black_side, white_side}

-- the row with one side more
abbrev pub with_side_counted : TableRow → Side → TableRow
with_side_counted row side = record {
  name = row.name;
  games = row.games + 1;
  wins = row.wins + one_if side.won;
  losses = row.losses + one_if side.lost;
}

-- a row of this name that counts nothing yet
abbrev pub new_row : List ℕ → TableRow
new_row name = record { name = name; games = 0; wins = 0; losses = 0 }

-- the rows with one side more, which has a name: it is counted in the row of its name, or gets a
-- new one at the end
abbrev pub with_side : List TableRow → Side → List TableRow
with_side [] side = with_side_counted (new_row side.name) side ∷ []
with_side (row ∷ rows) side =
    if bytes_eq side.name row.name then with_side_counted row side ∷ rows
    else row ∷ with_side rows side

-- the rows with one side more, which may have no name
pub record AreRowsWithSide (old : List TableRow) (side : Side) (new : List TableRow) : Type 0 where
  pub nameless : side.name ≡ [] → new ≡ old
  pub named : side.name ≢ [] → new ≡ with_side old side

-- The rows with one game more: with its black side, and then with its white one.
pub record AreRowsWithGame (old : List TableRow) (info : Information)
    (new : List TableRow) : Type 0 where
  pub between : List TableRow
  pub black : AreRowsWithSide old (black_side info) between
  pub white : AreRowsWithSide between (white_side info) new
