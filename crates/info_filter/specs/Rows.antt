-- Rows of the players' table as they are shown.
use Rattle.info_filter.specs.Players.{TableRow}
use Rattle.info_filter.specs.declared.players.PlayerRow.{PlayerRow}

-- the row of the table that is shown
abbrev pub shown_row : PlayerRow → TableRow
shown_row row = record {
  name = row.name.now;
  games = row.games;
  wins = row.wins;
  losses = row.losses;
}
