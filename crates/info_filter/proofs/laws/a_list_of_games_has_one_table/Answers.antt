use Rattle.info_filter.specs.Players.{sides_of}
use Rattle.info_filter.proofs.OneTable.{rows_once, rows_some}
use Rattle.info_filter.proofs.laws.a_list_of_games_has_one_table.Goals as goal

pub returns-clause-some : goal.returns-clause-some
returns-clause-some c games = rows_some (sides_of games)

pub returns-clause-one : goal.returns-clause-one
returns-clause-one c games = rows_once (sides_of games)
