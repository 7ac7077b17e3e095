use Rattle.info_filter.proofs.OneTable.{few_games}
use Rattle.info_filter.proofs.laws.a_row_counts_at_most_two_sides_of_a_game.Goals as goal

pub returns : goal.returns
returns c = few_games
