use Rattle.search_engine.proofs.KeptNumbers.{kept-numbers, numbers-kept}
use Rattle.search_engine.proofs.laws.kept_games_are_counted_by_their_numbers.Goals as goal

pub returns-clause-numbers : goal.returns-clause-numbers
returns-clause-numbers c = kept-numbers

pub returns-clause-count : goal.returns-clause-count
returns-clause-count c = numbers-kept
