use Rattle.session_core.proofs.AllFound.{all-found, found-all}
use Rattle.session_core.proofs.laws.a_pattern_finds_the_games_that_match.Goals as goal

pub returns : goal.returns
returns c = λ pattern games found trees. (all-found pattern games found trees, found-all pattern games found trees)
