use Rattle.opening_tree.proofs.OneOpening.{openings-unique}
use Rattle.opening_tree.proofs.OpeningsExist.{openings-found}
use Rattle.opening_tree.proofs.laws.games_have_one_list_of_openings.Goals as goal

pub returns-clause-some : goal.returns-clause-some
returns-clause-some c = openings-found

pub returns-clause-one : goal.returns-clause-one
returns-clause-one c = openings-unique
