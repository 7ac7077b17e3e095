use Rattle.import_work.proofs.OutcomesExist.{outcome-found, outcome-one}
use Rattle.import_work.proofs.laws.a_file_has_one_outcome.Goals as goal

pub returns-clause-some : goal.returns-clause-some
returns-clause-some c = outcome-found

pub returns-clause-one : goal.returns-clause-one
returns-clause-one c = outcome-one
