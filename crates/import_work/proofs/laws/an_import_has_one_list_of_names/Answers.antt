use Rattle.import_work.proofs.NamesExist.{names-exist, names-one}
use Rattle.import_work.proofs.laws.an_import_has_one_list_of_names.Goals as goal

pub returns-clause-some : goal.returns-clause-some
returns-clause-some c = names-exist

pub returns-clause-one : goal.returns-clause-one
returns-clause-one c = names-one
