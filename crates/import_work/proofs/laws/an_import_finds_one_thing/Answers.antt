use Rattle.import_work.proofs.ImportsExist.{import-found, lossless-found}
use Rattle.import_work.proofs.OneFinding.{finding-one}
use Rattle.import_work.proofs.laws.an_import_finds_one_thing.Goals as goal

pub returns-clause-whole : goal.returns-clause-whole
returns-clause-whole c = lossless-found

pub returns-clause-some : goal.returns-clause-some
returns-clause-some c = import-found

pub returns-clause-one : goal.returns-clause-one
returns-clause-one c = finding-one
