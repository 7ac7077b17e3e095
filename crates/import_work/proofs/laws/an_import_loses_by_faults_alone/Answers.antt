use Rattle.import_work.proofs.Losses.{loses}
use Rattle.import_work.proofs.laws.an_import_loses_by_faults_alone.Goals as goal

pub returns : goal.returns
returns c = loses
