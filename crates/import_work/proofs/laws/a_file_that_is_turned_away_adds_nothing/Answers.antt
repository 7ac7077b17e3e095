use Rattle.import_work.proofs.RoomLemmas.{turned_away}
use Rattle.import_work.proofs.laws.a_file_that_is_turned_away_adds_nothing.Goals as goal

pub returns : goal.returns
returns c = λ told path name before faults_before faults_now outcome trees is away. turned_away before outcome trees is.added away
