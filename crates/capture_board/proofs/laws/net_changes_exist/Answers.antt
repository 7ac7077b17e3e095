use Rattle.capture_board.proofs.FoundChanges.{LeadFrom-found}
use Rattle.capture_board.proofs.laws.net_changes_exist.Goals as goal

pub returns : goal.returns
returns c = LeadFrom-found
