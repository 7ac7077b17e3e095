use Rattle.capture_board.proofs.NetChanges.{LeadFrom-unique}
use Rattle.capture_board.proofs.laws.net_changes_are_unique.Goals as goal

pub returns : goal.returns
returns c = LeadFrom-unique
