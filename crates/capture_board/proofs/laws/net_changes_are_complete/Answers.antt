use Rattle.capture_board.proofs.NetChanges.{LeadFrom-complete}
use Rattle.capture_board.proofs.laws.net_changes_are_complete.Goals as goal

pub returns : goal.returns
returns c = LeadFrom-complete
