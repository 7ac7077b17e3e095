use Rattle.capture_board.proofs.NetChanges.{LeadFrom-may_be_undone}
use Rattle.capture_board.proofs.laws.net_changes_may_be_undone.Goals as goal

pub returns : goal.returns
returns c = LeadFrom-may_be_undone
