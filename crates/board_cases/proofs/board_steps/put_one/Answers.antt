use Rattle.capture_board.proofs.NetChanges.{LeadFrom-cleared}
use Rattle.board_cases.proofs.board_steps.put_one.Goals as goal

pub set-requires-clause-leads : goal.set-requires-clause-leads
set-requires-clause-leads c =
    let position = c.args.board.now.position in
    (position, LeadFrom-cleared position c.clear.new.self c.clear.ensures)
