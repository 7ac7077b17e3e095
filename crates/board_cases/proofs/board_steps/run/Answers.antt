use Rattle.capture_board.proofs.NetChanges.{LeadFrom-cleared}
use Rattle.board_cases.proofs.board_steps.run.Goals as goal

pub returns-in-Clear-clause-leads : goal.returns-in-Clear-clause-leads
returns-in-Clear-clause-leads c =
    let position = c.args.board.now.position in
    (position, LeadFrom-cleared position c.clear.new.self c.clear.ensures)
