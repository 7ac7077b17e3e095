use Rattle.capture_board.proofs.NetChanges.{LeadFrom-cleared}
use Rattle.board_cases.proofs.board_steps.board.Goals as goal

pub loop-words-init : goal.loop-words-init
loop-words-init c =
    let position = c.drawn-board.result.position in
    record {
      shape = c.drawn-board.ensures;
      leads = (position, LeadFrom-cleared position c.new-changes.result c.new-changes.ensures);
    }
