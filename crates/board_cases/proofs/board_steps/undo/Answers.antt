use Rattle.capture_board.proofs.NetChanges.{LeadFrom-may_be_undone}
use Rattle.board_cases.proofs.board_steps.undo.Goals as goal

pub undo-requires : goal.undo-requires
undo-requires c =
    let leads = c.requires.leads in
    rw c.as_slice.ensures (LeadFrom-may_be_undone leads.0 c.args.changes.now c.args.board.now.position leads.1)
