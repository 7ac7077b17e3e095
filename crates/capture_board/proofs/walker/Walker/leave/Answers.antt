use Rattle.capture_board.proofs.WalkerSteps.{left, node_here, on_board}
use Rattle.capture_board.proofs.walker.Walker.leave.Goals as goal

pub take_back-requires : goal.take_back-requires
take_back-requires c = on_board c.args.deltas.now c.changes.ensures.deltas _ _ _ c.self.view_is c.requires.stands c.in-Some.n _ c.changes.ensures.changes

pub returns-in-Some-clause-stands : goal.returns-in-Some-clause-stands
returns-in-Some-clause-stands c =
    left c.args.deltas.now c.changes.ensures.deltas _ _ _ c.self.view_is c.requires.stands c.take_back.new.self _ c.in-Some.n
    (node_here c.args.deltas.now c.changes.ensures.deltas _ _ _ c.self.view_is c.requires.stands c.in-Some.n c.in-Some.is) c.changes.ensures.value c.in-Some.is c.take_back.ensures _ c.parent-self-inside.ensures.value
