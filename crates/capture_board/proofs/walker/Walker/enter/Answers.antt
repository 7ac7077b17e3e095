use Rattle.capture_board.proofs.WalkerSteps.{entered, on_board}
use Rattle.capture_board.proofs.walker.Walker.enter.Goals as goal

pub make-requires : goal.make-requires
make-requires g c = on_board c.args.deltas.now c.changes.ensures.deltas _ _ _ c.self.view_is c.requires.stands c.args.n _ c.changes.ensures.changes

pub returns-clause-stands : goal.returns-clause-stands
returns-clause-stands g c =
    entered c.args.deltas.now c.changes.ensures.deltas _ _ _ c.self.view_is c.requires.stands c.make.new.self _ c.args.n c.requires.in_range c.changes.ensures.value c.requires.child c.make.ensures
