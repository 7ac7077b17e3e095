use Rattle.std.proofs.Common.{Option, ℕ, sym, subst}
use Rattle.capture_board.specs.Walking.{MayLeaveTo}
use Rattle.capture_board.proofs.WalkerSteps.{MayLeaveTo-next}
use Rattle.opening_tree.proofs.image_walker.ImageWalker.enter_next.Goals as goal

pub leave_to-requires-clause-above : goal.leave_to-requires-clause-above
leave_to-requires-clause-above c =
    subst (λ (o : Option ℕ). MayLeaveTo c.args.deltas.now c.args.self.now.here o) (sym c.parent.ensures.value)
    (MayLeaveTo-next c.args.deltas.now c.parent.ensures.deltas c.args.n c.args.self.now.here c.requires.in_range c.requires.next)
