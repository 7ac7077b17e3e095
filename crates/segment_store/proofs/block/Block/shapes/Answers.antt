use Rattle.std.proofs.Common.{sym, subst}
use Rattle.segment_store.specs.BoardShapes.{HaveShapes}
use Rattle.segment_store.proofs.block.Block.shapes.Goals as goal

pub returns : goal.returns
returns c =
    subst (λ shapes. HaveShapes c.args.self.now shapes) (sym c.as_slice.ensures.value)
    (subst (λ games. HaveShapes games c.self.inside.shapes.items) c.self.view_is c.self.invariant.2)
