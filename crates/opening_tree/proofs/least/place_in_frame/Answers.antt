use Rattle.std.proofs.Common.{Option, refl, subst, sym}
use Rattle.std.proofs.Common as std
use Rattle.kb_geometry.specs.declared.shape.Point.{Point}
use Rattle.opening_tree.specs.NextMoves.{IsPlaceInFrame}
use Rattle.opening_tree.proofs.least.place_in_frame.Goals as goal

pub returns-in-Some : goal.returns-in-Some
returns-in-Some c position canonical are =
    subst (λ (o : Option Point). IsPlaceInFrame c.args.shape position canonical o (std.Some c.point_in_frame.result)) (sym c.in-Some.is)
    (c.point_in_frame.result, refl, c.point_in_frame.ensures position canonical are)
