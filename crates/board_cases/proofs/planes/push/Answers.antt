use Rattle.std.proofs.Common.{◌<◌, ◌∙◌, subst}
use Rattle.kb_geometry.specs.declared.shape.Shape.{Shape}
use Rattle.kb_geometry.specs.Board.{point_count}
use Rattle.board_cases.proofs.planes.push.Goals as goal

pub push-requires-clause-on_board : goal.push-requires-clause-on_board
push-requires-clause-on_board c stone p h =
    subst (λ (s : Shape). p < point_count s) (c.is_on.ensures.0 c.if-is_on.true ∙ c.shape.ensures) ((c.of.ensures stone p).0 h).0
