-- Each placement has its upper left point on the board.
use Rattle.std.proofs.Common.{subst}
use Rattle.kb_geometry.specs.declared.shape.Shape.{Shape}
use Rattle.kb_geometry.specs.declared.shape.Point.{Point}
use Rattle.kb_geometry.specs.Board.{IsInside, IsOnBoard}
use Rattle.line_matcher.proofs.Nodes.{inside_whole}
use Rattle.line_matcher.proofs.walk.add_root.Goals as goal

pub add_area-requires-clause-near : goal.add_area-requires-clause-near
add_area-requires-clause-near c = record {
  inside = λ i lt t. inside_whole c.args.matcher.now.images.now c.shape.ensures.images c.whole.result
      (subst (λ (s : Shape). (p : Point) → IsOnBoard s p → IsInside c.whole.result p) c.shape.ensures.value c.whole.ensures.all) i lt;
}
