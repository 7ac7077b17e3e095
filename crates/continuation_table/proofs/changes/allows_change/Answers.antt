use Rattle.std.proofs.Common.{◌≡◌, refl, subst}
use Rattle.kb_geometry.specs.declared.shape.Shape.{Shape}
use Rattle.kb_geometry.specs.Board.{IsOnBoard, number_of}
use Rattle.pattern_images.specs.ImageList.{placement_at}
use Rattle.continuation_table.proofs.Losses.{allows-point}
use Rattle.continuation_table.proofs.Spans.{allows-outside}
use Rattle.continuation_table.proofs.changes.allows_change.Goals as goal

pub returns-then-is_outside : goal.returns-then-is_outside
returns-then-is_outside c = (
  λ t. allows-outside c.args.images.now.shape (placement_at c.args.images.now.placements c.args.i) c.args.span.first c.args.span.last
      c.requires.span c.args.change (c.is_outside.ensures.0 c.if-is_outside.true),
  λ h. refl,
)

pub returns : goal.returns
returns c = (
  λ t. allows-point c.shape.result c.args.images.now.shape (placement_at c.args.images.now.placements c.args.i) c.shape.ensures.value _ _
      c.point-p.result c.point-p.ensures.only (c.allows_at.ensures.0 t),
  λ h. c.allows_at.ensures.1 (h c.point-p.result
      (subst (λ (s : Shape). IsOnBoard s c.point-p.result) c.shape.ensures.value c.point-p.ensures.on_board)
      (subst (λ (s : Shape). number_of s c.point-p.result ≡ c.args.change.point) c.shape.ensures.value c.point-p.ensures.inverse)),
)
