-- When two shapes are one.
use Rattle.std.proofs.Common.{◌≡◌, ap}
use Rattle.std.specs.Prelude.{◌==◌, ◌&&◌}
use Rattle.std.specs.Bool.{Decides}
use Rattle.std.proofs.lemmas.Bool.{and_from, and_parts, eq-eqb, eqb-true}
use Rattle.kb_geometry.specs.declared.shape.Shape.{Shape}
use Rattle.kb_geometry.proofs.Shapes.{shape_same}

-- two shapes are one where they have as many columns and rows
pub same_shape : (a b : Shape) → Decides ((a.cols == b.cols) && (a.rows == b.rows)) (a ≡ b)
same_shape a b = (
  λ t. let parts = and_parts (a.cols == b.cols) (a.rows == b.rows) t in shape_same a b (eqb-true a.cols b.cols parts.0) (eqb-true a.rows b.rows parts.1),
  λ e. and_from (a.cols == b.cols) (a.rows == b.rows) (eq-eqb a.cols b.cols (ap (λ (s : Shape). s.cols) e)) (eq-eqb a.rows b.rows (ap (λ (s : Shape). s.rows) e)),
)
