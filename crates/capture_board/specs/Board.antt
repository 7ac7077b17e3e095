-- A position with the shape of its board.
use Rattle.kb_geometry.specs.declared.shape.Shape.{Shape}
use Rattle.kb_geometry.specs.Capture.{Position}

-- a position and the shape of the board that it stands on
pub record ShapedPosition : Type 0 where
  pub shape : Shape
  pub position : Position
