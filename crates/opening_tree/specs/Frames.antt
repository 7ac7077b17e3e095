-- The images of a position as private functions keep them.
use Rattle.std.specs.Prelude.{◌≡◌, ℕ, ◌<◌, ◌==◌, if◌then◌else◌, List, [], length, slice_index_or}
use Rattle.kb_geometry.specs.declared.shape.Shape.{Shape}
use Rattle.kb_geometry.specs.Board.{cols_of, rows_of}
use Rattle.kb_geometry.specs.Capture.{Position}
use Rattle.opening_tree.specs.Canonical.{Brings}

-- how many symmetries a board allows: those with the least numbers
abbrev pub symmetries_of : Shape → ℕ
symmetries_of shape = if cols_of shape == rows_of shape then 8 else 4

-- the image with a number
abbrev pub image_in : List Position → ℕ → Position
image_in images number = slice_index_or images number []

-- The images of a position under the symmetries that its board allows, by their numbers.
pub record AreImages (shape : Shape) (position : Position) (images : List Position) : Type 0 where
  pub count : length images ≡ symmetries_of shape
  pub each : (number : ℕ) →
      number < length images →
      Brings shape number position (image_in images number)
