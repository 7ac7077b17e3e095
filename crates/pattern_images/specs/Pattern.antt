-- A pattern as a rectangle of cells.
use Rattle.kb_geometry.specs.declared.shape.Shape.{Shape}
use Rattle.pattern_images.specs.declared.pattern.Pattern.{Pattern}
use Rattle.pattern_images.specs.Grid.{Grid}

-- the cells of a pattern
abbrev pub grid_of : Pattern → Grid
grid_of pattern = record { cols = pattern.cols; rows = pattern.rows; cells = pattern.cells }

-- the size of a pattern
abbrev pub size_of : Pattern → Shape
size_of pattern = record { cols = pattern.cols; rows = pattern.rows; in_range = pattern.in_range }
