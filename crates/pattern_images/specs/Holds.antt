-- A placement holds in a position where each of its cells allows the board's cell.
use Rattle.std.specs.Prelude.{◌≡◌, ◌≢◌, ℕ, ◌+◌, ◌<◌}
use Rattle.kb_geometry.specs.declared.shape.Shape.{Shape}
use Rattle.kb_geometry.specs.declared.stone.Cell.{Cell}
use Rattle.kb_geometry.specs.declared.stone.Cell.TheVariants as stone
use Rattle.kb_geometry.specs.Board.{number_of}
use Rattle.kb_geometry.specs.Capture.{Position, cell_at}
use Rattle.kb_geometry.specs.Symmetry.{point_of}
use Rattle.pattern_images.specs.declared.cell.PatternCell.{PatternCell}
use Rattle.pattern_images.specs.declared.cell.PatternCell.TheVariants as cell
use Rattle.pattern_images.specs.Grid.{cell_in}
use Rattle.pattern_images.specs.Placements.{Placement}

-- The pattern's cell allows this cell of the board: empty, black and white allow themselves alone,
-- the half wildcards black or empty and white or empty, and a wildcard allows everything.
abbrev pub Allows : PatternCell → Cell → Type 0
Allows cell.Empty on_board = on_board ≡ stone.Empty
Allows cell.Black on_board = on_board ≡ stone.Black
Allows cell.White on_board = on_board ≡ stone.White
Allows cell.NotWhite on_board = on_board ≢ stone.White
Allows cell.NotBlack on_board = on_board ≢ stone.Black
Allows cell.Any on_board = Unit {0}

-- the number of the point of the board under column dx and row dy of the placement
abbrev pub number_under : Shape → Placement → ℕ → ℕ → ℕ
number_under shape placement dx dy = number_of shape (point_of (placement.x + dx)
    (placement.y + dy))

-- each cell of the placement allows the board's cell under it
abbrev pub Holds : Shape → Position → Placement → Type 0
Holds shape position placement =
    (dx dy : ℕ) → dx < placement.grid.cols → dy < placement.grid.rows →
    Allows (cell_in placement.grid dx dy) (cell_at position (number_under shape placement dx dy))
