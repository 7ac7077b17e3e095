-- The games that are kept for a search, by two rules over all nodes: each cell of a placement was
-- allowed at some node, and each corner that it covers stood as it asks at some node.
use Rattle.std.specs.Prelude.{ℕ, ◌<◌, List, Any}
use Rattle.kb_geometry.specs.Capture.{cell_at}
use Rattle.capture_board.specs.Deltas.{Deltas, node_count, position_at}
use Rattle.pattern_images.specs.declared.cell.PatternCell.{PatternCell}
use Rattle.pattern_images.specs.Grid.{cell_in}
use Rattle.pattern_images.specs.Holds.{Allows, number_under}
use Rattle.pattern_images.specs.Placements.{Placement}
use Rattle.ready_images.specs.Corners.{CoversCorner, HasCorners, LiesOn}

-- at some node the point has a cell that the pattern's cell allows
abbrev pub WasAllowed : Deltas → ℕ → PatternCell → Type 0
WasAllowed deltas p c = (n : ℕ) × (n < node_count deltas)
    × Allows c (cell_at (position_at deltas n) p)

-- each cell of the placement was allowed at some node, perhaps at another one for each cell
abbrev pub WereAllowed : Deltas → Placement → Type 0
WereAllowed deltas placement =
    (dx dy : ℕ) → dx < placement.grid.cols → dy < placement.grid.rows →
    WasAllowed deltas (number_under deltas.shape placement dx dy) (cell_in placement.grid dx dy)

-- at the node the corner's points have the cells that the placement has there
abbrev pub HasCornerOf : Deltas → Placement → ℕ → ℕ → Type 0
HasCornerOf deltas placement corner n =
    (column row dx dy : ℕ) → column < 6 → row < 6 →
    LiesOn deltas.shape placement corner column row dx dy →
    Allows (cell_in placement.grid dx dy)
    (cell_at (position_at deltas n) (number_under deltas.shape placement dx dy))

-- at some node the corner had the placement's cells, if the board has it and the placement covers it; a
-- board with a side below 6 has no corner
abbrev pub HadIfCovered : Deltas → Placement → ℕ → Type 0
HadIfCovered deltas placement corner =
    HasCorners deltas.shape → CoversCorner deltas.shape placement corner →
    (n : ℕ) × (n < node_count deltas) × HasCornerOf deltas placement corner n

-- at some node each corner that the placement covers had its cells, perhaps at another one for each
-- corner
abbrev pub HadCorners : Deltas → Placement → Type 0
HadCorners deltas placement = (corner : ℕ) → corner < 4 → HadIfCovered deltas placement corner

-- The placement meets both rules in the game.
pub record IsKeptBy (deltas : Deltas) (placement : Placement) : Type 0 where
  pub cells : WereAllowed deltas placement
  pub corners : HadCorners deltas placement

-- the game is kept: some placement meets both rules
abbrev pub IsKept : Deltas → List Placement → Type 0
IsKept deltas placements = Any (IsKeptBy deltas) placements
