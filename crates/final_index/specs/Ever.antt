-- Cells that a point had at some node of a game.
use Rattle.std.specs.Prelude.{◌≡◌, ℕ, ◌<◌, ◌↔◌, List, Contains}
use Rattle.kb_geometry.specs.declared.stone.Cell.{Cell}
use Rattle.kb_geometry.specs.declared.stone.Cell.TheVariants as cell
use Rattle.kb_geometry.specs.Board.{point_count}
use Rattle.kb_geometry.specs.Capture.{cell_at}
use Rattle.capture_board.specs.Deltas.{Deltas, node_count, position_at}
use Rattle.final_index.specs.declared.ever_sets.EverSets.{EverSets}

-- the point had the cell at some node
abbrev pub WasAt : Deltas → ℕ → Cell → Type 0
WasAt deltas p stone = (n : ℕ) × (n < node_count deltas)
    × (cell_at (position_at deltas n) p ≡ stone)

-- the set of a cell
abbrev pub set_of : EverSets → Cell → List ℕ
set_of sets cell.Empty = sets.empty
set_of sets cell.Black = sets.black
set_of sets cell.White = sets.white

-- the sets have exactly the points of the board with their cell at some node
abbrev pub AreSetsOf : Deltas → EverSets → Type 0
AreSetsOf deltas sets = (stone : Cell) (p : ℕ) → Contains (set_of sets stone) p
    ↔ ((p < point_count deltas.shape) × WasAt deltas p stone)
