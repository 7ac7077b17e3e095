-- The runs of a game while they are made, node by node: definitions for the private functions.
use Rattle.std.specs.Prelude.{◌≡◌, ℕ, ◌<◌, ◌≤◌, List, length}
use Rattle.kb_geometry.specs.declared.stone.Cell.{Cell}
use Rattle.kb_geometry.specs.Board.{point_count}
use Rattle.kb_geometry.specs.Capture.{Position}
use Rattle.capture_board.specs.Deltas.{Deltas, position_at, position_where}
use Rattle.capture_board.specs.Walking.{node_before}
use Rattle.capture_index.specs.declared.run.Run.{Run}
use Rattle.capture_index.specs.Runs.{BeginBy, BeginsBy, cell_by, position_by}

-- the runs of a point after the cell came there at a node
pub record IsPut (node : ℕ) (cell : Cell) (before after : List Run) : Type 0 where
  pub past : (k : ℕ) → k < node → cell_by after k ≡ cell_by before k
  pub now : (k : ℕ) → node ≤ k → cell_by after k ≡ cell
  pub begun : BeginsBy node after

-- from a node on another position stands there; before the node all is as it was
pub record IsMade (node : ℕ) (position : Position) (before after : List (List Run)) : Type 0 where
  pub past : (k : ℕ) → k < node → position_by after k ≡ position_by before k
  pub now : position_by after node ≡ position
  pub begun : BeginBy node after

-- the runs of a game up to before a node
pub record AreBuilt (deltas : Deltas) (nodes : ℕ) (runs : List (List Run)) : Type 0 where
  pub count : length runs ≡ point_count deltas.shape
  pub past : (k : ℕ) → k < nodes → position_by runs k ≡ position_at deltas k
  pub shown : position_by runs nodes ≡ position_where deltas (node_before nodes)
  pub begun : BeginBy nodes runs
