-- The runs of a point: from the first node of a run on the point has the run's cell, until the next
-- one begins.
use Rattle.std.specs.Prelude.{◌≡◌, ℕ, ◌<◌, ◌≤◌, nat_le, List, [], ◌∷◌, if◌then◌else◌, map, drop, slice_index_or, All}
use Rattle.kb_geometry.specs.declared.stone.Cell.{Cell}
use Rattle.kb_geometry.specs.declared.stone.Cell.TheVariants as stone
use Rattle.kb_geometry.specs.Capture.{Position}
use Rattle.capture_index.specs.declared.run.Run.{Run}

-- The cell at a node, by runs of which the latest stands first: that of the first one that begins
-- at or before the node.
-- Before all of them the point is empty.
abbrev pub cell_by : List Run → ℕ → Cell
cell_by [] n = stone.Empty
cell_by (r ∷ rs) n = if nat_le r.first n then r.cell else cell_by rs n

-- at the nodes before this one the runs behind the first so many tell the cells
abbrev pub AreToldBehind : List Run → ℕ → ℕ → Type 0
AreToldBehind runs count node = (n : ℕ) → n < node → cell_by runs n ≡ cell_by (drop count runs) n

-- no run begins behind the node
abbrev pub BeginsBy : ℕ → List Run → Type 0
BeginsBy n runs = All (λ (r : Run). r.first ≤ n) runs

-- the runs of the point with this number
abbrev pub runs_at : List (List Run) → ℕ → List Run
runs_at runs p = slice_index_or runs p []

-- the position at a node, by the runs of the points
abbrev pub position_by : List (List Run) → ℕ → Position
position_by runs n = map (λ rs. cell_by rs n) runs

-- no run of any point begins behind the node
abbrev pub BeginBy : ℕ → List (List Run) → Type 0
BeginBy n runs = All (BeginsBy n) runs
