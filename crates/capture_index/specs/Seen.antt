-- The positions and the parents that packed runs tell.
use Rattle.std.specs.Prelude.{ℕ, ◌≡◌, ◌-◌, ◌+◌, ◌<◌, ◌≤◌, [], ◌∷◌, map, Option, Some, None}
use Rattle.std.specs.List.{range_with_len}
use Rattle.kb_geometry.specs.declared.stone.Cell.{Cell}
use Rattle.kb_geometry.specs.Capture.{Position}
use Rattle.capture_index.specs.declared.packed_runs.PackedRuns.{PackedRuns}
use Rattle.capture_index.specs.Branches.{parent_by}
use Rattle.capture_index.specs.Lists.{runs_of}
use Rattle.capture_index.specs.NodePositions.{NodePositions, count_in, nodes_where}
use Rattle.capture_index.specs.Runs.{cell_by}

-- the position at a node
abbrev pub packed_position : PackedRuns → ℕ → Position
packed_position packed n =
    map (λ time. cell_by (runs_of packed.ends.items packed.runs.items time) n) packed.times.items

-- the positions and the parents
abbrev pub seen_by : PackedRuns → NodePositions
seen_by packed = record {
  shape = packed.shape;
  parents = map (parent_by packed.branches.items) (range_with_len 0 packed.nodes);
  positions = map (packed_position packed) (range_with_len 0 packed.nodes);
}

-- from the node up to before the next one the cell stays
pub record StaysTo (cell : ℕ → Cell) (nodes n next : ℕ) : Type 0 where
  pub more : n < next
  pub most : next ≤ nodes
  pub stays : (k : ℕ) → n ≤ k → k < next → cell k ≡ cell n

-- behind the node and before the next one each node's parent is the node before it
pub record GoesOnTo (parent : ℕ → Option ℕ) (nodes n next : ℕ) : Type 0 where
  pub more : n < next
  pub most : next ≤ nodes
  pub goes_on : (k : ℕ) → n < k → k < next → parent k ≡ Some (k - 1)

-- the next node from this one on at which the point begins to have the cell, if there is one
abbrev pub IsNextBegin : NodePositions → ℕ → Cell → ℕ → Option ℕ → Type 0
IsNextBegin seen p cell from None = nodes_where seen p cell from ≡ []
IsNextBegin seen p cell from (Some n) = (n < count_in seen) ×
    (nodes_where seen p cell from ≡ n ∷ nodes_where seen p cell (n + 1))
