-- What contracts see of the runs of a game: the positions at its nodes, and their parents.
use Rattle.std.specs.Prelude.{◌≢◌, ◌-◌, ℕ, Bool, true, false, not, List, [], Option, Some, None, filter, if◌then◌else◌, length, map, slice_index_or}
use Rattle.std.specs.List.{range_with_len}
use Rattle.std.specs.Option.{option_map_or}
use Rattle.kb_geometry.specs.declared.shape.Shape.{Shape}
use Rattle.kb_geometry.specs.declared.stone.Cell.{Cell}
use Rattle.kb_geometry.specs.declared.stone.Cell.TheVariants as stone
use Rattle.kb_geometry.specs.Capture.{Position, cell_at}
use Rattle.capture_board.specs.Deltas.{Deltas, node_count, parent_of, position_at}

-- The board of a game, and of each of its nodes, in order of the text, the parent and the position.
-- The root has no parent.
pub record NodePositions : Type 0 where
  pub shape : Shape
  pub parents : List (Option ℕ)
  pub positions : List Position

-- those of a game with these changes
abbrev pub positions_of : Deltas → NodePositions
positions_of deltas = record {
  shape = deltas.shape;
  parents = map (parent_of deltas) (range_with_len 0 (node_count deltas));
  positions = map (position_at deltas) (range_with_len 0 (node_count deltas));
}

-- how many nodes there are
abbrev pub count_in : NodePositions → ℕ
count_in seen = length seen.positions

-- the parent of a node
abbrev pub parent_in : NodePositions → ℕ → Option ℕ
parent_in seen n = slice_index_or seen.parents n None

-- the cell of a point at a node
abbrev pub cell_in : NodePositions → ℕ → ℕ → Cell
cell_in seen p n = cell_at (slice_index_or seen.positions n []) p

-- whether two cells are the same
abbrev pub is_cell : Cell → Cell → Bool
is_cell stone.Empty stone.Empty = true
is_cell stone.Empty stone.Black = false
is_cell stone.Empty stone.White = false
is_cell stone.Black stone.Empty = false
is_cell stone.Black stone.Black = true
is_cell stone.Black stone.White = false
is_cell stone.White stone.Empty = false
is_cell stone.White stone.Black = false
is_cell stone.White stone.White = true

-- whether the point has the cell at the parent of a node; the root has none
abbrev pub was_cell : NodePositions → ℕ → Cell → ℕ → Bool
was_cell seen p cell n =
    option_map_or (λ m. is_cell (cell_in seen p m) cell) (parent_in seen n) false

-- whether the point has the cell at a node, which is the root or whose parent has another one there
abbrev pub cell_begins_at : NodePositions → ℕ → Cell → ℕ → Bool
cell_begins_at seen p cell n =
    if is_cell (cell_in seen p n) cell then not (was_cell seen p cell n) else false

-- the nodes from this one on at which the point begins to have the cell, ascending
abbrev pub nodes_where : NodePositions → ℕ → Cell → ℕ → List ℕ
nodes_where seen p cell from =
    filter (cell_begins_at seen p cell) (range_with_len from (count_in seen - from))

-- there is no parent, or the point has another cell there
abbrev pub HadAnother : NodePositions → ℕ → Cell → Option ℕ → Type 0
HadAnother seen p cell None = Unit {0}
HadAnother seen p cell (Some m) = cell_in seen p m ≢ cell
