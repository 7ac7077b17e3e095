-- Definitions of the private functions that rebuild the position at a node.
use Rattle.std.specs.Prelude.{ℕ, List, Option, Some, None, is_some, slice_index_or, slice_set, if◌then◌else◌}
use Rattle.std.specs.Option.{option_map_or}
use Rattle.kb_geometry.specs.declared.stone.Cell.{Cell}
use Rattle.kb_geometry.specs.declared.stone.Cell.TheVariants as stone
use Rattle.kb_geometry.specs.declared.stone.Change.{Change}
use Rattle.kb_geometry.specs.Capture.{Position, cell_at}

-- the cells that are known of some points, with those of a position on all others
abbrev pub cell_over : List (Option Cell) → Position → ℕ → Cell
cell_over known below p = option_map_or (λ c. c) (slice_index_or known p None) (cell_at below p)

-- the known cell of a point, or empty
abbrev pub known_cell : List (Option Cell) → ℕ → Cell
known_cell known p = option_map_or (λ c. c) (slice_index_or known p None) stone.Empty

-- with the new cell of a change, if none is known of its point
abbrev pub noted : List (Option Cell) → Change → List (Option Cell)
noted known c = if is_some (slice_index_or known c.point None) then known else slice_set known
    c.point (Some c.new)
