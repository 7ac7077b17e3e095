-- The occurrences of placements in one game: a node and a placement that holds there and not at the
-- node's parent.
use Rattle.std.specs.Prelude.{◌≡◌, ℕ, ◌<◌, ◌⊎◌, ◌&&◌, not, nat_eq, IfSome, Bool, true, false, List, length}
use Rattle.std.specs.Prelude.{map, filter}
use Rattle.std.specs.List.{flat_map, list_all, list_any, range_with_len}
use Rattle.std.specs.Option.{option_map_or}
use Rattle.kb_geometry.specs.declared.shape.Shape.{Shape}
use Rattle.kb_geometry.specs.declared.stone.Cell.{Cell}
use Rattle.kb_geometry.specs.declared.stone.Cell.TheVariants as stone
use Rattle.kb_geometry.specs.Capture.{Position, cell_at}
use Rattle.capture_board.specs.Deltas.{Deltas, node_count, parent_of, position_at}
use Rattle.pattern_images.specs.declared.cell.PatternCell.{PatternCell}
use Rattle.pattern_images.specs.declared.cell.PatternCell.TheVariants as cell
use Rattle.pattern_images.specs.Grid.{cell_in}
use Rattle.pattern_images.specs.Holds.{Holds, number_under}
use Rattle.pattern_images.specs.ImageList.{placement_at}
use Rattle.pattern_images.specs.Placements.{Placement}
pub use Rattle.pattern_occurrences.specs.declared.occurrence.Occurrence.{Occurrence}

-- the pattern's cell allows this cell of the board
abbrev pub allows : PatternCell → Cell → Bool
allows cell.Any on_board = true
allows cell.Empty stone.Empty = true
allows cell.Empty stone.Black = false
allows cell.Empty stone.White = false
allows cell.Black stone.Empty = false
allows cell.Black stone.Black = true
allows cell.Black stone.White = false
allows cell.White stone.Empty = false
allows cell.White stone.Black = false
allows cell.White stone.White = true
allows cell.NotWhite stone.Empty = true
allows cell.NotWhite stone.Black = true
allows cell.NotWhite stone.White = false
allows cell.NotBlack stone.Empty = true
allows cell.NotBlack stone.Black = false
allows cell.NotBlack stone.White = true

-- each cell of the placement allows the board's cell under it
abbrev pub holds : Shape → Position → Placement → Bool
holds shape position placement =
    list_all
    (λ dy. list_all
    (λ dx. allows (cell_in placement.grid dx dy)
    (cell_at position (number_under shape placement dx dy)))
    (range_with_len 0 placement.grid.cols))
    (range_with_len 0 placement.grid.rows)

-- the placement holds in the position at the node
abbrev pub holds_at : Deltas → Placement → ℕ → Bool
holds_at changes placement n = holds changes.shape (position_at changes n) placement

-- The placement holds at the node, and the node is the root or the placement doesn't hold at its
-- parent.
abbrev pub begins_at : Deltas → Placement → ℕ → Bool
begins_at changes placement n =
    holds_at changes placement n
    && not (option_map_or (holds_at changes placement) (parent_of changes n) false)

-- the occurrences at a node, in order of the placements
abbrev pub occurrences_at : Deltas → List Placement → ℕ → List Occurrence
occurrences_at changes placements n =
    map (λ i. record { node = n; placement = i })
    (filter (λ i. begins_at changes (placement_at placements i) n)
    (range_with_len 0 (length placements)))

-- the occurrences in a game, in order of its nodes
abbrev pub occurrences_in : Deltas → List Placement → List Occurrence
occurrences_in changes placements =
    flat_map (occurrences_at changes placements) (range_with_len 0 (node_count changes))

-- the occurrence is at one of these nodes
abbrev pub is_at_one_of : List ℕ → Occurrence → Bool
is_at_one_of nodes occurrence = list_any (nat_eq occurrence.node) nodes

-- the occurrences in a game that are at one of these nodes
abbrev pub occurrences_at_nodes : Deltas → List Placement → List ℕ → List Occurrence
occurrences_at_nodes changes placements nodes =
    filter (is_at_one_of nodes) (occurrences_in changes placements)

-- ---- the same in terms of what holds

-- the placement holds in the position at the node
abbrev pub HoldsAt : Deltas → Placement → ℕ → Type 0
HoldsAt changes placement n = Holds changes.shape (position_at changes n) placement

-- The node and the placement are there, and the placement holds at the node; if the node has a
-- parent, the placement doesn't hold there.
pub record Occurs (changes : Deltas) (placements : List Placement)
    (occurrence : Occurrence) : Type 0 where
  pub node_there : occurrence.node < node_count changes
  pub placement_there : occurrence.placement < length placements
  pub holds_there : HoldsAt changes (placement_at placements occurrence.placement) occurrence.node
  pub not_before : IfSome (parent_of changes occurrence.node)
      (λ m. ¬ HoldsAt changes (placement_at placements occurrence.placement) m)

-- the order of occurrences: by node, and at one node by placement
abbrev pub StandsBefore : Occurrence → Occurrence → Type 0
StandsBefore a b = (a.node < b.node) ⊎ ((a.node ≡ b.node) × (a.placement < b.placement))
