-- The nodes of a game at which a placement may begin to hold.
use Rattle.std.specs.Prelude.{◌≡◌, ◌≢◌, ℕ, ◌<◌, ◌⊎◌, ◌↔◌, List, length, Contains}
use Rattle.kb_geometry.specs.declared.shape.Shape.{Shape}
use Rattle.kb_geometry.specs.declared.stone.Cell.{Cell}
use Rattle.kb_geometry.specs.declared.stone.Cell.TheVariants as stone
use Rattle.pattern_images.specs.declared.cell.PatternCell.{PatternCell}
use Rattle.pattern_images.specs.declared.cell.PatternCell.TheVariants as cell
use Rattle.pattern_images.specs.Grid.{cell_in}
use Rattle.pattern_images.specs.Holds.{Allows, number_under}
use Rattle.pattern_images.specs.ImageList.{placement_at}
use Rattle.pattern_images.specs.Placements.{Placement}
use Rattle.capture_index.specs.NodePositions.{NodePositions, count_in, nodes_where}
use Rattle.candidate_sieve.specs.declared.asked.AskedPoints.{AskedPoints}

-- the pattern's cell is no wildcard and allows the cell
abbrev pub AsksCell : PatternCell → Cell → Type 0
AsksCell pattern c = (pattern ≢ cell.Any) × Allows pattern c

-- a cell of the placement lies on the point, is no wildcard and allows the cell
abbrev pub AsksThere : Shape → Placement → ℕ → Cell → Type 0
AsksThere shape placement p c =
    (dx : ℕ) × (dy : ℕ) × (dx < placement.grid.cols) × (dy < placement.grid.rows)
    × ((AsksCell (cell_in placement.grid dx dy) c) × (p ≡ number_under shape placement dx dy))

-- a cell of some placement does so
abbrev pub IsAskedBySome : Shape → List Placement → ℕ → Cell → Type 0
IsAskedBySome shape placements p c =
    (i : ℕ) × (i < length placements) × AsksThere shape (placement_at placements i) p c

-- The node is the root, or there a point under a cell of a placement that is no wildcard begins to
-- have a cell that it allows.
abbrev pub IsNodeCandidate : NodePositions → List Placement → ℕ → Type 0
IsNodeCandidate seen placements n = ((n ≡ 0) × (0 < count_in seen))
    ⊎ ((p : ℕ) × (c : Cell) × IsAskedBySome seen.shape placements p c
    × Contains (nodes_where seen p c 0) n)

-- the points that were noted with a cell
abbrev pub noted : AskedPoints → Cell → List ℕ
noted points stone.Empty = points.empty
noted points stone.Black = points.black
noted points stone.White = points.white

-- the points that were noted are exactly those that the placements ask for, with their cells
abbrev pub AreAsked : Shape → List Placement → AskedPoints → Type 0
AreAsked shape placements points =
    (c : Cell) (p : ℕ) → Contains (noted points c) p ↔ IsAskedBySome shape placements p c
