-- What a walker keeps: definitions for its private functions.
use Rattle.std.specs.Prelude.{◌≡◌, ℕ, ◌<◌, ◌↔◌, List, [], ◌∷◌, slice_set, Contains}
use Rattle.kb_geometry.specs.declared.stone.Cell.{Cell}
use Rattle.kb_geometry.specs.declared.stone.Cell.TheVariants as cell
use Rattle.kb_geometry.specs.declared.stone.Change.{Change}
use Rattle.kb_geometry.specs.Capture.{Position, cell_at}
use Rattle.capture_board.specs.declared.cell_sets.PointsByCell.{PointsByCell}

-- the position with the old cell of each of these changes put back, one after another
abbrev pub with_old_cells : Position → List Change → Position
with_old_cells position [] = position
with_old_cells position (c ∷ cs) = with_old_cells (slice_set position c.point c.old) cs

-- the set of a cell
abbrev pub points_in : PointsByCell → Cell → List ℕ
points_in points cell.Empty = points.empty
points_in points cell.Black = points.black
points_in points cell.White = points.white

-- the sets have each point of the board in that of its cell, and no other
abbrev pub ArePointsOf : ℕ → Position → PointsByCell → Type 0
ArePointsOf count cells points = (c : Cell) (p : ℕ) → Contains (points_in points c) p
    ↔ ((p < count) × (cell_at cells p ≡ c))
