-- What the placements of a query ask of points.
use Rattle.std.specs.Prelude.{◌≡◌, ◌≢◌, ℕ, ◌+◌, ◌*◌, ◌<◌, ◌≤◌, List, length, slice_index_or, All, Any}
use Rattle.kb_geometry.specs.declared.shape.Shape.{Shape}
use Rattle.kb_geometry.specs.Board.{cols_of, number_of}
use Rattle.kb_geometry.specs.Symmetry.{point_of}
use Rattle.pattern_images.specs.declared.cell.PatternCell.{PatternCell}
use Rattle.pattern_images.specs.declared.cell.PatternCell.TheVariants as kind
use Rattle.pattern_images.specs.Grid.{Grid, cell_in}
use Rattle.pattern_images.specs.Placements.{Placement}
use Rattle.ready_images.specs.declared.want.Want.{Want}

-- the number of the upper left point of a placement, behind which its wants stand
abbrev pub base_of : Shape → Placement → ℕ
base_of shape placement = number_of shape (point_of placement.x placement.y)

-- the want is that of the rectangle's cell in column dx and row dy, which stands so far behind the
-- upper left one on a board of the shape
abbrev pub IsWantAt : Shape → Grid → ℕ → ℕ → Want → Type 0
IsWantAt shape grid dx dy want =
    (want.offset ≡ dy * cols_of shape + dx) × (want.cell ≡ cell_in grid dx dy)

-- the want is that of some cell of the rectangle
abbrev pub IsWantIn : Shape → Grid → Want → Type 0
IsWantIn shape grid want =
    (dx : ℕ) × (dy : ℕ) × (dx < grid.cols) × (dy < grid.rows) × IsWantAt shape grid dx dy want

-- where a cell's want stands: those that must be a stone come first, then those that may be one,
-- then those that must be empty, and wildcards have none
abbrev pub rank_of : PatternCell → ℕ
rank_of kind.Black = 0
rank_of kind.White = 0
rank_of kind.NotWhite = 1
rank_of kind.NotBlack = 1
rank_of kind.Empty = 2
rank_of kind.Any = 3

-- the want is of a cell with the rank
abbrev pub IsOfRank : ℕ → Want → Type 0
IsOfRank rank want = rank_of want.cell ≡ rank

-- a want of an empty point
abbrev pub no_want : Want
no_want = record { offset = 0; cell = kind.Empty }

-- the want with this number
abbrev pub want_at : List Want → ℕ → Want
want_at wants k = slice_index_or wants k no_want

-- Each want is that of a cell of the rectangle on a board of the shape that is no wildcard, and each
-- such cell has one. Those of cells that must be a stone come first, and those of cells that must be
-- empty last.
pub record AreWantsOf (shape : Shape) (grid : Grid) (wants : List Want) : Type 0 where
  pub sound : All (IsWantIn shape grid) wants
  pub asks : All (λ (w : Want). w.cell ≢ kind.Any) wants
  pub complete : (dx dy : ℕ) → dx < grid.cols → dy < grid.rows → cell_in grid dx dy ≢ kind.Any →
      Any (IsWantAt shape grid dx dy) wants
  pub in_order : (j k : ℕ) → j < k → k < length wants →
      rank_of (want_at wants j).cell ≤ rank_of (want_at wants k).cell

-- The wants before one place are of cells that must be a stone, and those from another place on of
-- cells that must be empty.
pub record ArePartedAt (mixed empties : ℕ) (wants : List Want) : Type 0 where
  pub ordered : mixed ≤ empties
  pub within : empties ≤ length wants
  pub of_stones : (k : ℕ) → k < mixed → IsOfRank 0 (want_at wants k)
  pub of_empties : (k : ℕ) → empties ≤ k → k < length wants → IsOfRank 2 (want_at wants k)
