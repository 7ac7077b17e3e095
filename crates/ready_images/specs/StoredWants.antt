-- The wants of classes in one list, and how they are added to it: definitions for the private
-- functions.
use Rattle.std.specs.Prelude.{◌≡◌, ◌≢◌, ℕ, ◌+◌, ◌-◌, ◌*◌, ◌<◌, ◌≤◌, List, [], ◌∷◌, ◌++◌, length, slice_index_or, slice_range, All, Any}
use Rattle.kb_geometry.specs.declared.shape.Shape.{Shape}
use Rattle.kb_geometry.specs.Board.{cols_of, rows_of}
use Rattle.pattern_images.specs.declared.cell.PatternCell.{PatternCell}
use Rattle.pattern_images.specs.declared.cell.PatternCell.TheVariants as kind
use Rattle.pattern_images.specs.Grid.{Grid}
use Rattle.pattern_images.specs.ImageList.{grid_at}
use Rattle.ready_images.specs.declared.want.Want.{Want}
use Rattle.ready_images.specs.declared.want_lists.ClassRange.{ClassRange}
use Rattle.ready_images.specs.declared.want_lists.WantLists.{WantLists}
use Rattle.ready_images.specs.Wants.{ArePartedAt, AreWantsOf, IsOfRank, IsWantAt, IsWantIn, rank_of}

-- the wants in the range
abbrev pub wants_in : List Want → ClassRange → List Want
wants_in wants range = slice_range wants range.start range.end

-- The range lies within the list of wants, parted in three.
pub record IsRangeOf (wants : List Want) (range : ClassRange) : Type 0 where
  pub stones : range.start ≤ range.mixed
  pub ordered : range.mixed ≤ range.empties
  pub within : range.empties ≤ range.end
  pub ends : range.end ≤ length wants

-- The wants are those of a rectangle, parted at two places.
pub record AreClassWants (shape : Shape) (grid : Grid) (mixed empties : ℕ)
    (wants : List Want) : Type 0 where
  pub are : AreWantsOf shape grid wants
  pub parted : ArePartedAt mixed empties wants

-- the range has the wants of a rectangle
abbrev pub HasWantsOf : Shape → Grid → List Want → ClassRange → Type 0
HasWantsOf shape grid wants range = AreClassWants shape grid (range.mixed - range.start)
    (range.empties - range.start) (wants_in wants range)

-- each of the first so many classes has its wants in a range
pub record HaveWantsTo (shape : Shape) (grids : List Grid) (n : ℕ) (ranges : List ClassRange)
    (wants : List Want) : Type 0 where
  pub count : length ranges ≡ n
  pub within : All (IsRangeOf wants) ranges
  pub each : (k : ℕ) (d : ClassRange) → k < n →
      HasWantsOf shape (grid_at grids k) wants (slice_index_or ranges k d)

-- the rectangle of this size with these cells
abbrev pub grid_with : Shape → List PatternCell → Grid
grid_with size cells = record { cols = cols_of size; rows = rows_of size; cells = cells }

-- the cell with a number, row by row
abbrev pub cell_with : Grid → ℕ → PatternCell
cell_with grid k = slice_index_or grid.cells k kind.Any

-- the want is that of the cell with this number
pub record IsWantWith (shape : Shape) (grid : Grid) (k : ℕ) (want : Want) : Type 0 where
  pub dx : ℕ
  pub dy : ℕ
  pub column : dx < grid.cols
  pub row : dy < grid.rows
  pub is : IsWantAt shape grid dx dy want
  pub only : (ex ey : ℕ) → ex < grid.cols → ey < grid.rows → ey * grid.cols + ex ≡ k →
      (ex ≡ dx) × (ey ≡ dy)

-- the list grows by the want of a cell that stands so far behind the upper left one, if the cell
-- has the rank, and else stays as it is
abbrev pub IsWantPut : ℕ → PatternCell → ℕ → List Want → List Want → Type 0
IsWantPut rank cell offset before after =
    (rank_of cell ≡ rank → after ≡ before ++ record { offset = offset; cell = cell } ∷ [])
    × (rank_of cell ≢ rank → after ≡ before)

-- The list grows by wants of cells that all have one rank. Among them are those of all cells with
-- numbers that are asked for.
pub record AreWantsAdded (shape : Shape) (grid : Grid) (rank : ℕ) (IsAsked : ℕ → Type 0)
    (before after : List Want) : Type 0 where
  pub more : List Want
  pub added : after ≡ before ++ more
  pub sound : All (IsWantIn shape grid) more
  pub ranked : All (IsOfRank rank) more
  pub complete : (k : ℕ) → IsAsked k → Any (IsWantWith shape grid k) more

-- the cell with the number is one of the first so many, and has the rank
abbrev pub HasRank : Grid → ℕ → ℕ → ℕ → Type 0
HasRank grid rank count k = (k < count) × (rank_of (cell_with grid k) ≡ rank)

-- A list has gained the wants of those of the first so many cells that must be a stone; two others,
-- empty before, have those that may be one, and those that must be empty.
pub record AreParted (shape : Shape) (grid : Grid) (count : ℕ) (before : List Want)
    (lists : WantLists) : Type 0 where
  pub stones : AreWantsAdded shape grid 0 (HasRank grid 0 count) before lists.wants.items
  pub mixed : AreWantsAdded shape grid 1 (HasRank grid 1 count) [] lists.mixed.items
  pub empties : AreWantsAdded shape grid 2 (HasRank grid 2 count) [] lists.empties.items

-- if the lists were parted for the cells before one number, then the new lists are parted for those
-- before another
abbrev pub ArePartedOn : Shape → Grid → ℕ → ℕ → WantLists → WantLists → Type 0
ArePartedOn shape grid from to old new = (before : List Want) →
    AreParted shape grid from before old → AreParted shape grid to before new

-- the list grows by the wants of the class with this rectangle, which stand in the range
pub record IsClassAdded (shape : Shape) (grid : Grid) (range : ClassRange)
    (before after : List Want) : Type 0 where
  pub more : List Want
  pub added : after ≡ before ++ more
  pub from : range.start ≡ length before
  pub to : range.end ≡ length after
  pub behind : range.start ≤ range.mixed
  pub ordered : range.mixed ≤ range.empties
  pub wants : AreClassWants shape grid (range.mixed - range.start) (range.empties - range.start) more
