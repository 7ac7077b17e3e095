-- Rows of pattern cells as words. These definitions mirror how the private functions test a
-- placement.
use Rattle.std.specs.Prelude.{◌≡◌, ◌≢◌, ℕ, ◌+◌, ◌<◌, ◌≤◌, ◌↔◌, Bool, true, false, List, length}
use Rattle.std.specs.Prelude.{slice_index_or, Contains, if◌then◌else◌}
use Rattle.std.specs.Int.{bit_at}
use Rattle.kb_geometry.specs.declared.stone.Colour.{Colour}
use Rattle.kb_geometry.specs.declared.stone.Colour.TheVariants as side
use Rattle.pattern_images.specs.declared.cell.PatternCell.{PatternCell}
use Rattle.pattern_images.specs.declared.cell.PatternCell.TheVariants as cell
use Rattle.pattern_images.specs.Grid.{Grid, cell_in}
use Rattle.line_matcher.specs.declared.mask.RowMask.{RowMask}

-- The cell asks whether a black stone is there: it wants one, or none. The half wildcard that
-- allows black and empty asks only of white.
abbrev pub asks_black : PatternCell → Bool
asks_black cell.Empty = true
asks_black cell.Black = true
asks_black cell.White = true
asks_black cell.NotWhite = false
asks_black cell.NotBlack = true
asks_black cell.Any = false

-- the cell asks whether a white stone is there
abbrev pub asks_white : PatternCell → Bool
asks_white cell.Empty = true
asks_white cell.Black = true
asks_white cell.White = true
asks_white cell.NotWhite = true
asks_white cell.NotBlack = false
asks_white cell.Any = false

-- the cell asks whether a stone of the colour is there
abbrev pub asks : Colour → PatternCell → Bool
asks side.Black c = asks_black c
asks side.White c = asks_white c

-- the cell wants a black stone
abbrev pub is_black : PatternCell → Bool
is_black cell.Empty = false
is_black cell.Black = true
is_black cell.White = false
is_black cell.NotWhite = false
is_black cell.NotBlack = false
is_black cell.Any = false

-- the cell wants a white stone
abbrev pub is_white : PatternCell → Bool
is_white cell.Empty = false
is_white cell.Black = false
is_white cell.White = true
is_white cell.NotWhite = false
is_white cell.NotBlack = false
is_white cell.Any = false

-- the word with a bit set, if it is to be set
pub record HasBit (before k : ℕ) (set : Bool) (after : ℕ) : Type 0 where
  pub here : bit_at after k ≡ (if set then 1 else bit_at before k)
  pub others : (j : ℕ) → j ≢ k → bit_at after j ≡ bit_at before j

-- the row with a cell in column k
pub record IsWithCell (before : RowMask) (k : ℕ) (c : PatternCell) (after : RowMask) : Type 0 where
  pub black_care : HasBit before.black_care k (asks_black c) after.black_care
  pub black : HasBit before.black k (is_black c) after.black
  pub white_care : HasBit before.white_care k (asks_white c) after.white_care
  pub white : HasBit before.white k (is_white c) after.white

-- a row without a cell
abbrev pub no_mask : RowMask
no_mask = record { black_care = 0; black = 0; white_care = 0; white = 0 }

-- the word of the cells that ask whether a stone of the colour is there
abbrev pub care_of : Colour → RowMask → ℕ
care_of side.Black row = row.black_care
care_of side.White row = row.white_care

-- bit k of the word is set exactly where the cell in column k passes the test, for the first so
-- many columns of a row
pub record IsRowWord (test : PatternCell → Bool) (grid : Grid) (dy cols word : ℕ) : Type 0 where
  pub within : (k : ℕ) → k < cols → bit_at word k ≡ (if test (cell_in grid k dy) then 1 else 0)
  pub behind : (k : ℕ) → cols ≤ k → bit_at word k ≡ 0

-- the first so many columns of a row
pub record IsRowTo (grid : Grid) (dy cols : ℕ) (row : RowMask) : Type 0 where
  pub black_care : IsRowWord asks_black grid dy cols row.black_care
  pub black : IsRowWord is_black grid dy cols row.black
  pub white_care : IsRowWord asks_white grid dy cols row.white_care
  pub white : IsRowWord is_white grid dy cols row.white

-- the rows of a rectangle of cells
pub record AreRowsOf (grid : Grid) (rows : List RowMask) : Type 0 where
  pub count : length rows ≡ grid.rows
  pub each : (dy : ℕ) → dy < grid.rows → IsRowTo grid dy grid.cols (slice_index_or rows dy no_mask)

-- The word is that of the points from start on that lie under a bit of care.
pub record IsUnder (word care : ℕ) (points : List ℕ) (start : ℕ) : Type 0 where
  pub bits : (k : ℕ) → k < 64 →
      (bit_at word k ≡ 1) ↔ (Contains points (start + k) × (bit_at care k ≡ 1))

-- the row's cells allow what stands on the points from start on: these points are black, and these
-- white
pub record FitsRow (row : RowMask) (black white : List ℕ) (start : ℕ) : Type 0 where
  pub black_cells : IsUnder row.black row.black_care black start
  pub white_cells : IsUnder row.white row.white_care white start

-- bit k of care is set, and the point k columns behind start is one of these
pub record TouchesAt (care : ℕ) (points : List ℕ) (start k : ℕ) : Type 0 where
  pub narrow : k < 64
  pub care_bit : bit_at care k ≡ 1
  pub point : Contains points (start + k)
