-- Definitions of the private functions that read a text: what is known of a text once its first
-- bytes were read.
use Rattle.std.specs.Prelude.{◌≡◌, ℕ, ◌+◌, ◌*◌, ◌<◌, ◌≤◌, List, length, slice_index, slice_index_or, Option, None, Some}
use Rattle.kb_geometry.specs.declared.shape.Shape.{Shape}
use Rattle.kb_geometry.specs.Board.{cols_of, rows_of}
use Rattle.pattern_images.specs.declared.cell.PatternCell.{PatternCell}
use Rattle.pattern_images.specs.declared.cell.PatternCell.TheVariants as cell
use Rattle.pattern_syntax.specs.declared.progress.Progress.{Progress}
use Rattle.pattern_syntax.specs.Text.{slash, cell_byte}
use Rattle.pattern_syntax.specs.Faults.{HasPatternFault, slashes_before}

-- The first k bytes of a text are `rows` rows of `cols` cells each, each with its `/`, and then a
-- row that has `width` cells so far. The cells stand row by row.
pub record HasRows (text : List ℕ) (k rows cols width : ℕ) (cells : List PatternCell) : Type 0 where
  pub place : rows * (cols + 1) + width ≡ k
  pub within : k ≤ length text
  pub few : rows < 52
  pub narrow : cols ≤ 52
  pub short : width ≤ 52
  pub count : length cells ≡ rows * cols + width
  pub closed : (x y : ℕ) → x < cols → y < rows →
      slice_index text (y * (cols + 1) + x)
      ≡ cell_byte (slice_index_or cells (y * cols + x) cell.Any)
  pub begun : (x : ℕ) → x < width →
      slice_index text (rows * (cols + 1) + x)
      ≡ cell_byte (slice_index_or cells (rows * cols + x) cell.Any)
  pub parted : (y : ℕ) → y < rows → slice_index text (y * (cols + 1) + cols) ≡ slash
  pub slashes : slashes_before text k ≡ rows

-- how many rows are closed, and how many cells each of them has
abbrev pub closed_rows : Option Shape → ℕ
closed_rows None = 0
closed_rows (Some size) = rows_of size

abbrev pub closed_cols : Option Shape → ℕ
closed_cols None = 0
closed_cols (Some size) = cols_of size

-- the first k bytes of the text were read, they have no fault, and these are their cells
pub record IsPatternReadTo (text : List ℕ) (k : ℕ) (progress : Progress)
    (cells : List PatternCell) : Type 0 where
  pub rows : HasRows text k (closed_rows progress.closed)
      (closed_cols progress.closed) progress.width cells
  pub faultless : (j : ℕ) → j < k → ¬ HasPatternFault text j
