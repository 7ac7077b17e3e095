-- The text of a pattern: its rows with `/` between, one byte for each cell.
use Rattle.std.specs.Prelude.{◌≡◌, ℕ, ◌*◌, List, length, map}
use Rattle.std.specs.List.{range_with_len, join_with_byte}
use Rattle.kb_geometry.specs.Side.{IsSide}
use Rattle.pattern_images.specs.declared.cell.PatternCell.{PatternCell}
use Rattle.pattern_images.specs.declared.cell.PatternCell.TheVariants as cell
use Rattle.pattern_images.specs.Grid.{Grid, cell_in}

-- the byte `/`
abbrev pub slash : ℕ
slash = 47

-- the byte `.`
abbrev pub dot : ℕ
dot = 46

-- the byte `*`
abbrev pub star : ℕ
star = 42

-- the bytes `X` and `O`
abbrev pub capital_x : ℕ
capital_x = 88

abbrev pub capital_o : ℕ
capital_o = 79

-- the bytes `x` and `o`
abbrev pub small_x : ℕ
small_x = 120

abbrev pub small_o : ℕ
small_o = 111

-- The byte of a cell: `.` for an empty one, `X` for black, `O` for white, `x` for black or empty,
-- `o` for white or empty, `*` for anything.
abbrev pub cell_byte : PatternCell → ℕ
cell_byte cell.Empty = dot
cell_byte cell.Black = capital_x
cell_byte cell.White = capital_o
cell_byte cell.NotWhite = small_x
cell_byte cell.NotBlack = small_o
cell_byte cell.Any = star

-- the text of the row with a number: the bytes of its cells from the left
abbrev pub row_text : Grid → ℕ → List ℕ
row_text grid y = map (λ x. cell_byte (cell_in grid x y)) (range_with_len 0 grid.cols)

-- the text of a pattern: the texts of its rows from the top, with `/` between each two
abbrev pub pattern_text : Grid → List ℕ
pattern_text grid = join_with_byte slash (map (row_text grid) (range_with_len 0 grid.rows))

-- The text spells the pattern. A pattern has 1 to 52 columns, 1 to 52 rows, and a cell for each
-- column of each row.
pub record SpellsPattern (text : List ℕ) (grid : Grid) : Type 0 where
  pub cols : IsSide grid.cols
  pub rows : IsSide grid.rows
  pub count : length grid.cells ≡ grid.cols * grid.rows
  pub same : text ≡ pattern_text grid
