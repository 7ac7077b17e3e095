-- The forms of values: sizes, points, moves and setups. White space at either end of a value is
-- ignored.
use Rattle.std.specs.Prelude.{◌≡◌, ◌⊎◌, ℕ, ◌+◌, ◌-◌, ◌≤◌, List, [], ◌∷◌, ◌++◌, Option, Some, None, codes, min, max}
use Rattle.std.specs.Str.Parse.{IsNumeral, digits_value}
use Rattle.kb_geometry.specs.declared.shape.Point.{Point}
use Rattle.kb_geometry.specs.declared.shape.Rect.{Rect}
use Rattle.kb_geometry.specs.declared.shape.Shape.{Shape}
use Rattle.kb_geometry.specs.Board.{IsOnBoard, cols_of, rows_of}
use Rattle.kb_geometry.specs.Side.{IsSide}
use Rattle.sgf_reader.specs.Bytes.{capital_a, colon, small_a}
use Rattle.game_tree.specs.Property.{IsTrimmed}

-- a number of columns or rows: one or more decimal digits of a value that a side may have
abbrev pub IsSideText : List ℕ → ℕ → Type 0
IsSideText text n = IsNumeral 10 text × (digits_value 10 text ≡ n) × IsSide n

-- A size: one number N, which is N by N, or two numbers with a colon, columns first.
pub data IsSize : List ℕ → Shape → Type 0 where
  square : {text : List ℕ} {shape : Shape} →
      IsSideText text (cols_of shape) →
      rows_of shape ≡ cols_of shape →
      IsSize text shape
  columns_and_rows : {shape : Shape} (columns rows : List ℕ) →
      IsSideText columns (cols_of shape) →
      IsSideText rows (rows_of shape) →
      IsSize (columns ++ colon ∷ rows) shape

-- the letter of a column or row: `a` to `z` are 0 to 25, `A` to `Z` are 26 to 51
abbrev pub IsCoordinate : ℕ → ℕ → Type 0
IsCoordinate letter n =
    ((n ≤ 25) × (letter ≡ small_a + n)) ⊎
    ((26 ≤ n) × (n ≤ 51) × (letter ≡ capital_a + (n - 26)))

-- a point of the board: two letters, first the column from the left, then the row from the top
pub data IsPoint (shape : Shape) : List ℕ → Point → Type 0 where
  letters : {p : Point} (column row : ℕ) →
      IsCoordinate column p.x →
      IsCoordinate row p.y →
      IsOnBoard shape p →
      IsPoint shape (column ∷ row ∷ []) p

-- What a move's value says: a point of the board, or a pass. A pass is the empty value, and `tt` on
-- boards of at most 19 by 19; on larger ones `tt` is a point as all others are.
pub data IsMoveText (shape : Shape) : List ℕ → Option Point → Type 0 where
  point : {text : List ℕ} {p : Point} → IsPoint shape text p → IsMoveText shape text (Some p)
  pass : IsMoveText shape [] None
  pass_tt : cols_of shape ≤ 19 → rows_of shape ≤ 19 → IsMoveText shape (codes "tt") None

-- the rectangle of which two points are opposite corners
abbrev pub rect_of : Point → Point → Rect
rect_of p q = record { x0 = min p.x q.x; y0 = min p.y q.y; x1 = max p.x q.x; y1 = max p.y q.y }

-- what a setup's value says: a point, or two points with a colon, opposite corners of a rectangle
-- in either order; the empty value is ignored
pub data IsSetupText (shape : Shape) : List ℕ → Option Rect → Type 0 where
  one_point : {text : List ℕ} {p : Point} → IsPoint shape text p →
      IsSetupText shape text (Some (rect_of p p))
  rectangle : {p q : Point} (one other : List ℕ) →
      IsPoint shape one p →
      IsPoint shape other q →
      IsSetupText shape (one ++ colon ∷ other) (Some (rect_of p q))
  ignored : IsSetupText shape [] None

-- the value of a move, with white space at either end
abbrev pub IsMoveValue : Shape → List ℕ → Option Point → Type 0
IsMoveValue shape value move = (inner : List ℕ) × IsTrimmed value inner
    × IsMoveText shape inner move

-- the value of a setup, with white space at either end
abbrev pub IsSetupValue : Shape → List ℕ → Option Rect → Type 0
IsSetupValue shape value rect = (inner : List ℕ) × IsTrimmed value inner
    × IsSetupText shape inner rect
