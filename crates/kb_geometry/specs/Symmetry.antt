-- The eight symmetries of a board, and the sixteen labels: a symmetry, with or without an exchange
-- of the colours.
use Rattle.std.specs.Prelude.{◌≡◌, ℕ, ◌-◌, ◌%◌, ◌≤◌, ◌==◌, nat_lt, if◌then◌else◌}
use Rattle.kb_geometry.specs.declared.shape.Shape.{Shape}
use Rattle.kb_geometry.specs.declared.shape.Point.{Point}
use Rattle.kb_geometry.specs.declared.symmetry.Symmetry.{Symmetry}
use Rattle.kb_geometry.specs.declared.symmetry.Label.{Label}
use Rattle.kb_geometry.specs.Board.{cols_of, rows_of}

-- the number of a symmetry, from 0 to 7
abbrev pub number_of_symmetry : Symmetry → ℕ
number_of_symmetry s = s.number

-- the number of a label, from 0 to 15
abbrev pub number_of_label : Label → ℕ
number_of_label label = label.number

-- the point in column x and row y
abbrev pub point_of : ℕ → ℕ → Point
point_of x y = record { x = x; y = y }

-- Where the symmetry with a number moves a point of a board, or of a rectangle of this size in its
-- own frame. Symmetries 4 to 7 exchange columns and rows.
abbrev pub moved : ℕ → Shape → Point → Point
moved number shape p =
    if number == 0 then point_of p.x p.y
    else if number == 1 then point_of (cols_of shape - 1 - p.x) p.y
    else if number == 2 then point_of p.x (rows_of shape - 1 - p.y)
    else if number == 3 then point_of (cols_of shape - 1 - p.x) (rows_of shape - 1 - p.y)
    else if number == 4 then point_of p.y p.x
    else if number == 5 then point_of p.y (cols_of shape - 1 - p.x)
    else if number == 6 then point_of (rows_of shape - 1 - p.y) p.x
    else point_of (rows_of shape - 1 - p.y) (cols_of shape - 1 - p.x)

-- the number of the symmetry that moves back: the quarter turns 5 and 6 undo each other, and each
-- other symmetry undoes itself
abbrev pub inverse_number : ℕ → ℕ
inverse_number number = if number == 5 then 6 else if number == 6 then 5 else number

-- how many columns a rectangle of this size has after the symmetry with a number
abbrev pub turned_cols : ℕ → Shape → ℕ
turned_cols number size = if nat_lt number 4 then cols_of size else rows_of size

-- how many rows it then has
abbrev pub turned_rows : ℕ → Shape → ℕ
turned_rows number size = if nat_lt number 4 then rows_of size else cols_of size

-- symmetries 4 to 7 are symmetries of square boards alone
abbrev pub IsAllowed : ℕ → Shape → Type 0
IsAllowed number shape = 4 ≤ number → cols_of shape ≡ rows_of shape

-- the symmetry of the label with a number: labels 0 to 7 are the symmetries, and 8 to 15 are these
-- again with the colours exchanged
abbrev pub symmetry_of : ℕ → ℕ
symmetry_of label = label % 8

-- the label with a number exchanges black and white
abbrev pub IsExchanging : ℕ → Type 0
IsExchanging label = 8 ≤ label
