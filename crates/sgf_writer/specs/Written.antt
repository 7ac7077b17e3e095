-- The canonical text of a tree.
use Rattle.std.specs.Prelude.{◌≡◌, ℕ, ◌+◌, ◌-◌, ◌==◌, ◌&&◌, ◌||◌, nat_lt, Bool, List, [], ◌∷◌, ◌++◌, Option, Some, None, codes, if◌then◌else◌}
use Rattle.std.specs.List.{flat_map}
use Rattle.std.specs.Fmt.{decimal}
use Rattle.std.specs.Option.{option_map_or}
use Rattle.kb_geometry.specs.declared.shape.Point.{Point}
use Rattle.kb_geometry.specs.declared.shape.Rect.{Rect}
use Rattle.kb_geometry.specs.declared.shape.Shape.{Shape}
use Rattle.kb_geometry.specs.declared.stone.Cell.{Cell}
use Rattle.kb_geometry.specs.declared.stone.Cell.TheVariants as cell
use Rattle.kb_geometry.specs.declared.stone.Colour.{Colour}
use Rattle.kb_geometry.specs.declared.stone.Colour.TheVariants as colour
use Rattle.kb_geometry.specs.Board.{cols_of, rows_of}
use Rattle.sgf_reader.specs.Bytes.{backslash, capital_a, round_close, round_open, small_a, square_close}
use Rattle.game_tree.specs.declared.node.Move.{Move}
use Rattle.game_tree.specs.declared.node.Setup.{Setup}
use Rattle.game_tree.specs.Information.{Information}
use Rattle.game_tree.specs.Tree.{Tree, children_of, node_at}

-- the letter of a column or row: 0 to 25 are `a` to `z`, 26 to 51 are `A` to `Z`
abbrev pub letter_of : ℕ → ℕ
letter_of n = if nat_lt n 26 then small_a + n else capital_a + (n - 26)

-- a value in brackets
abbrev pub value_text : List ℕ → List ℕ
value_text value = codes "[" ++ value ++ codes "]"

-- two letters, column and row
abbrev pub point_text : Point → List ℕ
point_text p = letter_of p.x ∷ letter_of p.y ∷ []

-- one point, or the upper left and the lower right corner with a colon
abbrev pub rect_text : Rect → List ℕ
rect_text r =
    if (r.x0 == r.x1) && (r.y0 == r.y1) then point_text (record { x = r.x0; y = r.y0 })
    else point_text (record { x = r.x0; y = r.y0 }) ++ codes ":"
    ++ point_text (record { x = r.x1; y = r.y1 })

-- the identifier of a setup: AB, AW or AE
abbrev pub setter_name : Cell → List ℕ
setter_name cell.Empty = codes "AE"
setter_name cell.Black = codes "AB"
setter_name cell.White = codes "AW"

-- the same cell
abbrev pub is_same : Cell → Cell → Bool
is_same cell.Empty cell.Empty = Bool.true
is_same cell.Empty cell.Black = Bool.false
is_same cell.Empty cell.White = Bool.false
is_same cell.Black cell.Empty = Bool.false
is_same cell.Black cell.Black = Bool.true
is_same cell.Black cell.White = Bool.false
is_same cell.White cell.Empty = Bool.false
is_same cell.White cell.Black = Bool.false
is_same cell.White cell.White = Bool.true

-- setups in order, behind one that sets to this cell, if there is one: the identifier stands before
-- the first one and wherever the kind changes
abbrev pub setups_text : Option Cell → List Setup → List ℕ
setups_text before [] = []
setups_text before (s ∷ ss) =
    (if option_map_or (is_same s.cell) before Bool.false then [] else setter_name s.cell)
    ++ value_text (rect_text s.rect) ++ setups_text (Some s.cell) ss

-- the identifier of a move: B or W
abbrev pub mover_name : Colour → List ℕ
mover_name colour.Black = codes "B"
mover_name colour.White = codes "W"

-- a move, or a pass, whose value is empty; nothing where a node has none
abbrev pub move_text : Option Move → List ℕ
move_text None = []
move_text (Some m) = mover_name m.colour ++ value_text (option_map_or point_text m.point [])

-- a backslash before each `]` and backslash
abbrev pub escaped : List ℕ → List ℕ
escaped text =
    flat_map (λ b. if (b == backslash) || (b == square_close) then backslash ∷ b ∷ [] else b
    ∷ []) text

-- a text of the information, unless it is empty
abbrev pub text_property : List ℕ → List ℕ → List ℕ
text_property name [] = []
text_property name (b ∷ bytes) = name ++ value_text (escaped (b ∷ bytes))

-- N where the board is square, else C:R
abbrev pub size_text : Shape → List ℕ
size_text shape =
    if cols_of shape == rows_of shape then decimal (cols_of shape)
    else decimal (cols_of shape) ++ codes ":" ++ decimal (rows_of shape)

-- how the root begins
abbrev pub root_text : Shape → Information → List ℕ
root_text shape info =
    codes "GM[1]FF[4]SZ" ++ value_text (size_text shape)
    ++ text_property (codes "PB") info.black ++ text_property (codes "PW") info.white
    ++ text_property (codes "EV") info.event ++ text_property (codes "PC") info.place
    ++ text_property (codes "DT") info.date ++ text_property (codes "RE") info.outcome_text

-- a node: `;`, what the root begins with, its setups, its move
abbrev pub node_text : Tree → ℕ → List ℕ
node_text tree n =
    codes ";" ++ (if n == 0 then root_text tree.shape tree.info else [])
    ++ setups_text None (node_at tree n).setups ++ move_text (node_at tree n).played

mutual
  -- The text from a node on: the node, and then its one child's text, or each child's text in
  -- brackets.
  pub data IsWrittenFrom (tree : Tree) : ℕ → List ℕ → Type 0 where
    leaf : {n : ℕ} → children_of tree n ≡ [] → IsWrittenFrom tree n (node_text tree n)
    only_child : {n : ℕ} (child : ℕ) (text : List ℕ) →
        children_of tree n ≡ child ∷ [] →
        IsWrittenFrom tree child text →
        IsWrittenFrom tree n (node_text tree n ++ text)
    children : {n : ℕ} (first second : ℕ) (others text : List ℕ) →
        children_of tree n ≡ first ∷ second ∷ others →
        AreWritten tree (first ∷ second ∷ others) text →
        IsWrittenFrom tree n (node_text tree n ++ text)

  -- the texts from these nodes on, each in brackets `(` and `)`
  pub data AreWritten (tree : Tree) : List ℕ → List ℕ → Type 0 where
    none : AreWritten tree [] []
    one_more : {n : ℕ} {others : List ℕ} (text rest : List ℕ) →
        IsWrittenFrom tree n text →
        AreWritten tree others rest →
        AreWritten tree (n ∷ others) (round_open ∷ text ++ round_close ∷ rest)

-- the text of a tree: that from the root on, in brackets
abbrev pub IsWritten : Tree → List ℕ → Type 0
IsWritten tree text = AreWritten tree (0 ∷ []) text
