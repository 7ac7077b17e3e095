-- The written text of a tree is one line, and begins with a bracket.
use Rattle.std.proofs.Common.{◌≡◌, ℕ, ◌+◌, ◌-◌, ◌≤◌, Bool, true, false, cond, List, [], ◌∷◌, ◌++◌, Option, Some, None, refl, ap, arith}
use Rattle.std.specs.Prelude.{◌≢◌, ◌==◌, ◌&&◌, ◌||◌, codes, nat_lt, not}
use Rattle.std.specs.Fmt.{decimal}
use Rattle.std.specs.Option.{option_map_or}
use Rattle.std.proofs.lemmas.Bool.{and_from, cond_both, ne_eqb}
use Rattle.std.proofs.lemmas.List.Elements.{All-head, All-tail}
use Rattle.kb_geometry.specs.declared.shape.Point.{Point}
use Rattle.kb_geometry.specs.declared.shape.Rect.{Rect}
use Rattle.kb_geometry.specs.declared.shape.Shape.{Shape}
use Rattle.kb_geometry.specs.declared.stone.Cell.{Cell}
use Rattle.kb_geometry.specs.declared.stone.Cell.TheVariants as cell
use Rattle.kb_geometry.specs.declared.stone.Colour.{Colour}
use Rattle.kb_geometry.specs.declared.stone.Colour.TheVariants as colour
use Rattle.kb_geometry.specs.Board.{cols_of, rows_of}
use Rattle.game_tree.specs.declared.node.Move.{Move}
use Rattle.game_tree.specs.declared.node.Setup.{Setup}
use Rattle.game_tree.specs.Information.{HasNoControls, HasSimpleTexts, Information}
use Rattle.game_tree.specs.Tree.{IsTree, Tree, node_at}
use Rattle.sgf_writer.specs.Written.{AreWritten, IsWritten, IsWrittenFrom, escaped, is_same, letter_of, move_text, mover_name, node_text, point_text, rect_text, root_text, setter_name, setups_text, size_text, text_property, value_text}
use Rattle.run_audit.specs.Shown.{begins_with_digit}
use Rattle.run_audit.proofs.LineLists.{one_line, one_line-append, one_line-decimal}

-- one of two texts
either-line : (b : Bool) (x y : List ℕ) → one_line x ≡ true → one_line y ≡ true → one_line (cond b x y) ≡ true
either-line b x y one other = cond_both b x y (λ t. one_line t ≡ true) (λ e. one) (λ e. other)

byte-line : (b : ℕ) (bs : List ℕ) → b ≢ 10 → one_line bs ≡ true → one_line (b ∷ bs) ≡ true
byte-line b bs other rest = and_from (not (b == 10)) (one_line bs) (ap not (ne_eqb b 10 other)) rest

value-line : (value : List ℕ) → one_line value ≡ true → one_line (value_text value) ≡ true
value-line value one = one_line-append (codes "[" ++ value) (codes "]") (one_line-append (codes "[") value refl one) refl

-- ---- points

letter-line : (n : ℕ) → letter_of n ≢ 10
letter-line n = cond_both (nat_lt n 26) (97 + n) (65 + (n - 26)) (λ b. b ≢ 10) (λ t e. omega (arith, e)) (λ t e. omega (arith, e))

point-line : (p : Point) → one_line (point_text p) ≡ true
point-line p = byte-line (letter_of p.x) (letter_of p.y ∷ []) (letter-line p.x) (byte-line (letter_of p.y) [] (letter-line p.y) refl)

rect-line : (r : Rect) → one_line (rect_text r) ≡ true
rect-line r =
    let first : Point = record { x = r.x0; y = r.y0 } in
    let last : Point = record { x = r.x1; y = r.y1 } in
    either-line ((r.x0 == r.x1) && (r.y0 == r.y1)) (point_text first) (point_text first ++ codes ":" ++ point_text last) (point-line first)
    (one_line-append (point_text first ++ codes ":") (point_text last) (one_line-append (point_text first) (codes ":") (point-line first) refl) (point-line last))

-- ---- setups and moves

setter-line : (c : Cell) → one_line (setter_name c) ≡ true
setter-line cell.Empty = refl
setter-line cell.Black = refl
setter-line cell.White = refl

setups-line : (before : Option Cell) (setups : List Setup) → one_line (setups_text before setups) ≡ true
setups-line before [] = refl
setups-line before (s ∷ ss) =
    let named = option_map_or (is_same s.cell) before false in
    let name = cond named [] (setter_name s.cell) in
    one_line-append (name ++ value_text (rect_text s.rect)) (setups_text (Some s.cell) ss)
    (one_line-append name (value_text (rect_text s.rect)) (either-line named [] (setter_name s.cell) refl (setter-line s.cell)) (value-line (rect_text s.rect) (rect-line s.rect)))
    (setups-line (Some s.cell) ss)

mover-line : (c : Colour) → one_line (mover_name c) ≡ true
mover-line colour.Black = refl
mover-line colour.White = refl

where-line : (point : Option Point) → one_line (option_map_or point_text point []) ≡ true
where-line None = refl
where-line (Some p) = point-line p

move-line : (move : Option Move) → one_line (move_text move) ≡ true
move-line None = refl
move-line (Some m) = one_line-append (mover_name m.colour) (value_text (option_map_or point_text m.point [])) (mover-line m.colour) (value-line (option_map_or point_text m.point []) (where-line m.point))

-- ---- the root

escaped-line : (text : List ℕ) → HasNoControls text → one_line (escaped text) ≡ true
escaped-line [] none = refl
escaped-line (b ∷ text) none =
    let high = All-head (λ b. 32 ≤ b) b text none in
    let other : b ≢ 10 = λ e. omega (arith, high, e) in
    let special = (b == 92) || (b == 93) in
    one_line-append (cond special (92 ∷ b ∷ []) (b ∷ [])) (escaped text)
    (either-line special (92 ∷ b ∷ []) (b ∷ []) (byte-line 92 (b ∷ []) (λ e. omega (arith, e)) (byte-line b [] other refl)) (byte-line b [] other refl))
    (escaped-line text (All-tail (λ b. 32 ≤ b) b text none))

property-line : (name text : List ℕ) → one_line name ≡ true → HasNoControls text → one_line (text_property name text) ≡ true
property-line name [] one none = refl
property-line name (b ∷ bytes) one none = one_line-append name (value_text (escaped (b ∷ bytes))) one (value-line (escaped (b ∷ bytes)) (escaped-line (b ∷ bytes) none))

size-line : (shape : Shape) → one_line (size_text shape) ≡ true
size-line shape =
    either-line (cols_of shape == rows_of shape) (decimal (cols_of shape)) (decimal (cols_of shape) ++ codes ":" ++ decimal (rows_of shape)) (one_line-decimal (cols_of shape))
    (one_line-append (decimal (cols_of shape) ++ codes ":") (decimal (rows_of shape)) (one_line-append (decimal (cols_of shape)) (codes ":") (one_line-decimal (cols_of shape)) refl) (one_line-decimal (rows_of shape)))

root-line : (shape : Shape) (info : Information) → HasSimpleTexts info → one_line (root_text shape info) ≡ true
root-line shape info simple =
    let black = text_property (codes "PB") info.black in
    let white = text_property (codes "PW") info.white in
    let event = text_property (codes "EV") info.event in
    let place = text_property (codes "PC") info.place in
    let date = text_property (codes "DT") info.date in
    let result = text_property (codes "RE") info.outcome_text in
    let size = value_text (size_text shape) in
    let first : List ℕ = codes "GM[1]FF[4]SZ" in
    one_line-append (first ++ size ++ black ++ white ++ event ++ place ++ date) result
    (one_line-append (first ++ size ++ black ++ white ++ event ++ place) date
    (one_line-append (first ++ size ++ black ++ white ++ event) place
    (one_line-append (first ++ size ++ black ++ white) event
    (one_line-append (first ++ size ++ black) white
    (one_line-append (first ++ size) black
    (one_line-append first size refl (value-line (size_text shape) (size-line shape)))
    (property-line (codes "PB") info.black refl simple.black))
    (property-line (codes "PW") info.white refl simple.white))
    (property-line (codes "EV") info.event refl simple.event))
    (property-line (codes "PC") info.place refl simple.place))
    (property-line (codes "DT") info.date refl simple.date))
    (property-line (codes "RE") info.outcome_text refl simple.outcome_text)

-- ---- the whole tree

module _ (tree : Tree) (simple : HasSimpleTexts tree.info) where
  node-line : (n : ℕ) → one_line (node_text tree n) ≡ true
  node-line n =
      let root = cond (n == 0) (root_text tree.shape tree.info) [] in
      let setups = setups_text None (node_at tree n).setups in
      let move = move_text (node_at tree n).played in
      one_line-append (codes ";" ++ root ++ setups) move
      (one_line-append (codes ";" ++ root) setups
      (one_line-append (codes ";") root refl (either-line (n == 0) (root_text tree.shape tree.info) [] (root-line tree.shape tree.info simple) refl))
      (setups-line None (node_at tree n).setups))
      (move-line (node_at tree n).played)

  mutual
    from-line : (n : ℕ) (text : List ℕ) → IsWrittenFrom tree n text → one_line text ≡ true
    from-line n _ (IsWrittenFrom.leaf is) = node-line n
    from-line n _ (IsWrittenFrom.only_child child text is written) = one_line-append (node_text tree n) text (node-line n) (from-line child text written)
    from-line n _ (IsWrittenFrom.children first second others text is written) = one_line-append (node_text tree n) text (node-line n) (list-line (first ∷ second ∷ others) text written)

    list-line : (ns : List ℕ) (text : List ℕ) → AreWritten tree ns text → one_line text ≡ true
    list-line _ _ AreWritten.none = refl
    list-line _ _ (AreWritten.one_more {n} {others} text rest written more) =
        one_line-append text (41 ∷ rest) (from-line n text written) (list-line others rest more)

  written-low : (ns : List ℕ) (n : ℕ) (text : List ℕ) → AreWritten tree (n ∷ ns) text → begins_with_digit text ≡ false
  written-low _ _ _ (AreWritten.one_more text rest written more) = refl

pub written-one : (tree : Tree) (text : List ℕ) → IsTree tree → IsWritten tree text → one_line text ≡ true
written-one tree text is written = list-line tree is.texts (0 ∷ []) text written

pub written-behind : (tree : Tree) (text : List ℕ) → IsTree tree → IsWritten tree text → begins_with_digit text ≡ false
written-behind tree text is written = written-low tree is.texts [] 0 text written
