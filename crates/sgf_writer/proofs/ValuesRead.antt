-- Written values are read as what they were written for.
use Rattle.std.proofs.Common.{◌≡◌, ◌≢◌, ℕ, ◌<◌, ◌≤◌, min, max, List, [], ◌∷◌, ◌++◌, length, Option, Some, None, All, refl, sym, ◌∙◌, ap, subst, arith, inl, inr}
use Rattle.std.proofs.lemmas.Bool.{cases_eq}
use Rattle.std.proofs.lemmas.Fmt.{decimal_is_IsNumeral}
use Rattle.std.proofs.lemmas.List.{append-nil, get_or_push, length_push}
use Rattle.std.proofs.lemmas.List.Elements.{All-cons, All-head, All-nil, All-tail, All-weaker, All-append}
use Rattle.std.specs.Fmt.{decimal}
use Rattle.std.specs.Option.{option_map_or}
use Rattle.std.specs.Prelude.{IfSome}
use Rattle.kb_geometry.specs.declared.shape.Point.{Point}
use Rattle.kb_geometry.specs.declared.shape.Rect.{Rect}
use Rattle.kb_geometry.specs.declared.shape.Shape.{Shape}
use Rattle.kb_geometry.specs.Board.{IsOnBoard, cols_of, rows_of, IsOrderedRectOnBoard}
use Rattle.game_tree.specs.Information.{HasNoControls}
use Rattle.game_tree.specs.Property.{IsTrimmed}
use Rattle.game_tree.specs.SimpleText.{IsReadAs, IsSimpleText, byte, hidden_byte, itself, nothing, white}
use Rattle.game_tree.specs.Value.{IsCoordinate, IsMoveValue, IsPoint, IsSetupValue, IsSideText, IsSize, columns_and_rows, letters, pass, point, rect_of, square}
use Rattle.game_tree.proofs.Colons.{corners_at, digits-no_colon, one_point_at, size-sides, size-square}
use Rattle.sgf_writer.specs.Written.{escaped, letter_of, point_text, rect_text, size_text}
use Rattle.sgf_writer.proofs.Entries.{escaped-cases, letter-cases, letter-range, rect-cases}
use Rattle.sgf_writer.proofs.NodeSpelling.{columns-le, point-letters, rows-le, size-cases, size-range}

-- ---- white space at either end

-- a text with no white space has none at its ends
abbrev pub IsDark : List ℕ → Type 0
IsDark text = All (λ (b : ℕ). 32 < b) text

pub trimmed-itself : (text : List ℕ) → IsDark text → IsTrimmed text text
trimmed-itself text dark = record {
  before = [];
  after = [];
  split = sym (append-nil text);
  white_before = All-nil (λ (b : ℕ). b ≤ 32);
  white_after = All-nil (λ (b : ℕ). b ≤ 32);
  first = λ b rest e. All-head (λ (b : ℕ). 32 < b) b rest (subst (λ (t : List ℕ). IsDark t) e dark);
  last = λ b rest e.
      let all : IsDark (rest ++ b ∷ []) = subst (λ (t : List ℕ). IsDark t) e dark in
      subst (λ (c : ℕ). 32 < c) (get_or_push rest b 0 (length rest) refl) (all (length rest) 0 (omega (arith, length_push rest b)));
}

-- ---- points

coordinate : (n : ℕ) → n < 52 → IsCoordinate (letter_of n) n
coordinate n h = letter-cases n h

pub point-read : (shape : Shape) (p : Point) → IsOnBoard shape p → IsPoint shape (point_text p) p
point-read shape p on =
    let h = point-letters shape p on in
    letters (letter_of p.x) (letter_of p.y) (coordinate p.x h.0) (coordinate p.y h.1) on

dark-point : (shape : Shape) (p : Point) → IsOnBoard shape p → IsDark (point_text p)
dark-point shape p on =
    let h = point-letters shape p on in
    All-cons (λ (b : ℕ). 32 < b) (letter_of p.x) (letter_of p.y ∷ []) (omega (arith, (letter-range p.x h.0).0)) (All-cons (λ (b : ℕ). 32 < b) (letter_of p.y) [] (omega (arith, (letter-range p.y h.1).0)) (All-nil (λ (b : ℕ). 32 < b)))

pub move-read : (shape : Shape) (target : Option Point) → IfSome target (λ (p : Point). IsOnBoard shape p) → IsMoveValue shape (option_map_or point_text target []) target
move-read shape None on = ([], trimmed-itself [] (All-nil (λ (b : ℕ). 32 < b)), pass)
move-read shape (Some p) on = (point_text p, trimmed-itself (point_text p) (dark-point shape p on), point (point-read shape p on))

-- ---- rectangles

same_rect : (r : Rect) (a b c d : ℕ) → r.x0 ≡ a → r.y0 ≡ b → r.x1 ≡ c → r.y1 ≡ d → r ≡ record { x0 = a; y0 = b; x1 = c; y1 = d }
same_rect r a b c d e f g h =
    let whole : record { x0 = r.x0; y0 = r.y0; x1 = r.x1; y1 = r.y1 } ≡ record { x0 = a; y0 = b; x1 = c; y1 = d } = cc in whole

corners-same : (r : Rect) → r.x0 ≤ r.x1 → r.y0 ≤ r.y1 → r ≡ rect_of (record { x = r.x0; y = r.y0 }) (record { x = r.x1; y = r.y1 })
corners-same r left upper =
    same_rect r (min r.x0 r.x1) (min r.y0 r.y1) (max r.x0 r.x1) (max r.y0 r.y1) (omega arith) (omega arith) (omega arith) (omega arith)

point-same : (r : Rect) → r.x0 ≡ r.x1 → r.y0 ≡ r.y1 → r ≡ rect_of (record { x = r.x0; y = r.y0 }) (record { x = r.x0; y = r.y0 })
point-same r x y =
    same_rect r (min r.x0 r.x0) (min r.y0 r.y0) (max r.x0 r.x0) (max r.y0 r.y0) (omega arith) (omega arith) (omega arith) (omega arith)

pub setup-read : (shape : Shape) (r : Rect) → IsOrderedRectOnBoard shape r → IsSetupValue shape (rect_text r) (Some r)
setup-read shape r on =
    let one : Point = record { x = r.x0; y = r.y0 } in
    let other : Point = record { x = r.x1; y = r.y1 } in
    let at_one : IsOnBoard shape (record { x = r.x0; y = r.y0 }) = (omega (arith, on.0, on.2), omega (arith, on.1, on.3)) in
    let at_other : IsOnBoard shape (record { x = r.x1; y = r.y1 }) = (on.2, on.3) in
    elim (rect-cases r) [
      | inl p ↦
          let dark : IsDark (rect_text r) = subst (λ (t : List ℕ). IsDark t) (sym p.2) (dark-point shape (record { x = r.x0; y = r.y0 }) at_one) in
          (rect_text r, trimmed-itself (rect_text r) dark, one_point_at shape (rect_text r) (record { x = r.x0; y = r.y0 }) r (subst (λ (t : List ℕ). IsPoint shape t (record { x = r.x0; y = r.y0 })) (sym p.2) (point-read shape (record { x = r.x0; y = r.y0 }) at_one)) (point-same r p.0 p.1))
      | inr e ↦
          let dark : IsDark (rect_text r) = subst (λ (t : List ℕ). IsDark t) (sym e)
          (All-append (λ (b : ℕ). 32 < b) (letter_of r.x0 ∷ letter_of r.y0 ∷ []) (58 ∷ letter_of r.x1 ∷ letter_of r.y1 ∷ []) (dark-point shape (record { x = r.x0; y = r.y0 }) at_one) (All-cons (λ (b : ℕ). 32 < b) 58 (letter_of r.x1 ∷ letter_of r.y1 ∷ []) (omega arith) (dark-point shape (record { x = r.x1; y = r.y1 }) at_other))) in
          (rect_text r, trimmed-itself (rect_text r) dark, corners_at shape (rect_text r) (letter_of r.x0 ∷ letter_of r.y0 ∷ []) (letter_of r.x1 ∷ letter_of r.y1 ∷ []) (record { x = r.x0; y = r.y0 }) (record { x = r.x1; y = r.y1 }) r e (point-read shape (record { x = r.x0; y = r.y0 }) at_one) (point-read shape (record { x = r.x1; y = r.y1 }) at_other) (corners-same r on.0 on.1))
    ]

-- ---- sizes

pub dark-size : (shape : Shape) → IsDark (size_text shape)
dark-size shape = All-weaker (λ (b : ℕ). (48 ≤ b) × (b ≤ 58)) (λ (b : ℕ). 32 < b) (λ b r. omega (arith, r.0)) (size_text shape) (size-range shape)

side-columns : (shape : Shape) → IsSideText (decimal (cols_of shape)) (cols_of shape)
side-columns shape = let n = decimal_is_IsNumeral (cols_of shape) (omega (arith, (columns-le shape).1)) in (n.0, n.1, columns-le shape)

side-rows : (shape : Shape) → IsSideText (decimal (rows_of shape)) (rows_of shape)
side-rows shape = let n = decimal_is_IsNumeral (rows_of shape) (omega (arith, (rows-le shape).1)) in (n.0, n.1, rows-le shape)

pub size-read : (shape : Shape) → IsSize (size_text shape) shape
size-read shape =
    elim (size-cases shape) [
      | inl p ↦ subst (λ (t : List ℕ). IsSize t shape) (sym p.1) (square (side-columns shape) (sym p.0))
      | inr e ↦ subst (λ (t : List ℕ). IsSize t shape) (sym e) (columns_and_rows (decimal (cols_of shape)) (decimal (rows_of shape)) (side-columns shape) (side-rows shape))
    ]

-- a size is that of one board only
pub size-only : (shape other : Shape) → IsSize (size_text shape) other → (cols_of other ≡ cols_of shape) × (rows_of other ≡ rows_of shape)
size-only shape other size =
    let columns = side-columns shape in
    let rows = side-rows shape in
    elim (size-cases shape) [
      | inl p ↦
          let found = size-square (decimal (cols_of shape)) other (digits-no_colon (decimal (cols_of shape)) columns.0.1) (subst (λ (t : List ℕ). IsSize t other) p.1 size) in
          let same : cols_of other ≡ cols_of shape = sym found.0.1 ∙ columns.1 in
          (same, found.1 ∙ same ∙ p.0)
      | inr e ↦
          let found = size-sides (decimal (cols_of shape)) (decimal (rows_of shape)) other (size_text shape) e (digits-no_colon (decimal (cols_of shape)) columns.0.1) size in
          (sym found.0.1 ∙ columns.1, sym found.1.1 ∙ rows.1)
    ]

-- a size is not the empty text
pub size-some : (shape : Shape) → size_text shape ≢ []
size-some shape none =
    let columns = side-columns shape in
    elim (size-cases shape) [
      | inl p ↦ absurd (omega (arith, ap length (sym p.1 ∙ none), columns.0.0))
      | inr e ↦ let f : decimal (cols_of shape) ++ 58 ∷ decimal (rows_of shape) ≡ [] = sym e ∙ none in absurd (no_text (decimal (cols_of shape)) (decimal (rows_of shape)) f)
    ]
  where
    no_text : (a b : List ℕ) → a ++ 58 ∷ b ≢ []
    no_text [] b e = cc
    no_text (x ∷ a) b e = cc

-- ---- texts

read-itself : (b : ℕ) → 32 ≤ b → IsReadAs b b
read-itself b h =
    elim (cases_eq b 32) [
      | inl e ↦ subst (λ (c : ℕ). IsReadAs c c) (sym e) (white (omega arith) (λ f. absurd (omega (arith, f))) (λ f. absurd (omega (arith, f))))
      | inr ne ↦ itself (omega arith)
    ]

pub text-read : (text : List ℕ) → HasNoControls text → IsSimpleText (escaped text) text
text-read [] plain = nothing
text-read (b ∷ text) plain =
    let here = read-itself b (All-head (λ (b : ℕ). 32 ≤ b) b text plain) in
    let rest = text-read text (All-tail (λ (b : ℕ). 32 ≤ b) b text plain) in
    elim (escaped-cases b text) [
      | inl e ↦ subst (λ (t : List ℕ). IsSimpleText t (b ∷ text)) (sym e) (hidden_byte here rest)
      | inr p ↦ subst (λ (t : List ℕ). IsSimpleText t (b ∷ text)) (sym p.2) (byte p.1 here rest)
    ]
