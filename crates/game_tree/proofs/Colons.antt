-- Texts with a colon.
use Rattle.std.proofs.Common.{◌≡◌, ◌≢◌, ◌++◌, ◌∙◌, ℕ, zero, suc, List, [], ◌∷◌, All, refl, sym, subst, inl, inr, arith, Some, None, Option, IfSome, IsSome}
use Rattle.std.specs.Str.Parse.{AllDigits}
use Rattle.std.proofs.lemmas.Str.Parse.{digit_from_value}
use Rattle.kb_geometry.specs.declared.shape.Point.{Point}
use Rattle.kb_geometry.specs.declared.shape.Rect.{Rect}
use Rattle.kb_geometry.specs.declared.shape.Shape.{Shape}
use Rattle.kb_geometry.specs.Board.{cols_of, rows_of}
use Rattle.game_tree.specs.Value.{IsCoordinate, IsPoint, IsSetupText, IsSideText, IsSize, columns_and_rows, letters, one_point, rectangle, rect_of, square}

-- the text has no colon
abbrev pub HasNoColon : List ℕ → Type 0
HasNoColon text = All (λ (b : ℕ). b ≢ 58) text

tail_without : (b : ℕ) (text : List ℕ) → HasNoColon (b ∷ text) → HasNoColon text
tail_without b text none k d inside = none (suc k) d (omega arith)

-- a text is parted at its first colon in one way only
pub colon_once : (one other front back : List ℕ) → HasNoColon one → HasNoColon front → one ++ 58 ∷ other ≡ front ++ 58 ∷ back → (one ≡ front) × (other ≡ back)
colon_once [] other [] back none none' e = let rest : other ≡ back = cc in (refl, rest)
colon_once [] other (b ∷ front) back none none' e = let first : b ≡ 58 = cc in absurd (none' 0 0 (omega arith) first)
colon_once (a ∷ one) other [] back none none' e = let first : a ≡ 58 = cc in absurd (none 0 0 (omega arith) first)
colon_once (a ∷ one) other (b ∷ front) back none none' e =
    let first : a ≡ b = cc in
    let rest : one ++ 58 ∷ other ≡ front ++ 58 ∷ back = cc in
    let (fronts, backs) = colon_once one other front back (tail_without a one none) (tail_without b front none') rest in
    let whole : a ∷ one ≡ b ∷ front = cc in
    (whole, backs)

-- a text without a colon isn't parted at one
pub no_colon : (text front back : List ℕ) → HasNoColon text → text ≢ front ++ 58 ∷ back
no_colon [] [] back none e = absurd (cc)
no_colon [] (b ∷ front) back none e = absurd (cc)
no_colon (a ∷ text) [] back none e = let first : a ≡ 58 = cc in none 0 0 (omega arith) first
no_colon (a ∷ text) (b ∷ front) back none e = let rest : text ≡ front ++ 58 ∷ back = cc in no_colon text front back (tail_without a text none) rest

-- digits are no colons
pub digits-no_colon : (text : List ℕ) → AllDigits 10 text → HasNoColon text
digits-no_colon [] digits k d inside e = absurd (omega arith)
digits-no_colon (c ∷ cs) digits zero d inside e = let (low, high) = digit_from_value c digits.0 in omega (arith, e)
digits-no_colon (c ∷ cs) digits (suc k) d inside e = digits-no_colon cs digits.1 k d (omega arith) e

-- letters are no colons
pub point-no_colon : (shape : Shape) (text : List ℕ) (p : Point) → IsPoint shape text p → HasNoColon text
point-no_colon shape _ p (letters column row x y on) zero d inside e = not_colon column p.x x e
  where
    not_colon : (letter n : ℕ) → IsCoordinate letter n → letter ≢ 58
    not_colon letter n (inl low) e = omega arith
    not_colon letter n (inr high) e = omega arith
point-no_colon shape _ p (letters column row x y on) (suc zero) d inside e = not_colon row p.y y e
  where
    not_colon : (letter n : ℕ) → IsCoordinate letter n → letter ≢ 58
    not_colon letter n (inl low) e = omega arith
    not_colon letter n (inr high) e = omega arith
point-no_colon shape _ p (letters column row x y on) (suc (suc k)) d inside e = absurd (omega arith)

-- ---- sizes

-- what the size of a text without a colon is
pub size-square : (text : List ℕ) (shape : Shape) → HasNoColon text → IsSize text shape → IsSideText text (cols_of shape) × (rows_of shape ≡ cols_of shape)
size-square text shape none (square side same) = (side, same)
size-square _ shape none (columns_and_rows columns rows c r) = absurd (no_colon (columns ++ 58 ∷ rows) columns rows none refl)

-- what the size of a text with a colon is
pub size-sides : (one other : List ℕ) (shape : Shape) (text : List ℕ) → text ≡ one ++ 58 ∷ other → HasNoColon one → IsSize text shape → IsSideText one (cols_of shape) × IsSideText other (rows_of shape)
size-sides one other shape text is none (square side same) = absurd (no_colon text one other (digits-no_colon text side.0.1) is)
size-sides one other shape _ is none (columns_and_rows columns rows c r) =
    let (fronts, backs) = colon_once one other columns rows none (digits-no_colon columns c.0.1) (sym is) in
    (subst (λ t. IsSideText t (cols_of shape)) (sym fronts) c, subst (λ t. IsSideText t (rows_of shape)) (sym backs) r)

-- ---- setups

-- what a setup of a text without a colon is
pub setup-point : (shape : Shape) (text : List ℕ) (r : Rect) → HasNoColon text → IsSetupText shape text (Some r) → (p : Point) × IsPoint shape text p × (r ≡ rect_of p p)
setup-point shape text _ none (one_point {p = p} at) = (p, at, refl)
setup-point shape _ _ none (rectangle one other at_one at_other) = absurd (no_colon (one ++ 58 ∷ other) one other none refl)

-- what a setup of a text with a colon is
pub setup-corners : (shape : Shape) (one other text : List ℕ) (r : Rect) → text ≡ one ++ 58 ∷ other → HasNoColon one → IsSetupText shape text (Some r) → (p q : Point) × IsPoint shape one p × IsPoint shape other q × (r ≡ rect_of p q)
setup-corners shape one other text _ is none (one_point {p = p} at) = absurd (no_colon text one other (point-no_colon shape text p at) is)
setup-corners shape one other _ _ is none (rectangle {p = p} {q = q} front back at_one at_other) =
    let (fronts, backs) = colon_once one other front back none (point-no_colon shape front p at_one) (sym is) in
    (p, q, subst (λ t. IsPoint shape t p) (sym fronts) at_one, subst (λ t. IsPoint shape t q) (sym backs) at_other, refl)

-- ---- what was made

-- a board that was made with these sides
abbrev pub IsMade : Option Shape → ℕ → ℕ → Type 0
IsMade made cols rows = (shape : Shape) × (made ≡ Some shape) × (cols_of shape ≡ cols) × (rows_of shape ≡ rows)

pub size_at : (made : Option Shape) (text one other : List ℕ) (cols rows : ℕ) → text ≡ one ++ 58 ∷ other → IsSideText one cols → IsSideText other rows → IsMade made cols rows → IfSome made (λ shape. IsSize text shape)
size_at made text one other cols rows is c r (shape, some, width, height) =
    subst (λ m. IfSome m (λ shape. IsSize text shape)) (sym some)
    (subst (λ t. IsSize t shape) (sym is) (columns_and_rows one other (subst (IsSideText one) (sym width) c) (subst (IsSideText other) (sym height) r)))

pub square_at : (made : Option Shape) (text : List ℕ) (side : ℕ) → IsSideText text side → IsMade made side side → IfSome made (λ shape. IsSize text shape)
square_at made text side s (shape, some, width, height) =
    subst (λ m. IfSome m (λ shape. IsSize text shape)) (sym some) (square (subst (IsSideText text) (sym width) s) (height ∙ sym width))

pub made_there : (made : Option Shape) (cols rows : ℕ) → IsSome made → IfSome made (λ s. (cols_of s ≡ cols) × (rows_of s ≡ rows)) → IsMade made cols rows
made_there None cols rows there sides = absurd (cc there)
made_there (Some shape) cols rows there sides = (shape, refl, sides.0, sides.1)

pub corners_at : (shape : Shape) (text one other : List ℕ) (p q : Point) (r : Rect) → text ≡ one ++ 58 ∷ other → IsPoint shape one p → IsPoint shape other q → r ≡ rect_of p q → IsSetupText shape text (Some r)
corners_at shape text one other p q r is at_p at_q made =
    subst (λ t. IsSetupText shape t (Some r)) (sym is) (subst (λ s. IsSetupText shape (one ++ 58 ∷ other) (Some s)) (sym made) (rectangle one other at_p at_q))

pub one_point_at : (shape : Shape) (text : List ℕ) (p : Point) (r : Rect) → IsPoint shape text p → r ≡ rect_of p p → IsSetupText shape text (Some r)
one_point_at shape text p r at made = subst (λ s. IsSetupText shape text (Some s)) (sym made) (one_point at)
