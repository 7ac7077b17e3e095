-- The forms of values, read letter by letter.
use Rattle.std.proofs.Common.{◌≡◌, ◌≢◌, ◌≤◌, ◌<◌, ◌⊎◌, ◌++◌, ◌∙◌, ◌-◌, ℕ, zero, suc, get_or, take, drop, List, [], ◌∷◌, All, refl, sym, ap, subst, length, inl, inr, arith, append_assoc}
use Rattle.std.proofs.lemmas.List.{take_all}
use Rattle.std.proofs.lemmas.List.Elements.{All-append}
use Rattle.kb_geometry.specs.declared.shape.Point.{Point}
use Rattle.kb_geometry.specs.declared.shape.Shape.{Shape}
use Rattle.kb_geometry.specs.Board.{IsOnBoard, cols_of, rows_of}
use Rattle.game_tree.specs.Value.{IsCoordinate, IsPoint, letters}

-- ---- points

-- what a text that names a point is
pub point_letters : (shape : Shape) (text : List ℕ) (p : Point) → IsPoint shape text p → (column row : ℕ) × (text ≡ column ∷ row ∷ []) × IsCoordinate column p.x × IsCoordinate row p.y × IsOnBoard shape p
point_letters shape _ p (letters column row x y on) = (column, row, refl, x, y, on)

pub no_letters : (shape : Shape) (text : List ℕ) → ((a b : ℕ) → text ≢ a ∷ b ∷ []) → (p : Point) → ¬ IsPoint shape text p
no_letters shape text none p named = let (column, row, is, x, y, on) = point_letters shape text p named in none column row is

pub no_column : (shape : Shape) (text : List ℕ) (column row : ℕ) → text ≡ column ∷ row ∷ [] → ((n : ℕ) → ¬ IsCoordinate column n) → (p : Point) → ¬ IsPoint shape text p
no_column shape text column row is none p named =
    let (a, b, same, x, y, on) = point_letters shape text p named in
    let both : column ∷ row ∷ [] ≡ a ∷ b ∷ [] = sym is ∙ same in
    let e : column ≡ a = cc in
    none p.x (subst (λ c. IsCoordinate c p.x) (sym e) x)

pub no_row : (shape : Shape) (text : List ℕ) (column row : ℕ) → text ≡ column ∷ row ∷ [] → ((n : ℕ) → ¬ IsCoordinate row n) → (p : Point) → ¬ IsPoint shape text p
no_row shape text column row is none p named =
    let (a, b, same, x, y, on) = point_letters shape text p named in
    let both : column ∷ row ∷ [] ≡ a ∷ b ∷ [] = sym is ∙ same in
    let e : row ≡ b = cc in
    none p.y (subst (λ c. IsCoordinate c p.y) (sym e) y)

-- a letter names one column or row only
pub IsCoordinate-only : (letter m n : ℕ) → IsCoordinate letter m → IsCoordinate letter n → m ≡ n
IsCoordinate-only letter m n (inl a) (inl b) = omega arith
IsCoordinate-only letter m n (inl a) (inr b) = absurd (omega arith)
IsCoordinate-only letter m n (inr a) (inl b) = absurd (omega arith)
IsCoordinate-only letter m n (inr a) (inr b) = omega arith

-- two letters name one point only
pub IsPoint-only : (shape : Shape) (text : List ℕ) (p q : Point) → IsPoint shape text p → IsPoint shape text q → p ≡ q
IsPoint-only shape text p q at_p at_q =
    let (a, b, is_p, px, py, _) = point_letters shape text p at_p in
    let (c, d, is_q, qx, qy, _) = point_letters shape text q at_q in
    let both : a ∷ b ∷ [] ≡ c ∷ d ∷ [] = sym is_p ∙ is_q in
    let columns : a ≡ c = cc in
    let rows : b ≡ d = cc in
    let x = IsCoordinate-only c p.x q.x (subst (λ l. IsCoordinate l p.x) columns px) qx in
    let y = IsCoordinate-only d p.y q.y (subst (λ l. IsCoordinate l p.y) rows py) qy in
    let e : record { x = p.x; y = p.y } ≡ record { x = q.x; y = q.y } = cc in e

-- two letters name a point of the board where it lies there
pub off_board : (shape : Shape) (text : List ℕ) (column row x y : ℕ) → text ≡ column ∷ row ∷ [] → IsCoordinate column x → IsCoordinate row y → ((cols_of shape ≤ x) ⊎ (rows_of shape ≤ y)) → (p : Point) → ¬ IsPoint shape text p
off_board shape text column row x y is at_x at_y off p named =
    let (a, b, same, px, py, on) = point_letters shape text p named in
    let both : column ∷ row ∷ [] ≡ a ∷ b ∷ [] = sym is ∙ same in
    let columns : column ≡ a = cc in
    let rows : row ≡ b = cc in
    let xs = IsCoordinate-only a x p.x (subst (λ l. IsCoordinate l x) columns at_x) px in
    let ys = IsCoordinate-only b y p.y (subst (λ l. IsCoordinate l y) rows at_y) py in
    elim off [ inl far ↦ omega (arith, on.0) | inr far ↦ omega (arith, on.1) ]

pub point_at : (shape : Shape) (text : List ℕ) (column row x y : ℕ) → text ≡ column ∷ row ∷ [] → IsCoordinate column x → IsCoordinate row y → x < cols_of shape → y < rows_of shape → IsPoint shape text (record { x = x; y = y })
point_at shape text column row x y is at_x at_y in_x in_y = subst (λ t. IsPoint shape t (record { x = x; y = y })) (sym is) (letters column row at_x at_y (in_x, in_y))

-- ---- white space before a value

-- white space before a text, and its first byte
pub more_white : (value rest : List ℕ) → (before : List ℕ) × (value ≡ before ++ rest) × All (λ (b : ℕ). b ≤ 32) before → 1 ≤ length rest → get_or rest 0 0 ≤ 32 → (before : List ℕ) × (value ≡ before ++ take (length rest - 1) (drop 1 rest)) × All (λ (b : ℕ). b ≤ 32) before
more_white value [] so_far some white = absurd (omega arith)
more_white value (b ∷ rest) (before, is, all) some white =
    let whole : take (length (b ∷ rest) - 1) (drop 1 (b ∷ rest)) ≡ rest = take_all (length (b ∷ rest) - 1) rest (omega arith) in
    (before ++ b ∷ [], is ∙ sym (append_assoc before (b ∷ []) rest) ∙ ap (λ r. (before ++ b ∷ []) ++ r) (sym whole), All-append (λ (b : ℕ). b ≤ 32) before (b ∷ []) all (one_white b white))
  where
    one_white : (b : ℕ) → b ≤ 32 → All (λ (b : ℕ). b ≤ 32) (b ∷ [])
    one_white b white zero d inside = white
    one_white b white (suc k) d inside = absurd (omega arith)
