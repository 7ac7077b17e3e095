-- The places of a signature: two bytes tell one point only, and a point is told by two bytes only.
use Rattle.std.proofs.Common.{◌≡◌, ◌⊎◌, ℕ, zero, suc, ◌+◌, ◌*◌, ◌<◌, List, length, Option, Some, None, refl, ap, subst, sym, inl, inr, arith}
use Rattle.std.proofs.lemmas.Grind.{same_number_lists}
use Rattle.std.specs.Prelude.{slice_index}
use Rattle.kb_geometry.specs.declared.shape.Point.{Point}
use Rattle.kb_geometry.proofs.Symmetries.{same_point}
use Rattle.game_tree.specs.Value.{IsCoordinate}
use Rattle.game_tree.proofs.Values.{IsCoordinate-only}
use Rattle.dyer_signature.specs.Signatures.{IsPair, TellsAt, question_mark}

-- what holds at each of the six places
pub each_place : (P : ℕ → Type 0) → P 0 → P 1 → P 2 → P 3 → P 4 → P 5 → (place : ℕ) → place < 6 → P place
each_place P a b c d e f zero lt = a
each_place P a b c d e f (suc zero) lt = b
each_place P a b c d e f (suc (suc zero)) lt = c
each_place P a b c d e f (suc (suc (suc zero))) lt = d
each_place P a b c d e f (suc (suc (suc (suc zero)))) lt = e
each_place P a b c d e f (suc (suc (suc (suc (suc zero))))) lt = f
each_place P a b c d e f (suc (suc (suc (suc (suc (suc n)))))) lt = absurd (omega arith)

-- a column or row has one letter
pub IsCoordinate-letter : (a b n : ℕ) → IsCoordinate a n → IsCoordinate b n → a ≡ b
IsCoordinate-letter a b n (inl g) (inl h) = omega arith
IsCoordinate-letter a b n (inl g) (inr h) = absurd (omega arith)
IsCoordinate-letter a b n (inr g) (inl h) = absurd (omega arith)
IsCoordinate-letter a b n (inr g) (inr h) = omega arith

-- the byte `?` is no letter
pub mark_is_no_letter : (a n : ℕ) → a ≡ question_mark → ¬ IsCoordinate a n
mark_is_no_letter a n e (inl h) = omega arith
mark_is_no_letter a n e (inr h) = omega arith

-- two bytes tell one point, or that there is none
pub IsPair-only : (p q : Option Point) (a b : ℕ) → IsPair p a b → IsPair q a b → p ≡ q
IsPair-only None None a b g h = refl
IsPair-only None (Some q) a b g h = absurd (mark_is_no_letter a q.x g.0 h.0)
IsPair-only (Some p) None a b g h = absurd (mark_is_no_letter a p.x h.0 g.0)
IsPair-only (Some p) (Some q) a b g h =
    ap (λ r. Some r) (same_point p q (IsCoordinate-only a p.x q.x g.0 h.0) (IsCoordinate-only b p.y q.y g.1 h.1))

-- two bytes alone tell a point, and two alone that there is none
pub IsPair-bytes : (p : Option Point) (a b c d : ℕ) → IsPair p a b → IsPair p c d → (a ≡ c) × (b ≡ d)
IsPair-bytes None a b c d g h = (omega arith, omega arith)
IsPair-bytes (Some p) a b c d g h = (IsCoordinate-letter a c p.x g.0 h.0, IsCoordinate-letter b d p.y g.1 h.1)

-- each number is twice another, or one more than that
half_of : (k : ℕ) → (half : ℕ) × ((k ≡ 2 * half) ⊎ (k ≡ 2 * half + 1))
half_of zero = (0, inl refl)
half_of (suc zero) = (0, inr refl)
half_of (suc (suc k)) =
    let (half, at) = half_of k in
    (half + 1, elim at [ inl e ↦ inl (omega arith) | inr e ↦ inr (omega arith) ])

-- each byte of a signature stands at a place
pub place_of_byte : (k : ℕ) → k < 12 → (place : ℕ) × (place < 6) × ((k ≡ 2 * place) ⊎ (k ≡ 2 * place + 1))
place_of_byte k lt =
    let (half, at) = half_of k in
    (half, elim at [ inl e ↦ omega arith | inr e ↦ omega arith ], at)

-- two lists of twelve bytes are one where they tell one point at each place
pub same_bytes : (xs ys : List ℕ) → length xs ≡ 12 → length ys ≡ 12 → ((place : ℕ) → place < 6 → (p : Option Point) × TellsAt xs place p × TellsAt ys place p) → xs ≡ ys
same_bytes xs ys long_x long_y each =
    same_number_lists xs ys (omega arith) (λ k lt.
    let (place, below, at) = place_of_byte k (omega arith) in
    let (p, x, y) = each place below in
    let both = IsPair-bytes p _ _ _ _ x y in
    elim at [
      | inl e ↦ subst (λ i. slice_index xs i ≡ slice_index ys i) (sym e) both.0
      | inr e ↦ subst (λ i. slice_index xs i ≡ slice_index ys i) (sym e) both.1
    ])
