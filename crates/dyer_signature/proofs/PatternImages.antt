-- Patterns and the images of a signature.
use Rattle.std.proofs.Common.{◌≡◌, ◌⊎◌, ℕ, ◌+◌, ◌<◌, List, Option, Some, None, sym, ◌∙◌, subst, inl, inr, arith}
use Rattle.std.proofs.lemmas.Bool.{cases_eq, cases_lt}
use Rattle.std.specs.Prelude.{slice_index}
use Rattle.kb_geometry.specs.declared.shape.Point.{Point}
use Rattle.kb_geometry.specs.declared.shape.Shape.{Shape}
use Rattle.kb_geometry.specs.Symmetry.{IsAllowed}
use Rattle.sgf_reader.specs.Grammar.{IsLetter}
use Rattle.game_tree.specs.Value.{IsCoordinate}
use Rattle.dyer_signature.specs.Images.{IsImageUnder}
use Rattle.dyer_signature.specs.Patterns.{Agrees, IsSignaturePatternByte, Matches, star}
use Rattle.dyer_signature.specs.Signatures.{IsPair, question_mark}
use Rattle.dyer_signature.proofs.Pairs.{place_of_byte}
use Rattle.dyer_signature.proofs.Turnings.{image-only}

-- no image under the first symmetries agrees with the pattern
abbrev pub AreUnlike : Shape → ℕ → List ℕ → List ℕ → Type 0
AreUnlike shape end signature pattern =
    (number : ℕ) (image : List ℕ) → number < end → IsAllowed number shape → IsImageUnder shape number signature image → ¬ Agrees image pattern

module _ (shape : Shape) (signature pattern : List ℕ) where
  pub unlike-start : AreUnlike shape 0 signature pattern
  unlike-start number image lt = absurd (omega arith)

  pub unlike-more : (n : ℕ) (image : List ℕ) → IsImageUnder shape n signature image → ¬ Agrees image pattern → AreUnlike shape n signature pattern → AreUnlike shape (n + 1) signature pattern
  unlike-more n image is_moved differs so_far number other below may is_other agrees = elim (cases_lt number n) [
    | inl before ↦ so_far number other before may is_other agrees
    | inr le ↦
        let here : number ≡ n = omega arith in
        let same = image-only shape n signature other image (subst (λ k. IsImageUnder shape k signature other) here is_other) is_moved in
        differs (subst (λ bytes. Agrees bytes pattern) same agrees)
  ]

  pub unlike-skip : (n : ℕ) → ¬ IsAllowed n shape → AreUnlike shape n signature pattern → AreUnlike shape (n + 1) signature pattern
  unlike-skip n forbidden so_far number image below may is_moved agrees = elim (cases_lt number n) [
    | inl before ↦ so_far number image before may is_moved agrees
    | inr le ↦
        let here : number ≡ n = omega arith in
        forbidden (subst (λ k. IsAllowed k shape) here may)
  ]

  pub unlike-all : AreUnlike shape 8 signature pattern → ¬ Matches shape signature pattern
  unlike-all so_far (image, of_it, agrees) =
      so_far of_it.number image of_it.is_symmetry of_it.is_allowed of_it.is_moved agrees

  pub matches-by : (n : ℕ) (image : List ℕ) → n < 8 → IsAllowed n shape → IsImageUnder shape n signature image → Agrees image pattern → Matches shape signature pattern
  matches-by n image lt allowed is_moved agrees =
      (image, record { number = n; is_symmetry = lt; is_allowed = allowed; is_moved = is_moved }, agrees)

-- a letter or `?`
abbrev IsSignatureByte : ℕ → Type 0
IsSignatureByte byte = IsLetter byte ⊎ (byte ≡ question_mark)

letter_byte : (a n : ℕ) → IsCoordinate a n → IsLetter a
letter_byte a n (inl h) = inr (omega arith, omega arith)
letter_byte a n (inr h) = inl (omega arith, omega arith)

pair_bytes : (p : Option Point) (a b : ℕ) → IsPair p a b → IsSignatureByte a × IsSignatureByte b
pair_bytes None a b is = (inr is.0, inr is.1)
pair_bytes (Some p) a b is = (inl (letter_byte a p.x is.0), inl (letter_byte b p.y is.1))

image_byte : (shape : Shape) (number : ℕ) (signature image : List ℕ) → IsImageUnder shape number signature image → (k : ℕ) → k < 12 → IsSignatureByte (slice_index image k)
image_byte shape number signature image is_moved k lt =
    let (place, below, at) = place_of_byte k lt in
    let (p, told, moved_told) = is_moved.each place below in
    let both = pair_bytes _ _ _ moved_told in
    let P : ℕ → Type 0 = λ i. IsSignatureByte (slice_index image i) in
    elim at [ inl e ↦ subst P (sym e) both.0 | inr e ↦ subst P (sym e) both.1 ]

pattern_byte : (a b : ℕ) → a ≡ b → IsSignatureByte a → IsSignaturePatternByte b
pattern_byte a b e (inl h) = inl (subst IsLetter e h)
pattern_byte a b e (inr h) = inr (inl (sym e ∙ h))

-- each byte of a pattern that matches is a letter, `?` or `*`
pub matched_bytes : (shape : Shape) (signature pattern : List ℕ) → Matches shape signature pattern → (k : ℕ) → k < 12 → IsSignaturePatternByte (slice_index pattern k)
matched_bytes shape signature pattern (image, of_it, agrees) k lt = elim (cases_eq (slice_index pattern k) star) [
  | inl e ↦ inr (inr e)
  | inr ne ↦
      pattern_byte (slice_index image k) _ (agrees k lt ne) (image_byte shape of_it.number signature image of_it.is_moved k lt)
]
