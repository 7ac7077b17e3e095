-- The bits of masks, and what the tests of words say of them.
use Rattle.std.proofs.Common.{◌≡◌, ℕ, ◌+◌, ◌*◌, ◌^◌, ◌%◌, ◌<◌, ◌↔◌, inl, inr, Bool, true, not, nat_eq, IsTrue, List, min, sym, ap, ◌∙◌, arith, Contains, bit_and, bit_or}
use Rattle.std.specs.Int.{bit_at, w64}
use Rattle.std.proofs.lemmas.Nat.{and_le_l}
use Rattle.std.proofs.lemmas.Nat.Bits.{bit_at-zero, bit_at-lt, bit_at_and, bit_at_set_same, bit_at_set_other, same_from_bits_below}
use Rattle.std.proofs.lemmas.Bool.{eqb-true, eq-eqb, eqb-false, ne_eqb, not-true, not_from_false, cases_eq}
use Rattle.kb_bits.specs.WordLaws.{word_has_bit}
use Rattle.line_matcher.specs.Masks.{HasBit, IsUnder, TouchesAt}

pub HasBit-set : (word k : ℕ) (set : Bool) → set ≡ true → k < 64 → HasBit word k set (bit_or word (1 * 2 ^ k % 2 ^ 64))
HasBit-set word k set e lt = record {
  here = rw e (bit_at_set_same w64 word k lt);
  others = λ j ne. bit_at_set_other w64 word k lt j ne;
}

-- a bit of a word cut to those of care
min_bits : (a b : ℕ) → a < 2 → b < 2 → (min a b ≡ 1) ↔ ((a ≡ 1) × (b ≡ 1))
min_bits a b la lb = (λ e. (omega arith, omega arith), λ h. let ha = h.0 in let hb = h.1 in omega arith)

-- two bits are equal where one is 1 exactly where the other is
same_bits : (a b : ℕ) → a < 2 → b < 2 → (a ≡ 1 → b ≡ 1) → (b ≡ 1 → a ≡ 1) → a ≡ b
same_bits a b la lb f g = elim (cases_eq a 1) [
  | inl one ↦ let other = f one in omega arith
  | inr not_one ↦ elim (cases_eq b 1) [
    | inl one ↦ absurd (not_one (g one))
    | inr none ↦ omega arith
  ]
]

module _ (w word care : ℕ) (points : List ℕ) (start : ℕ) (window : (k : ℕ) → k < 64 → (bit_at w k ≡ 1) ↔ Contains points (start + k)) where
  under_bit : (k : ℕ) → k < 64 → (bit_at (bit_and w care) k ≡ 1) ↔ (Contains points (start + k) × (bit_at care k ≡ 1))
  under_bit k lt =
      let m = min_bits (bit_at w k) (bit_at care k) (bit_at-lt w k) (bit_at-lt care k) in (
        λ e. let p = m.0 (sym (bit_at_and w care k) ∙ e) in ((window k lt).0 p.0, p.1),
        λ h. bit_at_and w care k ∙ m.1 ((window k lt).1 h.0, h.1),
      )

  pub is_under-told : word < 2 ^ 64 → w < 2 ^ 64 → IsTrue (nat_eq (bit_and w care) word) ↔ IsUnder word care points start
  is_under-told fits w_fits =
      let both_fit : bit_and w care < 2 ^ 64 = omega (arith, and_le_l w care) in (
        λ t. record {
          bits = λ k lt. let e : bit_at (bit_and w care) k ≡ bit_at word k = ap (λ (v : ℕ). bit_at v k) (eqb-true (bit_and w care) word t) in
              (λ one. (under_bit k lt).0 (e ∙ one), λ h. sym e ∙ (under_bit k lt).1 h);
        },
        λ under. eq-eqb (bit_and w care) word (same_from_bits_below 64 (bit_and w care) word both_fit fits (λ k lt.
            same_bits (bit_at (bit_and w care) k) (bit_at word k) (bit_at-lt (bit_and w care) k) (bit_at-lt word k)
            (λ one. (under.bits k lt).1 ((under_bit k lt).0 one))
            (λ one. (under_bit k lt).1 ((under.bits k lt).0 one)))),
      )

module _ (w care : ℕ) (points : List ℕ) (start : ℕ) (window : (k : ℕ) → k < 64 → (bit_at w k ≡ 1) ↔ Contains points (start + k)) where
  pub touches-told : w < 2 ^ 64 → IsTrue (not (nat_eq (bit_and w care) 0)) ↔ ((k : ℕ) × TouchesAt care points start k)
  touches-told w_fits =
      let fits : bit_and w care < 2 ^ 64 = omega (arith, and_le_l w care) in (
        λ t. let ne = eqb-false (bit_and w care) 0 (not-true (nat_eq (bit_and w care) 0) t) in
            let b = word_has_bit (bit_and w care) (omega arith) fits in
            let both = (under_bit w 0 care points start window b.0 b.1).0 b.2 in
            (b.0, record { narrow = b.1; care_bit = both.1; point = both.0 }),
        λ (k, at). not_from_false (nat_eq (bit_and w care) 0) (ne_eqb (bit_and w care) 0 (λ none.
            let one = (under_bit w 0 care points start window k at.narrow).1 (at.point, at.care_bit) in
            let zero = ap (λ (v : ℕ). bit_at v k) none ∙ bit_at-zero k in
            omega arith)),
      )
