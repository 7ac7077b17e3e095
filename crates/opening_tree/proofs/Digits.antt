-- The two bits at a place of a word, and a word with two other bits.
use Rattle.std.proofs.Common.{◌≡◌, ◌≢◌, ℕ, ◌+◌, ◌-◌, ◌*◌, ◌/◌, ◌%◌, ◌^◌, ◌<◌, ◌≤◌, ◌⊎◌, inl, inr, sym, ap, ◌∙◌, arith, add-zero}
use Prim.Native.Nat.{min, max}
use Rattle.std.proofs.lemmas.Bool.{cases_lt}
use Rattle.std.proofs.lemmas.Nat.{mod_below, pow_pos, shl_whole, shr-shr}
use Rattle.std.proofs.lemmas.Nat.Bits.{bit_at-lt, bit_at-zero, bit_at_above, bit_at_and, bit_at_cat_high, bit_at_cat_low, bit_at_not, bit_at_or}
use Rattle.std.specs.Int.{bit_at, bit_not, w64}
use Rattle.std.specs.Prelude.{bit_and, bit_or}
use Rattle.opening_tree.specs.Packing.{IsWithDigit}

-- two bits by each of them
pub digit_bits : (n k : ℕ) → n / 2 ^ k % 4 ≡ 2 * bit_at n (k + 1) + bit_at n k
digit_bits n k = let e : n / 2 ^ k / 2 ≡ n / 2 ^ (k + 1) = shr-shr n k 1 in omega (arith, e)

-- two bits that are shifted
module _ (a s : ℕ) (few : a < 4) where
  alone : a * 2 ^ s + 0 ≡ a * 2 ^ s
  alone = add-zero (a * 2 ^ s)

  shifted-low : (i : ℕ) → i < s → bit_at (a * 2 ^ s) i ≡ 0
  shifted-low i lt = ap (λ n. bit_at n i) (sym alone) ∙ bit_at_cat_low a s 0 i lt ∙ bit_at-zero i

  shifted-high : (i : ℕ) → s ≤ i → bit_at (a * 2 ^ s) i ≡ bit_at a (i - s)
  shifted-high i le = ap (λ n. bit_at n i) (sym alone) ∙ bit_at_cat_high a s 0 i (pow_pos s) le

  shifted-out : (i : ℕ) → s + 2 ≤ i → bit_at (a * 2 ^ s) i ≡ 0
  shifted-out i le = shifted-high i (omega arith) ∙ bit_at_above a 2 (i - s) few (omega arith)

  shifted-first : bit_at (a * 2 ^ s) s ≡ bit_at a 0
  shifted-first = let e : s - s ≡ 0 = omega arith in shifted-high s (omega arith) ∙ ap (bit_at a) e

  shifted-second : bit_at (a * 2 ^ s) (s + 1) ≡ bit_at a 1
  shifted-second = let e : s + 1 - s ≡ 1 = omega arith in shifted-high (s + 1) (omega arith) ∙ ap (bit_at a) e

-- the word that the code computes
abbrev pub with_bits : ℕ → ℕ → ℕ → ℕ
with_bits w s r = bit_or (bit_and w (bit_not w64 (3 * 2 ^ s % 2 ^ 64))) (r * 2 ^ s % 2 ^ 64)

module _ (w s r : ℕ) (room : s ≤ 62) (few : r < 3) where
  three : 3 * 2 ^ s % 2 ^ 64 ≡ 3 * 2 ^ s
  three = shl_whole 3 2 s 64 (omega arith) (omega arith)

  whole : r * 2 ^ s % 2 ^ 64 ≡ r * 2 ^ s
  whole = shl_whole r 2 s 64 (omega arith) (omega arith)

  kept_bits : (i : ℕ) → i < 64 → bit_at (bit_not w64 (3 * 2 ^ s % 2 ^ 64)) i ≡ 1 - bit_at (3 * 2 ^ s) i
  kept_bits i lt = bit_at_not w64 (3 * 2 ^ s % 2 ^ 64) i (mod_below (3 * 2 ^ s) (2 ^ 64) (pow_pos 64)) lt ∙ ap (λ n. 1 - bit_at n i) three

  new_bit : (i : ℕ) → i < 64 → bit_at (with_bits w s r) i ≡ max (min (bit_at w i) (1 - bit_at (3 * 2 ^ s) i)) (bit_at (r * 2 ^ s) i)
  new_bit i lt =
      bit_at_or (bit_and w (bit_not w64 (3 * 2 ^ s % 2 ^ 64))) (r * 2 ^ s % 2 ^ 64) i
      ∙ ap (λ b. max b (bit_at (r * 2 ^ s % 2 ^ 64) i)) (bit_at_and w (bit_not w64 (3 * 2 ^ s % 2 ^ 64)) i ∙ ap (min (bit_at w i)) (kept_bits i lt))
      ∙ ap (λ n. max (min (bit_at w i) (1 - bit_at (3 * 2 ^ s) i)) (bit_at n i)) whole

  -- the other bits stay
  same_bit : (i : ℕ) → i < 64 → (i < s) ⊎ (s + 2 ≤ i) → bit_at (with_bits w s r) i ≡ bit_at w i
  same_bit i lt (inl low) =
      let a : bit_at (3 * 2 ^ s) i ≡ 0 = shifted-low 3 s (omega arith) i low in
      let b : bit_at (r * 2 ^ s) i ≡ 0 = shifted-low r s (omega arith) i low in
      omega (arith, new_bit i lt, bit_at-lt w i, a, b)
  same_bit i lt (inr high) =
      let a : bit_at (3 * 2 ^ s) i ≡ 0 = shifted-out 3 s (omega arith) i high in
      let b : bit_at (r * 2 ^ s) i ≡ 0 = shifted-out r s (omega arith) i high in
      omega (arith, new_bit i lt, bit_at-lt w i, a, b)

  first_bit : bit_at (with_bits w s r) s ≡ bit_at r 0
  first_bit =
      let a : bit_at (3 * 2 ^ s) s ≡ 1 = shifted-first 3 s (omega arith) in
      let b : bit_at (r * 2 ^ s) s ≡ bit_at r 0 = shifted-first r s (omega arith) in
      omega (arith, new_bit s (omega arith), a, b)

  second_bit : bit_at (with_bits w s r) (s + 1) ≡ bit_at r 1
  second_bit =
      let a : bit_at (3 * 2 ^ s) (s + 1) ≡ 1 = shifted-second 3 s (omega arith) in
      let b : bit_at (r * 2 ^ s) (s + 1) ≡ bit_at r 1 = shifted-second r s (omega arith) in
      omega (arith, new_bit (s + 1) (omega arith), a, b)

  new_digit : with_bits w s r / 2 ^ s % 4 ≡ r
  new_digit =
      let e : r / 2 ^ 0 % 4 ≡ 2 * bit_at r (0 + 1) + bit_at r 0 = digit_bits r 0 in
      omega (arith, digit_bits (with_bits w s r) s, first_bit, second_bit, e)

  same_digit : (k : ℕ) → k + 1 < 64 → (k + 2 ≤ s) ⊎ (s + 2 ≤ k) → with_bits w s r / 2 ^ k % 4 ≡ w / 2 ^ k % 4
  same_digit k lt (inl low) =
      omega (arith, digit_bits (with_bits w s r) k, digit_bits w k, same_bit k (omega arith) (inl (omega arith)), same_bit (k + 1) (omega arith) (inl (omega arith)))
  same_digit k lt (inr high) =
      omega (arith, digit_bits (with_bits w s r) k, digit_bits w k, same_bit k (omega arith) (inr (omega arith)), same_bit (k + 1) (omega arith) (inr (omega arith)))

-- two places of a word that differ
apart : (other place : ℕ) → other ≢ place → (2 * other + 2 ≤ 2 * place) ⊎ (2 * place + 2 ≤ 2 * other)
apart other place ne = elim (cases_lt other place) [ inl lt ↦ inl (omega arith) | inr le ↦ inr (omega arith) ]

pub IsWithDigit-made : (w place r : ℕ) → place < 32 → r < 3 → IsWithDigit w place r (with_bits w (2 * place) r)
IsWithDigit-made w place r lt few = record {
  here = new_digit w (2 * place) r (omega arith) few;
  others = λ other below ne. same_digit w (2 * place) r (omega arith) few (2 * other) (omega arith) (apart other place ne);
}
