-- A word moved up by some bits and filled from the word before it, bit by bit.
use Rattle.std.proofs.Common.{◌≡◌, ℕ, ◌+◌, ◌-◌, ◌*◌, ◌/◌, ◌%◌, ◌^◌, ◌<◌, sym, ap, ◌∙◌, arith, pow_pos, bit_or}
use Rattle.std.specs.Int.{bit_at}
use Rattle.std.proofs.lemmas.Nat.{shr-shr, shr_split}
use Rattle.std.proofs.lemmas.Nat.Bits.{bit_at-zero, bit_at_or, bit_at_cat_low, bit_at_cat_high, bit_at_above}
use Rattle.kb_bits.specs.Words.{IsJoined}

-- the low bits of a number stay where the others are cut off
bit_at-mod : (n w i : ℕ) → i < w → bit_at (n % 2 ^ w) i ≡ bit_at n i
bit_at-mod n w i lt =
    sym (bit_at_cat_low (n / 2 ^ w) w (n % 2 ^ w) i lt) ∙ ap (λ (m : ℕ). bit_at m i) (shr_split n w)

pub bit_at-shr : (n s i : ℕ) → bit_at (n / 2 ^ s) i ≡ bit_at n (s + i)
bit_at-shr n s i = ap (λ (m : ℕ). m % 2) (shr-shr n s i)

bit_at-shl_high : (n s i : ℕ) → bit_at (n * 2 ^ s) (i + s) ≡ bit_at n i
bit_at-shl_high n s i =
    let e : n * 2 ^ s + 0 ≡ n * 2 ^ s = omega arith in
    let back : i + s - s ≡ i = omega arith in
    ap (λ (m : ℕ). bit_at m (i + s)) (sym e) ∙ bit_at_cat_high n s 0 (i + s) (pow_pos s) (omega arith) ∙ ap (λ (j : ℕ). bit_at n j) back

bit_at-shl_low : (n s i : ℕ) → i < s → bit_at (n * 2 ^ s) i ≡ 0
bit_at-shl_low n s i lt =
    let e : n * 2 ^ s + 0 ≡ n * 2 ^ s = omega arith in
    ap (λ (m : ℕ). bit_at m i) (sym e) ∙ bit_at_cat_low n s 0 i lt ∙ bit_at-zero i

module _ (word before bits : ℕ) (narrow : bits < 64) (fits : before < 2 ^ 64) where
  -- the bits that come from the word before
  from_before : (i j : ℕ) → j + bits ≡ i + 64 → bit_at (before / 2 / 2 ^ (63 - bits)) i ≡ bit_at before j
  from_before i j e =
      let k : 1 + (63 - bits) + i ≡ j = omega arith in
      ap (λ (m : ℕ). bit_at m i) (shr-shr before 1 (63 - bits)) ∙ bit_at-shr before (1 + (63 - bits)) i ∙ ap (λ (m : ℕ). bit_at before m) k

  high : (i : ℕ) → i + bits < 64 → bit_at (bit_or (word * 2 ^ bits % 2 ^ 64) (before / 2 / 2 ^ (63 - bits))) (i + bits) ≡ bit_at word i
  high i lt =
      let up = bit_at-mod (word * 2 ^ bits) 64 (i + bits) lt ∙ bit_at-shl_high word bits i in
      let none = from_before (i + bits) (i + 64) (omega arith) ∙ bit_at_above before 64 (i + 64) fits (omega arith) in
      let both = bit_at_or (word * 2 ^ bits % 2 ^ 64) (before / 2 / 2 ^ (63 - bits)) (i + bits) in
      omega arith

  low : (i j : ℕ) → i < bits → j + bits ≡ i + 64 → bit_at (bit_or (word * 2 ^ bits % 2 ^ 64) (before / 2 / 2 ^ (63 - bits))) i ≡ bit_at before j
  low i j lt e =
      let none = bit_at-mod (word * 2 ^ bits) 64 i (omega arith) ∙ bit_at-shl_low word bits i lt in
      let below = from_before i j e in
      let both = bit_at_or (word * 2 ^ bits % 2 ^ 64) (before / 2 / 2 ^ (63 - bits)) i in
      omega arith

  pub IsJoined-or : IsJoined word before bits (bit_or (word * 2 ^ bits % 2 ^ 64) (before / 2 / 2 ^ (63 - bits)))
  IsJoined-or = record { high = high; low = low }
