-- The bits of one word, and behind them those of another.
use Rattle.std.proofs.Common.{◌≡◌, ℕ, ◌+◌, ◌-◌, ◌*◌, ◌/◌, ◌%◌, ◌^◌, ◌<◌, inl, inr, List, length, slice_index, sym, ap, ◌∙◌, arith, pow_pos, mod-lt, bit_or}
use Rattle.std.specs.Int.{bit_at}
use Rattle.std.proofs.lemmas.Nat.{shr_split}
use Rattle.std.proofs.lemmas.Nat.Bits.{bit_at-zero, bit_at-lt, bit_at_or, bit_at_cat_low, bit_at_cat_high, bit_at_above}
use Rattle.std.proofs.lemmas.Bool.{cases_lt, cases_eq}
use Rattle.final_index.specs.PlaneWords.{HasBitsOfBoth}

-- the low bits of a number stay where the others are cut off
bit_at-mod : (n w i : ℕ) → i < w → bit_at (n % 2 ^ w) i ≡ bit_at n i
bit_at-mod n w i lt =
    sym (bit_at_cat_low (n / 2 ^ w) w (n % 2 ^ w) i lt) ∙ ap (λ (m : ℕ). bit_at m i) (shr_split n w)

bit_at-shl_high : (n s i : ℕ) → bit_at (n * 2 ^ s) (i + s) ≡ bit_at n i
bit_at-shl_high n s i =
    let e : n * 2 ^ s + 0 ≡ n * 2 ^ s = omega arith in
    let back : i + s - s ≡ i = omega arith in
    ap (λ (m : ℕ). bit_at m (i + s)) (sym e) ∙ bit_at_cat_high n s 0 (i + s) (pow_pos s) (omega arith) ∙ ap (λ (j : ℕ). bit_at n j) back

bit_at-shl_low : (n s i : ℕ) → i < s → bit_at (n * 2 ^ s) i ≡ 0
bit_at-shl_low n s i lt =
    let e : n * 2 ^ s + 0 ≡ n * 2 ^ s = omega arith in
    ap (λ (m : ℕ). bit_at m i) (sym e) ∙ bit_at_cat_low n s 0 i lt ∙ bit_at-zero i

-- ---- one word

module _ (b by : ℕ) where
  -- a bit of the word that was moved up
  moved : (i j : ℕ) → i ≡ j + by → i < 64 → bit_at (b * 2 ^ by % 2 ^ 64) i ≡ bit_at b j
  moved i j e lt = bit_at-mod (b * 2 ^ by) 64 i lt ∙ ap (λ (k : ℕ). bit_at (b * 2 ^ by) k) e ∙ bit_at-shl_high b by j

  -- a bit of it comes from the word
  from_moved : (i : ℕ) → bit_at (b * 2 ^ by % 2 ^ 64) i ≡ 1 → (j : ℕ) × (i ≡ j + by) × (bit_at b j ≡ 1)
  from_moved i one =
      elim (cases_lt i 64) [
        | inr past ↦
            let none = bit_at_above (b * 2 ^ by % 2 ^ 64) 64 i (mod-lt (b * 2 ^ by) (pow_pos 64)) past in
            absurd (omega (arith, none, one))
        | inl lt ↦ elim (cases_lt i by) [
          | inl low ↦
              let none = bit_at-mod (b * 2 ^ by) 64 i lt ∙ bit_at-shl_low b by i low in
              absurd (omega (arith, none, one))
          | inr high ↦
              let at : i ≡ (i - by) + by = omega arith in
              (i - by, at, sym (moved i (i - by) at lt) ∙ one)
        ]
      ]

module _ (a b by : ℕ) where
  pub HasBitsOfBoth-or : ((i : ℕ) → bit_at b i ≡ 1 → i + by < 64) → HasBitsOfBoth a b by (bit_or a (b * 2 ^ by % 2 ^ 64))
  HasBitsOfBoth-or room i =
      let both = bit_at_or a (b * 2 ^ by % 2 ^ 64) i in
      let few = bit_at-lt a i in
      let few' = bit_at-lt (b * 2 ^ by % 2 ^ 64) i in (
        λ e. elim (cases_eq (bit_at a i) 1) [
          | inl one ↦ inl one
          | inr other ↦ inr (from_moved b by i (omega arith))
        ],
        λ h. elim h [
          | inl one ↦ omega arith
          | inr at ↦
              let lt : i < 64 = omega (arith, room at.0 at.2, at.1) in
              let one = moved b by i at.0 at.1 lt ∙ at.2 in
              omega arith
        ],
      )

-- ---- word by word

-- the first so many words are joined
pub record AreJoinedBelow (a b : List ℕ) (by end : ℕ) (both : List ℕ) : Type 0 where
  pub count : length both ≡ end
  pub joined : (k : ℕ) → k < end → HasBitsOfBoth (slice_index a k) (slice_index b k) by (slice_index both k)
