-- Whether the words of one set have all bits of another's: the bits that are missing, word by word.
use Rattle.std.proofs.Common.{◌≡◌, ℕ, ◌+◌, ◌*◌, ◌/◌, ◌%◌, ◌^◌, ◌<◌, ◌↔◌, inl, inr, IsTrue, nat_eq, List, slice_index, refl, sym, ap, ◌∙◌, arith, Contains, bit_and, bit_or}
use Rattle.std.specs.Int.{bit_at, w64, bit_not}
use Rattle.std.proofs.lemmas.Nat.{and_le_l, le_or_l, le_or_r}
use Rattle.std.proofs.lemmas.Nat.Bits.{bit_at-zero, bit_at-lt, bit_at_and, bit_at_not}
use Rattle.std.proofs.lemmas.Bool.{cases_lt, cases_eq, eqb-true, eq-eqb}
use Rattle.kb_bits.specs.Words.{bit_of, members, AreWordsOf}
use Rattle.kb_bits.specs.WordLaws.{bit_of-place, member_from_bit, bit_from_member, word_has_bit}
use Rattle.kb_bits.proofs.Readings.{no_member}

-- the bits of a word that another lacks
abbrev pub lacking : ℕ → ℕ → ℕ
lacking word other = bit_and word (bit_not w64 other)

-- a number is 0 just where none of the first k words of ys has a bit that the word of xs lacks
pub record TellsLacking (xs ys : List ℕ) (k missing : ℕ) : Type 0 where
  pub none : missing ≡ 0 → (j : ℕ) → j < k → lacking (slice_index ys j) (slice_index xs j) ≡ 0
  pub zero_from : ((j : ℕ) → j < k → lacking (slice_index ys j) (slice_index xs j) ≡ 0) → missing ≡ 0

pub TellsLacking-start : (xs ys : List ℕ) → TellsLacking xs ys 0 0
TellsLacking-start xs ys = record { none = λ e j lt. absurd (omega arith); zero_from = λ h. refl }

pub TellsLacking-more : (xs ys : List ℕ) (k missing : ℕ) → TellsLacking xs ys k missing → TellsLacking xs ys (k + 1) (bit_or missing (lacking (slice_index ys k) (slice_index xs k)))
TellsLacking-more xs ys k missing h = record {
  none = λ e j lt.
      let before : missing ≡ 0 = omega (arith, le_or_l missing (lacking (slice_index ys k) (slice_index xs k))) in
      let here : lacking (slice_index ys k) (slice_index xs k) ≡ 0 = omega (arith, le_or_r missing (lacking (slice_index ys k) (slice_index xs k))) in
      elim (cases_eq j k) [
        | inl same ↦ rw same here
        | inr other ↦ h.none before j (omega arith)
      ];
  zero_from = λ all.
      let before = h.zero_from (λ j lt. all j (omega arith)) in
      let here = all k (omega arith) in
      rw (before, here) refl;
}

module _ (xs ys : List ℕ) (m n : ℕ) (first : AreWordsOf xs m) (second : AreWordsOf ys n) where
  -- the word lacks no bit that is set
  has_same_bit : (i : ℕ) → lacking (slice_index ys (i / 64)) (slice_index xs (i / 64)) ≡ 0 → bit_of ys i ≡ 1 → bit_of xs i ≡ 1
  has_same_bit i none one =
      let y = slice_index ys (i / 64) in
      let x = slice_index xs (i / 64) in
      let both = bit_at_and y (bit_not w64 x) (i % 64) in
      let flipped = bit_at_not w64 x (i % 64) (first.fits (i / 64)) (omega arith) in
      let no_bit = ap (λ (w : ℕ). bit_at w (i % 64)) none ∙ bit_at-zero (i % 64) in
      omega (arith, bit_at-lt x (i % 64))

  within_from_none : ((j : ℕ) → j < n → lacking (slice_index ys j) (slice_index xs j) ≡ 0) → (i : ℕ) → Contains (members ys) i → Contains (members xs) i
  within_from_none none i h =
      elim (cases_lt (i / 64) n) [
        | inl lt ↦ member_from_bit xs first.bounded i (has_same_bit i (none (i / 64) lt) (bit_from_member ys i h))
        | inr le ↦ absurd (no_member ys i (second.behind (i / 64) le) h)
      ]

  lacking-lt : (j : ℕ) → lacking (slice_index ys j) (slice_index xs j) < 2 ^ 64
  lacking-lt j = omega (arith, and_le_l (slice_index ys j) (bit_not w64 (slice_index xs j)), second.fits j)

  none_from_within : ((i : ℕ) → Contains (members ys) i → Contains (members xs) i) → (j : ℕ) → lacking (slice_index ys j) (slice_index xs j) ≡ 0
  none_from_within within j =
      elim (cases_lt 0 (lacking (slice_index ys j) (slice_index xs j))) [
        | inr le ↦ omega arith
        | inl pos ↦
            let y = slice_index ys j in
            let x = slice_index xs j in
            let bit = word_has_bit (lacking y x) pos (lacking-lt j) in
            let both = bit_at_and y (bit_not w64 x) bit.0 in
            let flipped = bit_at_not w64 x bit.0 (first.fits j) bit.1 in
            let place = j * 64 + bit.0 in
            let set : bit_at y bit.0 ≡ 1 = omega (arith, bit.2, bit_at-lt y bit.0) in
            let member = within place (member_from_bit ys second.bounded place (bit_of-place ys j bit.0 place bit.1 refl ∙ set)) in
            let has = sym (bit_of-place xs j bit.0 place bit.1 refl) ∙ bit_from_member xs place member in
            absurd (omega (arith, bit.2))
      ]

  pub contains_all-missing : (missing : ℕ) → TellsLacking xs ys n missing → IsTrue (nat_eq missing 0) ↔ ((i : ℕ) → Contains (members ys) i → Contains (members xs) i)
  contains_all-missing missing h = (
    λ t. within_from_none (h.none (eqb-true missing 0 t)),
    λ within. eq-eqb missing 0 (h.zero_from (λ j lt. none_from_within within j)),
  )
