-- The words of all numbers below one: full words, and one that is full up to a bit.
use Rattle.std.proofs.Common.{◌≡◌, ℕ, ◌+◌, ◌-◌, ◌*◌, ◌/◌, ◌%◌, ◌^◌, ◌<◌, ◌≤◌, ◌↔◌, inl, inr, List, length, replicate, set, slice_index, refl, ap, ◌∙◌, subst, arith, Contains}
use Rattle.std.specs.Int.{bit_at}
use Rattle.std.proofs.lemmas.List.{length-set, length-replicate}
use Rattle.std.proofs.lemmas.Nat.{one_shl, pow_below}
use Rattle.std.proofs.lemmas.Nat.Bits.{bit_at-zero, bit_at_ones, bit_at_ones_above}
use Rattle.std.proofs.lemmas.Bool.{cases_lt, cases_eq, cases_order}
use Rattle.kb_bits.specs.declared.bit_board.TheConstants.{BOUND, WORDS}
use Rattle.kb_bits.specs.Words.{bit_of, members, AreWordsOf}
use Rattle.kb_bits.specs.WordLaws.{member_from_bit, bit_from_member}
use Rattle.kb_bits.proofs.OneBit.{word-same, word-other}
use Rattle.kb_bits.proofs.Readings.{zero_words}

-- the first words are full, then comes one, and the others are 0
pub record AreFull (words : List ℕ) (full end : ℕ) : Type 0 where
  pub count : length words ≡ WORDS
  pub ones : (j : ℕ) → j < full → slice_index words j ≡ 2 ^ 64 - 1
  pub end_is : slice_index words full ≡ end
  pub others : (j : ℕ) → full < j → slice_index words j ≡ 0

pub AreFull-start : AreFull (replicate WORDS 0) 0 0
AreFull-start = record {
  count = length-replicate {A = ℕ} WORDS 0;
  ones = λ j lt. absurd (omega arith);
  end_is = zero_words WORDS 0;
  others = λ j lt. zero_words WORDS j;
}

module _ (words : List ℕ) (full : ℕ) (so_far : AreFull words full 0) (lt : full < WORDS) where
  within : full < length words
  within = omega (arith, so_far.count)

  pub AreFull-more : AreFull (set words full (2 ^ 64 - 1)) (full + 1) 0
  AreFull-more = record {
    count = length-set words full (2 ^ 64 - 1) ∙ so_far.count;
    ones = λ j below. elim (cases_eq j full) [
      | inl same ↦ word-same words full (2 ^ 64 - 1) within j same
      | inr other ↦ word-other words full (2 ^ 64 - 1) within j other ∙ so_far.ones j (omega arith)
    ];
    end_is = word-other words full (2 ^ 64 - 1) within (full + 1) (λ e. omega arith) ∙ so_far.others (full + 1) (omega arith);
    others = λ j from. word-other words full (2 ^ 64 - 1) within j (λ e. omega arith) ∙ so_far.others j (omega arith);
  }

  AreFull-end : (end : ℕ) → AreFull (set words full end) full end
  AreFull-end end = record {
    count = length-set words full end ∙ so_far.count;
    ones = λ j below. word-other words full end within j (λ e. omega arith) ∙ so_far.ones j below;
    end_is = word-same words full end within full refl;
    others = λ j from. word-other words full end within j (λ e. omega arith) ∙ so_far.others j from;
  }

  pub AreFull-part : (rest : ℕ) → rest < 64 → AreFull (set words full (1 * 2 ^ rest % 2 ^ 64 - 1)) full (2 ^ rest - 1)
  AreFull-part rest narrow =
      let end : ℕ = 1 * 2 ^ rest % 2 ^ 64 - 1 in
      subst (λ (e : ℕ). AreFull (set words full end) full e) (ap (λ (x : ℕ). x - 1) (one_shl rest 64 narrow)) (AreFull-end end)

pub AreFull-none : (words : List ℕ) (full rest : ℕ) → rest ≡ 0 → AreFull words full 0 → AreFull words full (2 ^ rest - 1)
AreFull-none words full rest none filled = rw none filled

-- ---- the bits

module _ (words : List ℕ) (n full rest : ℕ) (at : full ≡ n / 64) (over : rest ≡ n % 64) (filled : AreFull words full (2 ^ rest - 1)) where
  bit-below : (m : ℕ) → m < n → bit_of words m ≡ 1
  bit-below m lt =
      elim (cases_lt (m / 64) full) [
        | inl before ↦ ap (λ (w : ℕ). bit_at w (m % 64)) (filled.ones (m / 64) before) ∙ bit_at_ones 64 (m % 64) (omega arith)
        | inr from ↦
            let e : m / 64 ≡ full = omega arith in
            ap (λ (j : ℕ). bit_at (slice_index words j) (m % 64)) e ∙ ap (λ (w : ℕ). bit_at w (m % 64)) filled.end_is ∙ bit_at_ones rest (m % 64) (omega arith)
      ]

  bit-from : (m : ℕ) → n ≤ m → bit_of words m ≡ 0
  bit-from m le =
      elim (cases_eq (m / 64) full) [
        | inl e ↦ ap (λ (j : ℕ). bit_at (slice_index words j) (m % 64)) e ∙ ap (λ (w : ℕ). bit_at w (m % 64)) filled.end_is ∙ bit_at_ones_above rest (m % 64) (omega arith)
        | inr other ↦ ap (λ (w : ℕ). bit_at w (m % 64)) (filled.others (m / 64) (omega arith)) ∙ bit_at-zero (m % 64)
      ]

  word-fits : (j : ℕ) → slice_index words j < 2 ^ 64
  word-fits j =
      elim (cases_order j full) [
        | inl e ↦ rw (e, filled.end_is) (omega (arith, pow_below rest 64 (omega arith)))
        | inr (inl lt) ↦ rw (filled.ones j lt) (omega arith)
        | inr (inr gt) ↦ rw (filled.others j gt) (omega arith)
      ]

  word-pos : (j : ℕ) → j < full → 0 < slice_index words j
  word-pos j lt = rw (filled.ones j lt) (omega arith)

  -- how many words are in use
  module _ (bound : n ≤ BOUND) where
    pub AreWords-whole : rest ≡ 0 → AreWordsOf words full
    AreWords-whole none = record {
      count = filled.count;
      fits = word-fits;
      room = omega arith;
      behind = λ j le. elim (cases_eq j full) [
        | inl e ↦ rw (e, filled.end_is, none) refl
        | inr other ↦ filled.others j (omega arith)
      ];
      last = λ j e. word-pos j (omega arith);
      bounded = λ m le. bit-from m (omega arith);
    }

    pub AreWords-part : 0 < rest → AreWordsOf words (full + 1)
    AreWords-part some = record {
      count = filled.count;
      fits = word-fits;
      room = omega arith;
      behind = λ j le. filled.others j (omega arith);
      last = λ j e. elim (cases_eq j full) [
        | inl same ↦ rw (same, filled.end_is) (omega (arith, pow_below 0 rest some))
        | inr other ↦ word-pos j (omega arith)
      ];
      bounded = λ m le. bit-from m (omega arith);
    }

    below_from_bit : (m : ℕ) → bit_of words m ≡ 1 → m < n
    below_from_bit m one = elim (cases_lt m n) [ inl lt ↦ lt | inr le ↦ absurd (omega (arith, bit-from m le)) ]

    pub members-below : (m : ℕ) → Contains (members words) m ↔ (m < n)
    members-below m = (
      λ h. below_from_bit m (bit_from_member words m h),
      λ lt. member_from_bit words (λ k le. bit-from k (omega arith)) m (bit-below m lt),
    )
