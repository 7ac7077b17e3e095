-- The words of a union, each the bits of two words.
use Rattle.std.proofs.Common.{◌≡◌, ℕ, ◌+◌, ◌/◌, ◌%◌, ◌<◌, ◌≤◌, ◌⊎◌, ◌↔◌, inl, inr, List, length, replicate, set, slice_index, max, sym, ap, ap₂, ◌∙◌, arith, Contains, bit_or}
use Rattle.std.specs.Int.{bit_at}
use Rattle.std.proofs.lemmas.List.{length-set, length-replicate}
use Rattle.std.proofs.lemmas.Nat.{or_lt, le_or_l, le_or_r}
use Rattle.std.proofs.lemmas.Nat.Bits.{bit_at-lt, bit_at_or}
use Rattle.std.proofs.lemmas.Bool.{cases_lt, cases_eq}
use Rattle.kb_bits.specs.declared.bit_board.TheConstants.{WORDS}
use Rattle.kb_bits.specs.Words.{bit_of, members, AreWordsOf}
use Rattle.kb_bits.specs.WordLaws.{member_from_bit, bit_from_member}
use Rattle.kb_bits.proofs.OneBit.{word-same, word-other}
use Rattle.kb_bits.proofs.Readings.{zero_words}

-- ---- the union

-- the first k words are united, the others are 0
pub record AreUnited (xs ys words : List ℕ) (k : ℕ) : Type 0 where
  pub count : length words ≡ WORDS
  pub united : (j : ℕ) → j < k → slice_index words j ≡ bit_or (slice_index xs j) (slice_index ys j)
  pub others : (j : ℕ) → k ≤ j → slice_index words j ≡ 0

pub AreUnited-start : (xs ys : List ℕ) → AreUnited xs ys (replicate WORDS 0) 0
AreUnited-start xs ys = record {
  count = length-replicate {A = ℕ} WORDS 0;
  united = λ j lt. absurd (omega arith);
  others = λ j le. zero_words WORDS j;
}

module _ (xs ys words : List ℕ) (k : ℕ) (so_far : AreUnited xs ys words k) (lt : k < WORDS) where
  within : k < length words
  within = omega (arith, so_far.count)

  pub AreUnited-more : AreUnited xs ys (set words k (bit_or (slice_index xs k) (slice_index ys k))) (k + 1)
  AreUnited-more = record {
    count = length-set words k (bit_or (slice_index xs k) (slice_index ys k)) ∙ so_far.count;
    united = λ j below. elim (cases_eq j k) [
      | inl same ↦ word-same words k (bit_or (slice_index xs k) (slice_index ys k)) within j same ∙ ap (λ (i : ℕ). bit_or (slice_index xs i) (slice_index ys i)) (sym same)
      | inr other ↦ word-other words k (bit_or (slice_index xs k) (slice_index ys k)) within j other ∙ so_far.united j (omega arith)
    ];
    others = λ j le. word-other words k (bit_or (slice_index xs k) (slice_index ys k)) within j (λ e. omega arith) ∙ so_far.others j (omega arith);
  }

one_of_two : (x y : ℕ) → x < 2 → y < 2 → max x y ≡ 1 → (x ≡ 1) ⊎ (y ≡ 1)
one_of_two x y p q e = elim (cases_eq x 1) [ inl one ↦ inl one | inr other ↦ inr (omega arith) ]

module _ (xs ys : List ℕ) (m n : ℕ) (first : AreWordsOf xs m) (second : AreWordsOf ys n) (words : List ℕ) (used : ℕ) (most : used ≡ max m n) (all : AreUnited xs ys words used) where
  word-united : (j : ℕ) → slice_index words j ≡ bit_or (slice_index xs j) (slice_index ys j)
  word-united j =
      elim (cases_lt j used) [
        | inl lt ↦ all.united j lt
        | inr le ↦ all.others j le ∙ sym (ap₂ (λ x y. bit_or x y) (first.behind j (omega arith)) (second.behind j (omega arith)))
      ]

  bit-united : (i : ℕ) → bit_of words i ≡ max (bit_of xs i) (bit_of ys i)
  bit-united i = ap (λ (w : ℕ). bit_at w (i % 64)) (word-united (i / 64)) ∙ bit_at_or (slice_index xs (i / 64)) (slice_index ys (i / 64)) (i % 64)

  last-united : (j : ℕ) → j + 1 ≡ used → 0 < slice_index words j
  last-united j e =
      let w = word-united j in
      elim (cases_eq (j + 1) m) [
        | inl same ↦ omega (arith, first.last j same, le_or_l (slice_index xs j) (slice_index ys j))
        | inr other ↦ omega (arith, second.last j (omega arith), le_or_r (slice_index xs j) (slice_index ys j))
      ]

  pub AreWords-united : AreWordsOf words used
  AreWords-united = record {
    count = all.count;
    fits = λ j. rw (word-united j) (or_lt 64 (slice_index xs j) (slice_index ys j) (first.fits j) (second.fits j));
    room = omega (arith, first.room, second.room);
    behind = all.others;
    last = last-united;
    bounded = λ i le. omega (arith, bit-united i, first.bounded i le, second.bounded i le);
  }

  united_forth : (i : ℕ) → Contains (members words) i → Contains (members xs) i ⊎ Contains (members ys) i
  united_forth i h =
      elim (one_of_two (bit_of xs i) (bit_of ys i) (bit_at-lt (slice_index xs (i / 64)) (i % 64)) (bit_at-lt (slice_index ys (i / 64)) (i % 64)) (sym (bit-united i) ∙ bit_from_member words i h)) [
        | inl one ↦ inl (member_from_bit xs first.bounded i one)
        | inr one ↦ inr (member_from_bit ys second.bounded i one)
      ]

  united_bit : (i : ℕ) → (bit_of xs i ≡ 1) ⊎ (bit_of ys i ≡ 1) → bit_of words i ≡ 1
  united_bit i (inl one) = omega (arith, bit-united i, bit_at-lt (slice_index ys (i / 64)) (i % 64))
  united_bit i (inr one) = omega (arith, bit-united i, bit_at-lt (slice_index xs (i / 64)) (i % 64))

  united_back : (i : ℕ) → Contains (members xs) i ⊎ Contains (members ys) i → bit_of words i ≡ 1
  united_back i (inl h) = united_bit i (inl (bit_from_member xs i h))
  united_back i (inr h) = united_bit i (inr (bit_from_member ys i h))

  pub members-united : (i : ℕ) → Contains (members words) i ↔ (Contains (members xs) i ⊎ Contains (members ys) i)
  members-united i = (united_forth i, λ h. member_from_bit words AreWords-united.bounded i (united_back i h))
