-- One number more, or one less: one bit of one word is set or cleared.
use Rattle.std.proofs.Common.{◌≡◌, ◌≢◌, ℕ, ◌+◌, ◌-◌, ◌*◌, ◌/◌, ◌%◌, ◌^◌, ◌<◌, ◌≤◌, ◌⊎◌, ◌↔◌, inl, inr, List, length, set, slice_index, max, sym, ap, ◌∙◌, arith, Contains, bit_and, bit_or}
use Rattle.std.specs.Int.{bit_at, w64}
use Rattle.std.proofs.lemmas.List.{get_or-set_same, get_or-set_other, length-set}
use Rattle.std.proofs.lemmas.Nat.{or_lt, and_le_l}
use Rattle.std.proofs.lemmas.Nat.Bits.{bit_at-zero, bit_at_set_same, bit_at_set_other, bit_at_clear_same, bit_at_clear_other}
use Rattle.std.proofs.lemmas.Bool.{cases_lt, cases_eq}
use Rattle.kb_bits.specs.declared.bit_board.TheConstants.{BOUND}
use Rattle.kb_bits.specs.Words.{bit_of, members, AreWordsOf}
use Rattle.kb_bits.specs.WordLaws.{member_from_bit, bit_from_member}

-- a word with a set bit isn't 0
pub pos_from_bit : (word i : ℕ) → bit_at word i ≡ 1 → 0 < word
pos_from_bit word i e =
    elim (cases_lt 0 word) [
      | inl pos ↦ pos
      | inr none ↦
          let zero_word : word ≡ 0 = omega arith in
          let no_bit = ap (λ (w : ℕ). bit_at w i) zero_word ∙ bit_at-zero i in
          absurd (omega arith)
    ]

-- ---- one word is replaced

module _ (words : List ℕ) (k word : ℕ) (inside : k < length words) where
  pub word-same : (j : ℕ) → j ≡ k → slice_index (set words k word) j ≡ word
  word-same j e = rw e (get_or-set_same words k word 0 inside)

  pub word-other : (j : ℕ) → j ≢ k → slice_index (set words k word) j ≡ slice_index words j
  word-other j other = get_or-set_other words k j word 0 other

  module _ (n : ℕ) (at : k ≡ n / 64) where
    pub bit-same : bit_of (set words k word) n ≡ bit_at word (n % 64)
    bit-same = ap (λ (w : ℕ). bit_at w (n % 64)) (word-same (n / 64) (sym at))

    pub bit-other : ((i : ℕ) → i < 64 → i ≢ n % 64 → bit_at word i ≡ bit_at (slice_index words k) i) → (m : ℕ) → m ≢ n → bit_of (set words k word) m ≡ bit_of words m
    bit-other others m other =
        elim (cases_eq (m / 64) k) [
          | inl same ↦
              let apart : m % 64 ≢ n % 64 = λ e. other (omega arith) in
              ap (λ (w : ℕ). bit_at w (m % 64)) (word-same (m / 64) same) ∙ others (m % 64) (omega arith) apart ∙ ap (λ (j : ℕ). bit_at (slice_index words j) (m % 64)) (sym same)
          | inr elsewhere ↦ ap (λ (w : ℕ). bit_at w (m % 64)) (word-other (m / 64) elsewhere)
        ]

-- ---- insert

-- the word with the bit of a number set
abbrev pub with_bit : ℕ → ℕ → ℕ
with_bit word n = bit_or word (1 * 2 ^ (n % 64) % 2 ^ 64)

-- the word with the bit of a number cleared
abbrev pub without_bit : ℕ → ℕ → ℕ
without_bit word n = bit_and word (2 ^ 64 - 1 - 1 * 2 ^ (n % 64) % 2 ^ 64)

module _ (words : List ℕ) (used n k : ℕ) (held : AreWordsOf words used) (lt : n < BOUND) (at : k ≡ n / 64) where
  inside : k < length words
  inside = omega (arith, held.count)

  with_same : bit_of (set words k (with_bit (slice_index words k) n)) n ≡ 1
  with_same = bit-same words k (with_bit (slice_index words k) n) inside n at ∙ bit_at_set_same w64 (slice_index words k) (n % 64) (omega arith)

  with_other : (m : ℕ) → m ≢ n → bit_of (set words k (with_bit (slice_index words k) n)) m ≡ bit_of words m
  with_other = bit-other words k (with_bit (slice_index words k) n) inside n at (λ i below apart. bit_at_set_other w64 (slice_index words k) (n % 64) (omega arith) i apart)

  without_same : bit_of (set words k (without_bit (slice_index words k) n)) n ≡ 0
  without_same = bit-same words k (without_bit (slice_index words k) n) inside n at ∙ bit_at_clear_same w64 (slice_index words k) (n % 64) (omega arith)

  without_other : (m : ℕ) → m ≢ n → bit_of (set words k (without_bit (slice_index words k) n)) m ≡ bit_of words m
  without_other = bit-other words k (without_bit (slice_index words k) n) inside n at (λ i below apart. bit_at_clear_other w64 (slice_index words k) (n % 64) (omega arith) i below apart)

  with_fits : (j : ℕ) → slice_index (set words k (with_bit (slice_index words k) n)) j < 2 ^ 64
  with_fits j =
      elim (cases_eq j k) [
        | inl same ↦ rw (word-same words k (with_bit (slice_index words k) n) inside j same) (or_lt 64 (slice_index words k) (1 * 2 ^ (n % 64) % 2 ^ 64) (held.fits k) (omega arith))
        | inr other ↦ rw (word-other words k (with_bit (slice_index words k) n) inside j other) (held.fits j)
      ]

  with_last : (now : ℕ) → now ≡ max used (k + 1) → (j : ℕ) → j + 1 ≡ now → 0 < slice_index (set words k (with_bit (slice_index words k) n)) j
  with_last now most j e =
      elim (cases_eq j k) [
        | inl same ↦ rw (word-same words k (with_bit (slice_index words k) n) inside j same) (pos_from_bit (with_bit (slice_index words k) n) (n % 64) (bit_at_set_same w64 (slice_index words k) (n % 64) (omega arith)))
        | inr other ↦ rw (word-other words k (with_bit (slice_index words k) n) inside j other) (held.last j (omega arith))
      ]

  with_behind : (now : ℕ) → now ≡ max used (k + 1) → (j : ℕ) → now ≤ j → slice_index (set words k (with_bit (slice_index words k) n)) j ≡ 0
  with_behind now most j le = word-other words k (with_bit (slice_index words k) n) inside j (λ e. omega arith) ∙ held.behind j (omega arith)

  pub AreWords-with : (now : ℕ) → now ≡ max used (k + 1) → AreWordsOf (set words k (with_bit (slice_index words k) n)) now
  AreWords-with now most = record {
    count = length-set words k (with_bit (slice_index words k) n) ∙ held.count;
    fits = with_fits;
    room = omega (arith, held.room);
    behind = with_behind now most;
    last = with_last now most;
    bounded = λ m le. with_other m (λ e. omega arith) ∙ held.bounded m le;
  }

  with_forth : (m : ℕ) → Contains (members (set words k (with_bit (slice_index words k) n))) m → Contains (members words) m ⊎ (m ≡ n)
  with_forth m h =
      elim (cases_eq m n) [
        | inl same ↦ inr same
        | inr other ↦ inl (member_from_bit words held.bounded m (sym (with_other m other) ∙ bit_from_member (set words k (with_bit (slice_index words k) n)) m h))
      ]

  with_bit_at : (m : ℕ) → Contains (members words) m ⊎ (m ≡ n) → bit_of (set words k (with_bit (slice_index words k) n)) m ≡ 1
  with_bit_at m (inr same) = rw same with_same
  with_bit_at m (inl old) =
      elim (cases_eq m n) [
        | inl same ↦ rw same with_same
        | inr other ↦ with_other m other ∙ bit_from_member words m old
      ]

  pub members-with : (now : ℕ) → now ≡ max used (k + 1) → (m : ℕ) → Contains (members (set words k (with_bit (slice_index words k) n))) m ↔ (Contains (members words) m ⊎ (m ≡ n))
  members-with now most m = (
    with_forth m,
    λ h. member_from_bit (set words k (with_bit (slice_index words k) n)) (AreWords-with now most).bounded m (with_bit_at m h),
  )

  without_word : (j : ℕ) → j ≡ k → slice_index (set words k (without_bit (slice_index words k) n)) j ≤ slice_index words k
  without_word j same = rw (word-same words k (without_bit (slice_index words k) n) inside j same) (and_le_l (slice_index words k) (2 ^ 64 - 1 - 1 * 2 ^ (n % 64) % 2 ^ 64))

  without_fits : (j : ℕ) → slice_index (set words k (without_bit (slice_index words k) n)) j < 2 ^ 64
  without_fits j =
      elim (cases_eq j k) [
        | inl same ↦ omega (arith, without_word j same, held.fits k)
        | inr other ↦ rw (word-other words k (without_bit (slice_index words k) n) inside j other) (held.fits j)
      ]

  without_bounded : (m : ℕ) → BOUND ≤ m → bit_of (set words k (without_bit (slice_index words k) n)) m ≡ 0
  without_bounded m le = without_other m (λ e. omega arith) ∙ held.bounded m le

  without_behind : (j : ℕ) → used ≤ j → slice_index (set words k (without_bit (slice_index words k) n)) j ≡ 0
  without_behind j le =
      elim (cases_eq j k) [
        | inl same ↦ let none = held.behind k (omega arith) in omega (arith, without_word j same)
        | inr other ↦ word-other words k (without_bit (slice_index words k) n) inside j other ∙ held.behind j le
      ]

  -- as many words are in use as before, where the word isn't the last of them
  pub AreWords-without_same : k + 1 ≢ used → AreWordsOf (set words k (without_bit (slice_index words k) n)) used
  AreWords-without_same apart = record {
    count = length-set words k (without_bit (slice_index words k) n) ∙ held.count;
    fits = without_fits;
    room = held.room;
    behind = without_behind;
    last = λ j e. rw (word-other words k (without_bit (slice_index words k) n) inside j (λ same. apart (omega arith))) (held.last j e);
    bounded = without_bounded;
  }

  -- fewer are in use, where those behind are 0
  pub AreWords-without_last : k + 1 ≡ used → (now : ℕ) → now ≤ k + 1 → ((j : ℕ) → now ≤ j → j < k + 1 → slice_index (set words k (without_bit (slice_index words k) n)) j ≡ 0) → ((j : ℕ) → j + 1 ≡ now → 0 < slice_index (set words k (without_bit (slice_index words k) n)) j) → AreWordsOf (set words k (without_bit (slice_index words k) n)) now
  AreWords-without_last same now fewer zeros last = record {
    count = length-set words k (without_bit (slice_index words k) n) ∙ held.count;
    fits = without_fits;
    room = omega (arith, held.room);
    behind = λ j le. elim (cases_lt j (k + 1)) [
      | inl below ↦ zeros j le below
      | inr from ↦ without_behind j (omega arith)
    ];
    last = last;
    bounded = without_bounded;
  }

  without_forth : (m : ℕ) → Contains (members (set words k (without_bit (slice_index words k) n))) m → Contains (members words) m × (m ≢ n)
  without_forth m h =
      let bit = bit_from_member (set words k (without_bit (slice_index words k) n)) m h in
      elim (cases_eq m n) [
        | inl same ↦ let none = rw same at bit in absurd (omega (arith, without_same))
        | inr other ↦ (member_from_bit words held.bounded m (sym (without_other m other) ∙ bit), other)
      ]

  pub members-without : (m : ℕ) → Contains (members (set words k (without_bit (slice_index words k) n))) m ↔ (Contains (members words) m × (m ≢ n))
  members-without m = (
    without_forth m,
    λ h. member_from_bit (set words k (without_bit (slice_index words k) n)) without_bounded m (without_other m h.1 ∙ bit_from_member words m h.0),
  )
