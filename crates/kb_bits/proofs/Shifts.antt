-- The words of a shifted set: each joined from two words, and none of the bits from the bound on.
use Rattle.std.proofs.Common.{◌≡◌, ◌≢◌, ℕ, ◌+◌, ◌-◌, ◌*◌, ◌/◌, ◌%◌, ◌^◌, ◌<◌, ◌≤◌, ◌↔◌, inl, inr, List, ◌∷◌, suc, zero, length, replicate, set, slice_index, min, refl, sym, ap, ◌∙◌, arith, Contains, bit_and}
use Rattle.std.specs.Int.{bit_at}
use Rattle.std.proofs.lemmas.List.{length-set, length-replicate, get_or_past}
use Rattle.std.proofs.lemmas.Nat.{and_le_l}
use Rattle.std.proofs.lemmas.Nat.Bits.{bit_at-zero, bit_at-lt, bit_at_and, bit_at_ones, bit_at_ones_above}
use Rattle.std.proofs.lemmas.Bool.{cases_lt, cases_eq}
use Rattle.kb_bits.specs.declared.bit_board.TheConstants.{BOUND, WORDS, LAST_WORD}
use Rattle.kb_bits.specs.Words.{bit_of, members, AreWordsOf, IsJoined}
use Rattle.kb_bits.specs.WordLaws.{bit_of-place, member_from_bit, bit_from_member}
use Rattle.kb_bits.proofs.OneBit.{word-same, word-other}
use Rattle.kb_bits.proofs.Readings.{zero_words}

-- ---- word by word

-- the first k words are moved up by skip words and some bits; before is the word before the next
pub record AreMoved (xs words : List ℕ) (skip bits k before : ℕ) : Type 0 where
  pub count : length words ≡ WORDS
  pub fits : (j : ℕ) → slice_index words j < 2 ^ 64
  pub below : (j : ℕ) → j < skip → slice_index words j ≡ 0
  pub moved : (j : ℕ) → j < k → IsJoined (slice_index xs j) (slice_index (0 ∷ xs) j) bits (slice_index words (skip + j))
  pub others : (j : ℕ) → skip + k ≤ j → slice_index words j ≡ 0
  pub before_is : before ≡ slice_index (0 ∷ xs) k

pub AreMoved-start : (xs : List ℕ) (skip bits : ℕ) → AreMoved xs (replicate WORDS 0) skip bits 0 0
AreMoved-start xs skip bits = record {
  count = length-replicate {A = ℕ} WORDS 0;
  fits = λ j. rw (zero_words WORDS j) (omega arith);
  below = λ j lt. zero_words WORDS j;
  moved = λ j lt. absurd (omega arith);
  others = λ j le. zero_words WORDS j;
  before_is = refl;
}

module _ (xs words : List ℕ) (skip bits k before : ℕ) (so_far : AreMoved xs words skip bits k before) (word next : ℕ) (is : word ≡ slice_index xs k) (joined_word : IsJoined word before bits next) (fits : next < 2 ^ 64) (room : skip + k < WORDS) where
  within : skip + k < length words
  within = omega (arith, so_far.count)

  moved_here : IsJoined (slice_index xs k) (slice_index (0 ∷ xs) k) bits (slice_index (set words (skip + k) next) (skip + k))
  moved_here = rw (word-same words (skip + k) next within (skip + k) refl, ← is, ← so_far.before_is) joined_word

  pub AreMoved-more : AreMoved xs (set words (skip + k) next) skip bits (k + 1) word
  AreMoved-more = record {
    count = length-set words (skip + k) next ∙ so_far.count;
    fits = λ j. elim (cases_eq j (skip + k)) [
      | inl same ↦ rw (word-same words (skip + k) next within j same) fits
      | inr other ↦ rw (word-other words (skip + k) next within j other) (so_far.fits j)
    ];
    below = λ j lt. word-other words (skip + k) next within j (λ e. omega arith) ∙ so_far.below j lt;
    moved = λ j lt. elim (cases_eq j k) [
      | inl same ↦ rw same moved_here
      | inr other ↦ rw (word-other words (skip + k) next within (skip + j) (λ e. other (omega arith))) (so_far.moved j (omega arith))
    ];
    others = λ j le. word-other words (skip + k) next within j (λ e. omega arith) ∙ so_far.others j (omega arith);
    before_is = let e : k + 1 ≡ suc k = omega arith in rw e is;
  }

-- ---- all words

-- every word that has room is moved up, and those from an end on are 0
pub record IsMoved (xs words : List ℕ) (skip bits end : ℕ) : Type 0 where
  pub count : length words ≡ WORDS
  pub fits : (j : ℕ) → slice_index words j < 2 ^ 64
  pub below : (j : ℕ) → j < skip → slice_index words j ≡ 0
  pub moved : (j : ℕ) → skip + j < WORDS → IsJoined (slice_index xs j) (slice_index (0 ∷ xs) j) bits (slice_index words (skip + j))
  pub others : (j : ℕ) → end ≤ j → slice_index words j ≡ 0

IsJoined-zero : (bits : ℕ) → IsJoined 0 0 bits 0
IsJoined-zero bits = record {
  high = λ i lt. bit_at-zero (i + bits) ∙ sym (bit_at-zero i);
  low = λ i j lt e. bit_at-zero i ∙ sym (bit_at-zero j);
}

module _ (xs : List ℕ) (used : ℕ) (held : AreWordsOf xs used) (words : List ℕ) (skip bits k before : ℕ) (so_far : AreMoved xs words skip bits k before) where
  -- behind the words in use
  moved_behind : (j : ℕ) → used < j → k ≤ j → IsJoined (slice_index xs j) (slice_index (0 ∷ xs) j) bits (slice_index words (skip + j))
  moved_behind zero lt le = absurd (omega arith)
  moved_behind (suc j) lt le = rw (held.behind (suc j) (omega arith), held.behind j (omega arith), so_far.others (skip + suc j) (omega arith)) (IsJoined-zero bits)

  -- one more than the words in use were moved
  pub IsMoved-in_use : used < k → IsMoved xs words skip bits (skip + k)
  IsMoved-in_use lt = record {
    count = so_far.count;
    fits = so_far.fits;
    below = so_far.below;
    moved = λ j room. elim (cases_lt j k) [
      | inl before' ↦ so_far.moved j before'
      | inr from ↦ moved_behind j (omega arith) from
    ];
    others = so_far.others;
  }

  -- there is no room for more
  pub IsMoved-room : WORDS ≤ skip + k → IsMoved xs words skip bits (skip + k)
  IsMoved-room full = record {
    count = so_far.count;
    fits = so_far.fits;
    below = so_far.below;
    moved = λ j room. so_far.moved j (omega arith);
    others = so_far.others;
  }

-- ---- bit by bit

module _ (xs words : List ℕ) (skip bits end by : ℕ) (narrow : bits < 64) (at : skip * 64 + bits ≡ by) (whole : IsMoved xs words skip bits end) where
  -- a number whose bit stays in its word
  same_word : (n : ℕ) → n % 64 + bits < 64 → n + by < 64 * WORDS → bit_of words (n + by) ≡ bit_of xs n
  same_word n low lt =
      bit_of-place words (skip + n / 64) (n % 64 + bits) (n + by) low (omega arith)
      ∙ (whole.moved (n / 64) (omega arith)).high (n % 64) low

  -- a number whose bit goes to the next word
  next_word : (n : ℕ) → 64 ≤ n % 64 + bits → n + by < 64 * WORDS → bit_of words (n + by) ≡ bit_of xs n
  next_word n high lt =
      bit_of-place words (skip + suc (n / 64)) (n % 64 + bits - 64) (n + by) (omega arith) (omega arith)
      ∙ (whole.moved (suc (n / 64)) (omega arith)).low (n % 64 + bits - 64) (n % 64) (omega arith) (omega arith)

  pub bit-moved : (n : ℕ) → n + by < 64 * WORDS → bit_of words (n + by) ≡ bit_of xs n
  bit-moved n lt = elim (cases_lt (n % 64 + bits) 64) [ inl low ↦ same_word n low lt | inr high ↦ next_word n high lt ]

  pub bit-before : (m : ℕ) → m < by → m < 64 * WORDS → bit_of words m ≡ 0
  bit-before m lt room =
      elim (cases_lt (m / 64) skip) [
        | inl below ↦ ap (λ (w : ℕ). bit_at w (m % 64)) (whole.below (m / 64) below) ∙ bit_at-zero (m % 64)
        | inr from ↦
            bit_of-place words (skip + 0) (m % 64) m (omega arith) (omega arith)
            ∙ (whole.moved 0 (omega arith)).low (m % 64) (m % 64 + 64 - bits) (omega arith) (omega arith)
            ∙ bit_at-zero (m % 64 + 64 - bits)
      ]

-- ---- without the bits from the bound on

-- the last word with its bits below the bound
abbrev pub cut : List ℕ → List ℕ
cut words = set words (WORDS - 1) (bit_and (slice_index words (WORDS - 1)) LAST_WORD)

last_word-below : (i : ℕ) → 64 * (WORDS - 1) + i < BOUND → bit_at LAST_WORD i ≡ 1
last_word-below i lt = bit_at_ones (BOUND - 64 * (WORDS - 1)) i (omega arith)

last_word-above : (i : ℕ) → BOUND ≤ 64 * (WORDS - 1) + i → bit_at LAST_WORD i ≡ 0
last_word-above i le = bit_at_ones_above (BOUND - 64 * (WORDS - 1)) i (omega arith)

module _ (words : List ℕ) (count : length words ≡ WORDS) where
  inside : WORDS - 1 < length words
  inside = omega arith

  last_bit : (m : ℕ) → m / 64 ≡ WORDS - 1 → bit_of (cut words) m ≡ min (bit_of words m) (bit_at LAST_WORD (m % 64))
  last_bit m e =
      let last = slice_index words (WORDS - 1) in
      ap (λ (w : ℕ). bit_at w (m % 64)) (word-same words (WORDS - 1) (bit_and last LAST_WORD) inside (m / 64) e)
      ∙ bit_at_and last LAST_WORD (m % 64)
      ∙ ap (λ (j : ℕ). min (bit_at (slice_index words j) (m % 64)) (bit_at LAST_WORD (m % 64))) (sym e)

  other_bit : (m : ℕ) → m / 64 ≢ WORDS - 1 → bit_of (cut words) m ≡ bit_of words m
  other_bit m other = ap (λ (w : ℕ). bit_at w (m % 64)) (word-other words (WORDS - 1) (bit_and (slice_index words (WORDS - 1)) LAST_WORD) inside (m / 64) other)

  pub bit-kept : (m : ℕ) → m < BOUND → bit_of (cut words) m ≡ bit_of words m
  bit-kept m lt =
      elim (cases_eq (m / 64) (WORDS - 1)) [
        | inl e ↦ omega (arith, last_bit m e, last_word-below (m % 64) (omega arith), bit_at-lt (slice_index words (m / 64)) (m % 64))
        | inr other ↦ other_bit m other
      ]

  past_bit : (m : ℕ) → WORDS ≤ m / 64 → bit_of words m ≡ 0
  past_bit m le = ap (λ (w : ℕ). bit_at w (m % 64)) (get_or_past words (m / 64) 0 (omega arith)) ∙ bit_at-zero (m % 64)

  pub bit-cut : (m : ℕ) → BOUND ≤ m → bit_of (cut words) m ≡ 0
  bit-cut m le =
      elim (cases_eq (m / 64) (WORDS - 1)) [
        | inl e ↦ omega (arith, last_bit m e, last_word-above (m % 64) (omega arith))
        | inr other ↦ other_bit m other ∙ past_bit m (omega arith)
      ]

  cut-le : (j : ℕ) → slice_index (cut words) j ≤ slice_index words j
  cut-le j =
      let last = slice_index words (WORDS - 1) in
      elim (cases_eq j (WORDS - 1)) [
        | inl e ↦ rw (word-same words (WORDS - 1) (bit_and last LAST_WORD) inside j e, e) (and_le_l last LAST_WORD)
        | inr other ↦ rw (word-other words (WORDS - 1) (bit_and last LAST_WORD) inside j other) (omega arith)
      ]

-- ---- the shifted set

module _ (xs : List ℕ) (used : ℕ) (held : AreWordsOf xs used) (words : List ℕ) (skip bits end by now : ℕ) (narrow : bits < 64) (at : skip * 64 + bits ≡ by) (whole : IsMoved xs words skip bits end) (room : end ≤ WORDS) where
  pub AreWords-cut : now ≤ end → ((j : ℕ) → now ≤ j → j < end → slice_index (cut words) j ≡ 0) → ((j : ℕ) → j + 1 ≡ now → 0 < slice_index (cut words) j) → AreWordsOf (cut words) now
  AreWords-cut fewer zeros last = record {
    count = length-set words (WORDS - 1) (bit_and (slice_index words (WORDS - 1)) LAST_WORD) ∙ whole.count;
    fits = λ j. omega (arith, cut-le words whole.count j, whole.fits j);
    room = omega arith;
    behind = λ j le. elim (cases_lt j end) [
      | inl lt ↦ zeros j le lt
      | inr from ↦ omega (arith, cut-le words whole.count j, whole.others j from)
    ];
    last = last;
    bounded = bit-cut words whole.count;
  }

  -- a member comes from the member that is `by` less
  shifted_from : (m : ℕ) → bit_of (cut words) m ≡ 1 → (by ≤ m) × (m < BOUND)
  shifted_from m one =
      let below : m < BOUND = elim (cases_lt m BOUND) [ inl lt ↦ lt | inr le ↦ absurd (omega (arith, bit-cut words whole.count m le)) ] in
      let same = bit-kept words whole.count m below in
      let from : by ≤ m = elim (cases_lt m by) [
        | inr le ↦ le
        | inl lt ↦ absurd (omega (arith, bit-before xs words skip bits end by narrow at whole m lt (omega arith)))
      ] in
      (from, below)

  shifted_bit : (k m : ℕ) → m ≡ k + by → m < BOUND → bit_of (cut words) m ≡ bit_of xs k
  shifted_bit k m e lt = rw e (bit-kept words whole.count (k + by) (omega arith) ∙ bit-moved xs words skip bits end by narrow at whole k (omega arith))

  pub members-shifted : (m : ℕ) → Contains (members (cut words)) m ↔ ((k : ℕ) × Contains (members xs) k × (m ≡ k + by) × (m < BOUND))
  members-shifted m = (
    λ h.
        let one = bit_from_member (cut words) m h in
        let in' = shifted_from m one in
        let e : m ≡ m - by + by = omega arith in
        (m - by, member_from_bit xs held.bounded (m - by) (sym (shifted_bit (m - by) m e in'.1) ∙ one), e, in'.1),
    λ h. member_from_bit (cut words) (bit-cut words whole.count) m (shifted_bit h.0 m h.2 h.3 ∙ bit_from_member xs h.0 h.1),
  )

-- ---- the code's last steps

-- whether one word more is joined behind the loop
pub IsMoved-more : (xs : List ℕ) (used : ℕ) (held : AreWordsOf xs used) (words : List ℕ) (skip bits k before next : ℕ) → AreMoved xs words skip bits k before → k ≡ min used (WORDS - skip) → IsJoined 0 before bits next → next < 2 ^ 64 → skip + k < WORDS → IsMoved xs (set words (skip + k) next) skip bits (skip + k + 1)
IsMoved-more xs used held words skip bits k before next so_far kept joined_word fits room =
    let more = AreMoved-more xs words skip bits k before so_far 0 next (sym (held.behind k (omega arith))) joined_word fits room in
    let e : skip + (k + 1) ≡ skip + k + 1 = omega arith in
    rw e at (IsMoved-in_use xs used held (set words (skip + k) next) skip bits (k + 1) 0 more (omega arith))
