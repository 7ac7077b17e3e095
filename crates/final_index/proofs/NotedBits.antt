-- A game gains its bit in the words of the members of a set, word by word.
use Rattle.std.proofs.Common.{◌≡◌, ℕ, ◌+◌, ◌-◌, ◌*◌, ◌/◌, ◌%◌, ◌^◌, ◌<◌, ◌≤◌, ◌⊎◌, ◌↔◌, inl, inr, List, length, set, slice_index, refl, sym, ap, ◌∙◌, subst, arith, Contains, bit_or}
use Rattle.std.specs.Int.{bit_at, w64, trailing_zeros}
use Rattle.std.proofs.lemmas.List.{get_or-set_same, get_or-set_other, length-set}
use Rattle.std.proofs.lemmas.Nat.{shr-shr, shr_le}
use Rattle.std.proofs.lemmas.Nat.Bits.{bit_at_above, bit_at_set_same, bit_at_set_other, bit_at-trailing_zeros, bit_at-zero}
use Rattle.std.proofs.lemmas.Bool.{cases_lt, cases_eq}
use Rattle.kb_geometry.specs.declared.stone.Cell.{Cell}
use Rattle.kb_geometry.specs.declared.stone.Cell.TheVariants as cell
use Rattle.final_index.specs.declared.ever_sets.EverSets.{EverSets}
use Rattle.final_index.specs.Ever.{set_of}
use Rattle.final_index.specs.PlaneWords.{AreNoted, AreSetsNoted, HaveGained, IsBehind, IsWordIn, start_of}

-- ---- one word is replaced

module _ (words : List ℕ) (k word : ℕ) (inside : k < length words) where
  word-same : (j : ℕ) → j ≡ k → slice_index (set words k word) j ≡ word
  word-same j e = rw e (get_or-set_same words k word 0 inside)

  word-other : (j : ℕ) → (j ≡ k → ⊥) → slice_index (set words k word) j ≡ slice_index words j
  word-other j other = get_or-set_other words k j word 0 other

-- ---- one word gains the bit of a game

module _ (P Q : ℕ → Type 0) (g : ℕ) (before words : List ℕ) (so_far : HaveGained P g before words) (at : ℕ) (within : at < length words) (narrow : g < 64) (kept : (k : ℕ) → P k → Q k) (here_too : Q at) (only : (k : ℕ) → Q k → P k ⊎ (k ≡ at)) where
  abbrev pub word : ℕ
  word = bit_or (slice_index words at) (1 * 2 ^ g % 2 ^ 64)

  forth : (k i : ℕ) → (bit_at (slice_index (set words at word) k) i ≡ 1) → (bit_at (slice_index before k) i ≡ 1) ⊎ ((i ≡ g) × Q k)
  forth k i one =
      elim (cases_eq k at) [
        | inl here ↦ elim (cases_eq i g) [
          | inl bit ↦ inr (bit, subst Q (sym here) here_too)
          | inr other ↦
              let w = ap (λ (w : ℕ). bit_at w i) (word-same words at word within k here) ∙ bit_at_set_other w64 (slice_index words at) g narrow i other in
              let same = ap (λ (j : ℕ). bit_at (slice_index words j) i) here in
              elim ((so_far.bits k i).0 (same ∙ sym w ∙ one)) [
                | inl was ↦ inl was
                | inr now ↦ inr (now.0, kept k now.1)
              ]
        ]
        | inr other ↦
            let w = ap (λ (w : ℕ). bit_at w i) (word-other words at word within k other) in
            elim ((so_far.bits k i).0 (sym w ∙ one)) [
              | inl was ↦ inl was
              | inr now ↦ inr (now.0, kept k now.1)
            ]
      ]

  -- a bit that was there stays
  stays : (k i : ℕ) → bit_at (slice_index words k) i ≡ 1 → bit_at (slice_index (set words at word) k) i ≡ 1
  stays k i one =
      elim (cases_eq k at) [
        | inl here ↦
            let w = ap (λ (w : ℕ). bit_at w i) (word-same words at word within k here) in
            elim (cases_eq i g) [
              | inl bit ↦ w ∙ ap (λ (j : ℕ). bit_at word j) bit ∙ bit_at_set_same w64 (slice_index words at) g narrow
              | inr other ↦ w ∙ bit_at_set_other w64 (slice_index words at) g narrow i other ∙ ap (λ (j : ℕ). bit_at (slice_index words j) i) (sym here) ∙ one
            ]
        | inr other ↦ ap (λ (w : ℕ). bit_at w i) (word-other words at word within k other) ∙ one
      ]

  gained : (k i : ℕ) → i ≡ g → k ≡ at → bit_at (slice_index (set words at word) k) i ≡ 1
  gained k i bit here =
      ap (λ (w : ℕ). bit_at w i) (word-same words at word within k here) ∙ ap (λ (j : ℕ). bit_at word j) bit ∙ bit_at_set_same w64 (slice_index words at) g narrow

  pub HaveGained-more : HaveGained Q g before (set words at word)
  HaveGained-more = record {
    room = length-set words at word ∙ so_far.room;
    bits = λ k i. (
      forth k i,
      λ h. elim h [
        | inl was ↦ stays k i ((so_far.bits k i).1 (inl was))
        | inr now ↦ elim (only k now.1) [
          | inl earlier ↦ stays k i ((so_far.bits k i).1 (inr (now.0, earlier)))
          | inr last ↦ gained k i now.0 last
        ]
      ],
    );
  }

-- ---- the bits of a word, one after another

bit_at-shr : (n s i : ℕ) → bit_at (n / 2 ^ s) i ≡ bit_at n (s + i)
bit_at-shr n s i = ap (λ (m : ℕ). m % 2) (shr-shr n s i)

module _ (bits from rest : ℕ) (fits : bits < 2 ^ 64) (is : rest ≡ bits / 2 ^ from) where
  -- the next bit of a word, and none before it
  pub record IsNextBit (at : ℕ) : Type 0 where
    pub below : at < 64
    pub from_on : from ≤ at
    pub there : bit_at bits at ≡ 1
    pub first : (j : ℕ) → from ≤ j → j < at → bit_at bits j ≡ 0

  pub next_bit-found : 0 < rest → IsNextBit (from + trailing_zeros w64 rest)
  next_bit-found some =
      let t = trailing_zeros w64 rest in
      let less : rest < 2 ^ 64 = omega (arith, is, shr_le bits from, fits) in
      let lowest = bit_at-trailing_zeros w64 rest some less in
      let seen : (j : ℕ) → bit_at rest j ≡ bit_at bits (from + j) = λ j. ap (λ (n : ℕ). bit_at n j) is ∙ bit_at-shr bits from j in
      let there : bit_at bits (from + t) ≡ 1 = sym (seen t) ∙ lowest.1 in
      record {
        below = elim (cases_lt (from + t) 64) [
          | inl lt ↦ lt
          | inr ge ↦ absurd (omega (arith, there, bit_at_above bits 64 (from + t) fits ge))
        ];
        from_on = omega arith;
        there = there;
        first = λ j ge lt.
            let at : from + (j - from) ≡ j = omega (arith, ge) in
            ap (λ (i : ℕ). bit_at bits i) (sym at) ∙ sym (seen (j - from)) ∙ lowest.2 (j - from) (omega (arith, ge, lt));
      }

  pub next_bit-none : rest ≡ 0 → (j : ℕ) → from ≤ j → bit_at bits j ≡ 0
  next_bit-none none j ge =
      let at : from + (j - from) ≡ j = omega (arith, ge) in
      ap (λ (i : ℕ). bit_at bits i) (sym at) ∙ sym (ap (λ (n : ℕ). bit_at n (j - from)) is ∙ bit_at-shr bits from (j - from)) ∙ ap (λ (m : ℕ). bit_at m (j - from)) none ∙ bit_at-zero (j - from)

  -- the word of the next bit is there
  pub next_bit-within : 0 < rest → (first : ℕ) (before words : List ℕ) → ((k : ℕ) → k < 64 → bit_at bits k ≡ 1 → first + k < length before) → length words ≡ length before → first + (from + trailing_zeros w64 rest) < length words
  next_bit-within some first before words within room =
      let next = next_bit-found some in
      omega (arith, within (from + trailing_zeros w64 rest) next.below next.there, room)

module _ (first bits g : ℕ) (before : List ℕ) where
  pub IsBehind-start : HaveGained (IsBehind first bits 0) g before before
  IsBehind-start = record {
    room = refl;
    bits = λ k i. (
      λ one. inl one,
      λ h. elim h [ inl one ↦ one | inr at ↦ absurd (omega (arith, at.1.1)) ],
    );
  }

  -- the word of the next bit has the game's bit
  pub IsBehind-more : (from rest at : ℕ) (words : List ℕ) → (fits : bits < 2 ^ 64) (is : rest ≡ bits / 2 ^ from) → HaveGained (IsBehind first bits from) g before words → IsNextBit bits from rest fits is at
      → (place : ℕ) → place ≡ first + at → place < length words → g < 64 → HaveGained (IsBehind first bits (at + 1)) g before (set words place (bit_or (slice_index words place) (1 * 2 ^ g % 2 ^ 64)))
  IsBehind-more from rest at words fits is so_far next place there within narrow =
      HaveGained-more (IsBehind first bits from) (IsBehind first bits (at + 1)) g before words so_far place within narrow
      (λ k h. (h.0, omega (arith, h.1, next.from_on), h.2, h.3))
      (at, omega arith, next.there, there)
      (λ k h. elim (cases_lt h.0 at) [
        | inl low ↦ elim (cases_lt h.0 from) [
          | inl before_it ↦ inl (h.0, before_it, h.2, h.3)
          | inr ge ↦ absurd (omega (arith, h.2, next.first h.0 ge low))
        ]
        | inr high ↦ inr (omega (arith, h.1, h.3, high, there))
      ])

  -- no bit is left
  pub IsBehind-end : (from rest : ℕ) (words : List ℕ) → bits < 2 ^ 64 → rest ≡ bits / 2 ^ from → rest ≡ 0 → from ≤ 64 → HaveGained (IsBehind first bits from) g before words → HaveGained (IsBehind first bits 64) g before words
  IsBehind-end from rest words fits is none most so_far = record {
    room = so_far.room;
    bits = λ k i. (
      λ one. elim ((so_far.bits k i).0 one) [
        | inl was ↦ inl was
        | inr now ↦ inr (now.0, (now.1.0, omega (arith, now.1.1, most), now.1.2, now.1.3))
      ],
      λ h. (so_far.bits k i).1 (elim h [
        | inl was ↦ inl was
        | inr now ↦ inr (
          now.0,
          elim (cases_lt now.1.0 from) [
            | inl low ↦ (now.1.0, low, now.1.2, now.1.3)
            | inr ge ↦ absurd (omega (arith, now.1.2, next_bit-none bits from rest fits is none now.1.0 ge))
          ],
        )
      ]),
    );
  }

-- ---- one set, 64 points after 64 points

module _ (points : ℕ) (stone : Cell) (members : List ℕ) (g : ℕ) (before : List ℕ) where
  pub AreNoted-start : AreNoted points 0 stone members g before before
  AreNoted-start = record {
    room = refl;
    bits = λ k i. (
      λ one. inl one,
      λ h. elim h [ inl one ↦ one | inr at ↦ absurd (omega (arith, at.1.1)) ],
    );
  }

  -- the points of one window more
  pub AreNoted-more : (p first bits : ℕ) (words after : List ℕ) → AreNoted points p stone members g before words → first ≡ start_of points stone + p → ((j : ℕ) → j < 64 → (bit_at bits j ≡ 1) ↔ Contains members (p + j))
      → HaveGained (IsBehind first bits 64) g words after → AreNoted points (p + 64) stone members g before after
  AreNoted-more p first bits words after so_far is window gain = record {
    room = gain.room ∙ so_far.room;
    bits = λ k i. (
      λ one. elim ((gain.bits k i).0 one) [
        | inl was ↦ elim ((so_far.bits k i).0 was) [
          | inl first_of_all ↦ inl first_of_all
          | inr now ↦ inr (now.0, (now.1.0, omega (arith, now.1.1), now.1.2, now.1.3))
        ]
        | inr now ↦ inr (now.0, (p + now.1.0, omega (arith, now.1.1), (window now.1.0 now.1.1).0 now.1.2, omega (arith, now.1.3, is)))
      ],
      λ h. (gain.bits k i).1 (elim h [
        | inl was ↦ inl ((so_far.bits k i).1 (inl was))
        | inr now ↦ elim (cases_lt now.1.0 p) [
          | inl low ↦ inl ((so_far.bits k i).1 (inr (now.0, (now.1.0, low, now.1.2, now.1.3))))
          | inr high ↦
              let few : now.1.0 - p < 64 = omega (arith, now.1.1, high) in
              let place : now.1.0 ≡ p + (now.1.0 - p) = omega (arith, high) in
              inr (now.0, (now.1.0 - p, few, (window (now.1.0 - p) few).1 (subst (Contains members) place now.1.2), omega (arith, now.1.3, is, place)))
        ]
      ]),
    );
  }

  -- no point of the set is left
  pub AreNoted-all : (p : ℕ) (words : List ℕ) → AreNoted points p stone members g before words → points ≤ p → ((q : ℕ) → Contains members q → q < points) → AreNoted points points stone members g before words
  AreNoted-all p words so_far all on_board = record {
    room = so_far.room;
    bits = λ k i. (
      λ one. elim ((so_far.bits k i).0 one) [
        | inl was ↦ inl was
        | inr now ↦ inr (now.0, (now.1.0, on_board now.1.0 now.1.2, now.1.2, now.1.3))
      ],
      λ h. (so_far.bits k i).1 (elim h [
        | inl was ↦ inl was
        | inr now ↦ inr (now.0, (now.1.0, omega (arith, now.1.1, all), now.1.2, now.1.3))
      ]),
    );
  }

-- ---- the sets of a game

module _ (points : ℕ) (sets : EverSets) (g : ℕ) (words one two three : List ℕ) (empty : AreNoted points points cell.Empty sets.empty g words one) (black : AreNoted points points cell.Black sets.black g one two) (white : AreNoted points points cell.White sets.white g two three) where
  which : (k i : ℕ) (stone : Cell) → (i ≡ g) → IsWordIn points points stone (set_of sets stone) k → bit_at (slice_index three k) i ≡ 1
  which k i cell.Empty bit at = (white.bits k i).1 (inl ((black.bits k i).1 (inl ((empty.bits k i).1 (inr (bit, at))))))
  which k i cell.Black bit at = (white.bits k i).1 (inl ((black.bits k i).1 (inr (bit, at))))
  which k i cell.White bit at = (white.bits k i).1 (inr (bit, at))

  pub AreSetsNoted-all : AreSetsNoted points sets g words three
  AreSetsNoted-all = record {
    room = white.room ∙ black.room ∙ empty.room;
    bits = λ k i. (
      λ e. elim ((white.bits k i).0 e) [
        | inr now ↦ inr (now.0, (cell.White, now.1))
        | inl was ↦ elim ((black.bits k i).0 was) [
          | inr now ↦ inr (now.0, (cell.Black, now.1))
          | inl earlier ↦ elim ((empty.bits k i).0 earlier) [
            | inr now ↦ inr (now.0, (cell.Empty, now.1))
            | inl first ↦ inl first
          ]
        ]
      ],
      λ h. elim h [
        | inl first ↦ (white.bits k i).1 (inl ((black.bits k i).1 (inl ((empty.bits k i).1 (inl first)))))
        | inr now ↦ which k i now.1.0 now.0 now.1.1
      ],
    );
  }
