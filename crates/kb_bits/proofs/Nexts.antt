-- The least member from a number on, by the lowest bit of the first word that has one there.
use Rattle.std.proofs.Common.{◌≡◌, ℕ, ◌+◌, ◌-◌, ◌*◌, ◌/◌, ◌%◌, ◌^◌, ◌<◌, ◌≤◌, inl, inr, List, slice_index, sym, ap, ◌∙◌, arith, Contains}
use Rattle.std.specs.Int.{bit_at, w64, trailing_zeros}
use Rattle.std.proofs.lemmas.Nat.{shr_le}
use Rattle.std.proofs.lemmas.Nat.Bits.{bit_at-zero, bit_at_above, bit_at-trailing_zeros}
use Rattle.std.proofs.lemmas.Bool.{cases_lt}
use Rattle.kb_bits.specs.Members.{IsNextFrom}
use Rattle.kb_bits.specs.Words.{members, AreWordsOf}
use Rattle.kb_bits.specs.WordLaws.{bit_of-place, member_from_bit, bit_from_member}
use Rattle.kb_bits.proofs.JoinedWords.{bit_at-shr}
use Rattle.kb_bits.proofs.Readings.{no_member}

module _ (words : List ℕ) (used n first : ℕ) (held : AreWordsOf words used) (at : first ≡ n / 64) where
  -- no word from that of the number on is in use
  pub none-behind : used ≤ first → (m : ℕ) → Contains (members words) m → m < n
  none-behind le m h =
      elim (cases_lt (m / 64) first) [
        | inl lt ↦ omega arith
        | inr from ↦ absurd (no_member words m (held.behind (m / 64) (omega arith)) h)
      ]

  -- a member of the number's own word, from the number on, has a bit in what is left of that word
  bit_left : (m : ℕ) → Contains (members words) m → n ≤ m → m / 64 ≡ first → bit_at (slice_index words first / 2 ^ (n % 64)) (m - n) ≡ 1
  bit_left m h le same =
      let place : n % 64 + (m - n) ≡ m % 64 = omega arith in
      bit_at-shr (slice_index words first) (n % 64) (m - n) ∙ ap (λ (i : ℕ). bit_at (slice_index words first) i) place ∙ ap (λ (j : ℕ). bit_at (slice_index words j) (m % 64)) (sym same) ∙ bit_from_member words m h

  module _ (left : ℕ) (is : left ≡ slice_index words first / 2 ^ (n % 64)) where
    -- nothing is left of the number's own word
    pub later : left ≡ 0 → (m : ℕ) → Contains (members words) m → n ≤ m → first < m / 64
    later none m h le =
        elim (cases_lt first (m / 64)) [
          | inl lt ↦ lt
          | inr ge ↦
              let bit = bit_left m h le (omega arith) in
              let no_bit = ap (λ (w : ℕ). bit_at w (m - n)) (sym is ∙ none) ∙ bit_at-zero (m - n) in
              absurd (omega arith)
        ]

    left-lt : left < 2 ^ 64
    left-lt = omega (arith, shr_le (slice_index words first) (n % 64), held.fits first)

    -- the lowest bit of what is left
    pub next-left : 0 < left → (n % 64 + trailing_zeros w64 left < 64) × IsNextFrom (members words) n (n + trailing_zeros w64 left)
    next-left pos =
        let t = trailing_zeros w64 left in
        let lowest = bit_at-trailing_zeros w64 left pos left-lt in
        let bit = sym (bit_at-shr (slice_index words first) (n % 64) t) ∙ ap (λ (w : ℕ). bit_at w t) (sym is) ∙ lowest.1 in
        let narrow : n % 64 + t < 64 = elim (cases_lt (n % 64 + t) 64) [
          | inl lt ↦ lt
          | inr ge ↦ absurd (omega (arith, bit_at_above (slice_index words first) 64 (n % 64 + t) (held.fits first) ge))
        ] in
        let place = bit_of-place words first (n % 64 + t) (n + t) narrow (omega arith) in (
          narrow,
          record {
            member = member_from_bit words held.bounded (n + t) (place ∙ bit);
            from = omega arith;
            least = λ m h le. elim (cases_lt m (n + t)) [
              | inr ge ↦ ge
              | inl lt ↦
                  let one = bit_left m h le (omega arith) in
                  let same = ap (λ (w : ℕ). bit_at w (m - n)) is ∙ one in
                  absurd (omega (arith, lowest.2 (m - n) (omega arith)))
            ];
          },
        )

    module _ (none : left ≡ 0) (k : ℕ) (from : first < k) (passed : (j : ℕ) → first < j → j < k → slice_index words j ≡ 0) where
      -- the member's word isn't one of those passed over
      not_passed : (m : ℕ) → Contains (members words) m → n ≤ m → k ≤ m / 64
      not_passed m h le =
          elim (cases_lt (m / 64) k) [
            | inr ge ↦ ge
            | inl lt ↦ absurd (no_member words m (passed (m / 64) (later none m h le) lt) h)
          ]

      -- the lowest bit of a later word
      pub next-later : 0 < slice_index words k → IsNextFrom (members words) n (64 * k + trailing_zeros w64 (slice_index words k))
      next-later pos =
          let t = trailing_zeros w64 (slice_index words k) in
          let lowest = bit_at-trailing_zeros w64 (slice_index words k) pos (held.fits k) in
          let place = bit_of-place words k t (64 * k + t) lowest.0 (omega arith) in
          record {
            member = member_from_bit words held.bounded (64 * k + t) (place ∙ lowest.1);
            from = omega (arith, lowest.0);
            least = λ m h le. elim (cases_lt m (64 * k + t)) [
              | inr ge ↦ ge
              | inl lt ↦
                  let word : m / 64 ≡ k = omega (arith, not_passed m h le) in
                  let bit = ap (λ (j : ℕ). bit_at (slice_index words j) (m % 64)) (sym word) ∙ bit_from_member words m h in
                  absurd (omega (arith, lowest.2 (m % 64) (omega arith)))
            ];
          }

      -- all words in use were passed over
      pub none-later : used ≤ k → (m : ℕ) → Contains (members words) m → m < n
      none-later le m h =
          elim (cases_lt m n) [
            | inl lt ↦ lt
            | inr ge ↦ absurd (no_member words m (held.behind (m / 64) (omega (arith, not_passed m h ge))) h)
          ]
