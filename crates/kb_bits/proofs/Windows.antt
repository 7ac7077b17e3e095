-- The bits of a window: each tells whether a number is a member.
use Rattle.std.proofs.Common.{◌≡◌, ℕ, ◌+◌, ◌-◌, ◌*◌, ◌/◌, ◌%◌, ◌<◌, ◌↔◌, inl, inr, List, slice_index, sym, ap, ◌∙◌, arith, Contains}
use Rattle.std.specs.Int.{bit_at}
use Rattle.std.proofs.lemmas.Bool.{cases_lt}
use Rattle.kb_bits.specs.Words.{bit_of, members, AreWordsOf, IsJoined}
use Rattle.kb_bits.specs.WordLaws.{bit_of-place, member_from_bit, bit_from_member}

module _ (words : List ℕ) (used start : ℕ) (held : AreWordsOf words used) where
  -- a bit that is that of a number tells whether the number is a member
  told_by_bit : (n b : ℕ) → b ≡ bit_of words n → (b ≡ 1) ↔ Contains (members words) n
  told_by_bit n b e = (λ t. member_from_bit words held.bounded n (sym e ∙ t), λ h. e ∙ bit_from_member words n h)

  -- where the window begins with a word, it is that word
  pub window_at_word : (w first : ℕ) → first ≡ start / 64 → w ≡ slice_index words first → start % 64 ≡ 0 →
      (k : ℕ) → k < 64 → (bit_at w k ≡ 1) ↔ Contains (members words) (start + k)
  window_at_word w first at is none k lt =
      let number : start + k ≡ first * 64 + k = omega arith in
      told_by_bit (start + k) (bit_at w k) (ap (λ (v : ℕ). bit_at v k) is ∙ sym (bit_of-place words first k (start + k) lt number))

  -- Else its low bits are the high ones of one word, and its high bits the low ones of the next.
  pub window_across : (w low high first bits : ℕ) → first ≡ start / 64 → bits ≡ start % 64 → low ≡ slice_index words first → high ≡ slice_index words (first + 1) → IsJoined high low (64 - bits) w →
      (k : ℕ) → k < 64 → (bit_at w k ≡ 1) ↔ Contains (members words) (start + k)
  window_across w low high first bits at rest low_is high_is joined_word k lt =
      told_by_bit (start + k) (bit_at w k) (elim (cases_lt (k + bits) 64) [
        | inl below ↦
            let number : start + k ≡ first * 64 + (k + bits) = omega arith in
            joined_word.low k (k + bits) (omega arith) (omega arith)
            ∙ ap (λ (v : ℕ). bit_at v (k + bits)) low_is
            ∙ sym (bit_of-place words first (k + bits) (start + k) below number)
        | inr above ↦
            let i = k + bits - 64 in
            let number : start + k ≡ (first + 1) * 64 + i = omega arith in
            let here : k ≡ i + (64 - bits) = omega arith in
            ap (λ (j : ℕ). bit_at w j) here
            ∙ joined_word.high i (omega arith)
            ∙ ap (λ (v : ℕ). bit_at v i) high_is
            ∙ sym (bit_of-place words (first + 1) i (start + k) (omega arith) number)
      ])
