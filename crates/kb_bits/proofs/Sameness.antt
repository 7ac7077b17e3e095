-- Two sets are equal just where their words are.
use Rattle.std.proofs.Common.{◌≡◌, ℕ, ◌+◌, ◌*◌, ◌≤◌, ◌<◌, inl, inr, Bool, true, false, List, zero, suc, slice_index, nat_eq, ◌↔◌, IsTrue, refl, sym, ap, ◌∙◌, subst, arith, ext_get_or, Contains}
use Rattle.std.specs.Cmp.Lexicographic.{pointwise}
use Rattle.std.proofs.lemmas.Nat.Bits.{bit_at-lt, same_from_bits_below}
use Rattle.std.proofs.lemmas.Slice.Eq.{bytes_eq-Decides}
use Rattle.std.proofs.lemmas.Bool.{false≢true, cases_lt}
use Rattle.std.proofs.lemmas.Bool.Decides.{same_from_decides}
use Rattle.kb_bits.specs.Words.{bit_of, members, AreWordsOf}
use Rattle.kb_bits.specs.WordLaws.{bit_of-place, member_from_bit, bit_from_member}

-- two bits are the same where the one is set just where the other is
same_bits : (a b : ℕ) → a < 2 → b < 2 → (a ≡ 1 → b ≡ 1) → (b ≡ 1 → a ≡ 1) → a ≡ b
same_bits zero zero _ _ _ _ = refl
same_bits zero (suc b) _ lt _ back = let h = back (omega arith) in omega arith
same_bits (suc a) b lt _ forth _ = let h = forth (omega arith) in omega arith

module _ (xs ys : List ℕ) (m n : ℕ) (first : AreWordsOf xs m) (second : AreWordsOf ys n) where
  bit_same : members xs ≡ members ys → (k : ℕ) → bit_of xs k ≡ bit_of ys k
  bit_same e k =
      same_bits (bit_of xs k) (bit_of ys k) (bit_at-lt _ _) (bit_at-lt _ _)
      (λ h. bit_from_member ys k (subst (λ (ms : List ℕ). Contains ms k) e
      (member_from_bit xs first.bounded k h)))
      (λ h. bit_from_member xs k (subst (λ (ms : List ℕ). Contains ms k) (sym e)
      (member_from_bit ys second.bounded k h)))

  pub word_with_bits : members xs ≡ members ys → (k : ℕ) → slice_index xs k ≡ slice_index ys k
  word_with_bits e k =
      same_from_bits_below 64 (slice_index xs k) (slice_index ys k) (first.fits k) (second.fits k)
      (λ i lt. sym (bit_of-place xs k i (k * 64 + i) lt refl) ∙ bit_same e (k * 64 + i)
      ∙ bit_of-place ys k i (k * 64 + i) lt refl)

  word_same : m ≡ n → ((j : ℕ) → j < m → slice_index xs j ≡ slice_index ys j) → (j : ℕ) → slice_index xs j ≡ slice_index ys j
  word_same e same j =
      elim (cases_lt j m) [
        | inl lt ↦ same j lt
        | inr le ↦ first.behind j le ∙ sym (second.behind j (omega arith))
      ]

  -- as many words are in use, and these are the same
  pub same_members : m ≡ n → ((j : ℕ) → j < m → slice_index xs j ≡ slice_index ys j) → members xs ≡ members ys
  same_members e same = ap members (ext_get_or 0 xs ys (omega (arith, first.count, second.count)) (λ j lt. word_same e same j))

-- no more words are in use than of a set with the same words
counts_le : (xs ys : List ℕ) (m n : ℕ) → AreWordsOf xs m → AreWordsOf ys n
    → ((k : ℕ) → slice_index xs k ≡ slice_index ys k) → m ≤ n
counts_le xs ys zero n first second same = omega arith
counts_le xs ys (suc k) n first second same =
    elim (cases_lt k n) [
      | inl lt ↦ omega arith
      | inr le ↦ absurd (omega (arith, first.last k (omega arith), second.behind k le, same k))
    ]

pub same_counts : (xs ys : List ℕ) (m n : ℕ) → AreWordsOf xs m → AreWordsOf ys n
    → members xs ≡ members ys → m ≡ n
same_counts xs ys m n first second e =
    let same = word_with_bits xs ys m n first second e in
    omega (
      arith,
      counts_le xs ys m n first second same,
      counts_le ys xs n m second first (λ k. sym (same k)),
    )

-- a test tells whether two lists are equal
pub record TellsSame (xs ys : List ℕ) (answer : Bool) : Type 0 where
  pub value : answer ≡ pointwise nat_eq xs ys
  pub same : IsTrue answer ↔ (xs ≡ ys)

pub TellsSame-true : (xs ys : List ℕ) → xs ≡ ys → TellsSame xs ys true
TellsSame-true xs ys e = record {
  value = same_from_decides true (pointwise nat_eq xs ys) (λ _. e, λ _. refl) (bytes_eq-Decides xs ys);
  same = (λ _. e, λ _. refl);
}

pub TellsSame-false : (xs ys : List ℕ) → (xs ≡ ys → ⊥) → TellsSame xs ys false
TellsSame-false xs ys ne = record {
  value = same_from_decides false (pointwise nat_eq xs ys) (λ t. absurd (false≢true t), λ e. absurd (ne e)) (bytes_eq-Decides xs ys);
  same = (λ t. absurd (false≢true t), λ e. absurd (ne e));
}
