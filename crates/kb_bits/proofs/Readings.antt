-- What is read of a set by its words: whether a number is a member.
use Rattle.std.proofs.Common.{◌≡◌, ℕ, ◌/◌, ◌%◌, ◌^◌, ◌≤◌, ◌↔◌, inl, inr, nat_eq, nat_lt, IsTrue, List, [], ◌∷◌, length, replicate, slice_index, refl, sym, ap, ◌∙◌, arith, Contains, bit_and}
use Rattle.std.specs.Int.{bit_at}
use Rattle.std.proofs.lemmas.List.{get_or-replicate, get_or_past, length-replicate}
use Rattle.std.proofs.lemmas.Nat.Bits.{bit_at-zero, shr_and_one}
use Rattle.std.proofs.lemmas.Bool.{cases_lt, ltb-true, eqb-true, eq-eqb}
use Rattle.kb_bits.specs.declared.bit_board.TheConstants.{WORDS}
use Rattle.kb_bits.specs.Words.{bit_of, members, AreWordsOf}
use Rattle.kb_bits.specs.MemberLaws.{Contains-head}
use Rattle.kb_bits.specs.WordLaws.{member_from_bit, bit_from_member}

-- a number of a word that is 0 isn't a member
pub no_member : (words : List ℕ) (n : ℕ) → slice_index words (n / 64) ≡ 0 → Contains (members words) n → ⊥
no_member words n none h =
    let bit = bit_from_member words n h in
    let no_bit = ap (λ (w : ℕ). bit_at w (n % 64)) none ∙ bit_at-zero (n % 64) in
    omega arith

nil_from_no_member : (xs : List ℕ) → ((m : ℕ) → Contains xs m → ⊥) → xs ≡ []
nil_from_no_member [] none = refl
nil_from_no_member (x ∷ xs) none = absurd (none x (Contains-head x xs))

-- each of the words is 0
pub zero_words : (n k : ℕ) → slice_index (replicate n 0) k ≡ 0
zero_words n k = elim (cases_lt k n) [ inl lt ↦ get_or-replicate n k 0 0 lt | inr le ↦ get_or_past (replicate n 0) k 0 (simp length-replicate le) ]

-- no word has a bit
pub members-none : (words : List ℕ) → ((k : ℕ) → slice_index words k ≡ 0) → members words ≡ []
members-none words none = nil_from_no_member (members words) (λ m h. no_member words m (none (m / 64)) h)

-- words that are 0 are those of the empty set
pub AreWords-zero : (words : List ℕ) → length words ≡ WORDS → ((k : ℕ) → slice_index words k ≡ 0) → AreWordsOf words 0
AreWords-zero words count zero = record {
  count = count;
  fits = λ k. rw (zero k) (omega arith);
  room = omega arith;
  behind = λ k le. zero k;
  last = λ k e. absurd (omega arith);
  bounded = λ n le. ap (λ (w : ℕ). bit_at w (n % 64)) (zero (n / 64)) ∙ bit_at-zero (n % 64);
}

pub AreWords-none : AreWordsOf (replicate WORDS 0) 0
AreWords-none = AreWords-zero (replicate WORDS 0) (length-replicate {A = ℕ} WORDS 0) (zero_words WORDS)

module _ (words : List ℕ) (used n k : ℕ) (held : AreWordsOf words used) (at : k ≡ n / 64) where
  -- the bit that the code reads
  read : bit_and (slice_index words k / 2 ^ (n % 64)) 1 ≡ bit_of words n
  read = shr_and_one (slice_index words k) (n % 64) ∙ ap (λ (j : ℕ). bit_at (slice_index words j) (n % 64)) at

  pub contains-bit : IsTrue (nat_eq (bit_and (slice_index words k / 2 ^ (n % 64)) 1) 1) ↔ Contains (members words) n
  contains-bit = (
    λ t. member_from_bit words held.bounded n (sym read ∙ eqb-true (bit_and (slice_index words k / 2 ^ (n % 64)) 1) 1 t),
    λ h. eq-eqb (bit_and (slice_index words k / 2 ^ (n % 64)) 1) 1 (read ∙ bit_from_member words n h),
  )

  pub contains-behind : used ≤ k → IsTrue (nat_lt k used) ↔ Contains (members words) n
  contains-behind le = (
    λ t. absurd (omega (arith, ltb-true k used t)),
    λ h. absurd (no_member words n (held.behind (n / 64) (omega arith)) h),
  )
