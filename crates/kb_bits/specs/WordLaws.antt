-- The bits of a board's words, and what the words say of its members. The board's model cites these
-- lemmas, so they stand here.
use Rattle.std.proofs.Common.{◌≡◌, ℕ, ◌+◌, ◌*◌, ◌/◌, ◌%◌, ◌^◌, ◌<◌, ◌≤◌, ◌⊎◌, inl, inr, List, slice_index, arith, Contains}
use Rattle.std.specs.Int.{bit_at, w64, trailing_zeros}
use Rattle.std.specs.List.Sorted.{IsStrictlyIncreasing}
use Rattle.std.proofs.lemmas.Nat.Bits.{bit_at-trailing_zeros}
use Rattle.std.proofs.lemmas.Bool.{cases_lt, eqb-true, eq-eqb}
use Rattle.kb_bits.specs.declared.bit_board.TheConstants.{BOUND}
use Rattle.kb_bits.specs.Words.{bit_of, has_bit, members}
use Rattle.kb_bits.specs.MemberLaws.{Contains-numbers_below, Contains-from_numbers_below, IsStrictlyIncreasing-numbers_below}

-- the number of a bit of a word
pub place_of : (k i n : ℕ) → i < 64 → n ≡ k * 64 + i → (n / 64 ≡ k) × (n % 64 ≡ i)
place_of k i n lt e = (omega arith, omega arith)

pub bit_of-place : (words : List ℕ) (k i n : ℕ) → i < 64 → n ≡ k * 64 + i →
    bit_of words n ≡ bit_at (slice_index words k) i
bit_of-place words k i n lt e = let p = place_of k i n lt e in rw (p.0, p.1)

-- ---- the members are the numbers below the bound whose bits are set

module _ (words : List ℕ) where
  pub Contains-members : (n : ℕ) → n < BOUND → bit_of words n ≡ 1 → Contains (members words) n
  unfolding members
  Contains-members n lt e = Contains-numbers_below BOUND (has_bit words) n lt
      (eq-eqb (bit_of words n) 1 e)

  pub Contains-from_members : (n : ℕ) → Contains (members words) n →
      (n < BOUND) × (bit_of words n ≡ 1)
  unfolding members
  Contains-from_members n h =
      let k = Contains-from_numbers_below BOUND (has_bit words) n h in
      (k.0, eqb-true (bit_of words n) 1 k.1)

  pub IsStrictlyIncreasing-members : IsStrictlyIncreasing (members words)
  unfolding members
  IsStrictlyIncreasing-members = IsStrictlyIncreasing-numbers_below BOUND (has_bit words)

bit_below : (words : List ℕ) → ((n : ℕ) → BOUND ≤ n → bit_of words n ≡ 0) → (n : ℕ) →
    bit_of words n ≡ 1 → (n < BOUND) ⊎ (BOUND ≤ n) → Contains (members words) n
bit_below words bounded n e (inl lt) = Contains-members words n lt e
bit_below words bounded n e (inr le) = absurd (omega (arith, bounded n le))

-- where no bit stands from the bound on, the members are the numbers whose bits are set
pub member_from_bit : (words : List ℕ) → ((n : ℕ) → BOUND ≤ n → bit_of words n ≡ 0) → (n : ℕ) →
    bit_of words n ≡ 1 → Contains (members words) n
member_from_bit words bounded n e = bit_below words bounded n e (cases_lt n BOUND)

pub bit_from_member : (words : List ℕ) (n : ℕ) → Contains (members words) n → bit_of words n ≡ 1
bit_from_member words n h = (Contains-from_members words n h).1

-- a word that isn't 0 has a bit
pub word_has_bit : (word : ℕ) → 0 < word → word < 2 ^ 64 → (i : ℕ) × (i < 64) × (bit_at word i ≡ 1)
word_has_bit word pos lt =
    let h = bit_at-trailing_zeros w64 word pos lt in
    (trailing_zeros w64 word, h.0, h.1)
