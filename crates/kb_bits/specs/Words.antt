-- How the words of a set hold its members. These words mirror the fields, which no public clause
-- names.
use Rattle.std.specs.Prelude.{◌≡◌, ℕ, ◌+◌, ◌/◌, ◌%◌, ◌^◌, ◌<◌, ◌≤◌, ◌==◌, List, Bool, length, slice_index}
use Rattle.std.specs.Int.{bit_at}
use Rattle.kb_bits.specs.declared.bit_board.TheConstants.{BOUND, WORDS}
use Rattle.kb_bits.specs.Members.{numbers_below}

-- number n stands at bit n % 64 of word n / 64
abbrev pub bit_of : List ℕ → ℕ → ℕ
bit_of words n = bit_at (slice_index words (n / 64)) (n % 64)

-- the bit of the number is set
abbrev pub has_bit : List ℕ → ℕ → Bool
has_bit words n = bit_of words n == 1

-- the numbers below the bound whose bits are set, ascending
unfoldable pub members : List ℕ → List ℕ
members words = numbers_below BOUND (has_bit words)

-- The words of a set, of which the first used are in use: the last of these has a member, and those
-- behind have none. No bit stands from the bound on.
pub record AreWordsOf (words : List ℕ) (used : ℕ) : Type 0 where
  pub count : length words ≡ WORDS
  pub fits : (k : ℕ) → slice_index words k < 2 ^ 64
  pub room : used ≤ WORDS
  pub behind : (k : ℕ) → used ≤ k → slice_index words k ≡ 0
  pub last : (k : ℕ) → k + 1 ≡ used → 0 < slice_index words k
  pub bounded : (n : ℕ) → BOUND ≤ n → bit_of words n ≡ 0

-- a word moved up by some bits, with the highest bits of the word before it below
pub record IsJoined (word before bits joined_word : ℕ) : Type 0 where
  pub high : (i : ℕ) → i + bits < 64 → bit_at joined_word (i + bits) ≡ bit_at word i
  pub low : (i j : ℕ) → i < bits → j + bits ≡ i + 64 → bit_at joined_word i ≡ bit_at before j
