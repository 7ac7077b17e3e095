-- How many numbers a set has: the set bits of its words, counted.
use Rattle.std.proofs.Common.{◌≡◌, ℕ, ◌+◌, ◌*◌, ◌/◌, ◌%◌, ◌^◌, ◌<◌, ◌≤◌, Bool, true, false, cond, eqb, List, [], ◌∷◌, ◌++◌, suc, zero, length, slice_index, refl, sym, ap, ◌∙◌, arith, length-append, append-nil, map-id, mod-lt, mod-eq_of_lt, pow_pos}
use Rattle.std.specs.Int.{bit_at}
use Rattle.std.specs.List.{filter, range_with_len}
use lib.Count.{ones, ones_in}
use Rattle.std.proofs.lemmas.Nat.{mod-pow-add, ones_cat}
use Rattle.std.proofs.lemmas.Nat.Bits.{bit_at-zero, bit_at-lt}
use Rattle.std.proofs.lemmas.List.FromFn.{length-range_with_len, filter_of_map_range_with_len_more}
use Rattle.std.proofs.lemmas.List.Sums.{length-filter, count_by-le-length}
use Rattle.std.proofs.lemmas.Bool.{ne_eqb}
use Rattle.kb_bits.specs.declared.bit_board.TheConstants.{BOUND}
use Rattle.kb_bits.specs.Members.{numbers_below}
use Rattle.kb_bits.specs.Words.{bit_of, has_bit, members, AreWordsOf}
use Rattle.kb_bits.specs.WordLaws.{bit_of-place}

-- ---- one number more

pub numbers_below-suc : (n : ℕ) (p : ℕ → Bool) → numbers_below (n + 1) p ≡ numbers_below n p ++ cond (p n) (n ∷ []) []
unfolding numbers_below
numbers_below-suc n p =
    let more = filter_of_map_range_with_len_more p (λ (k : ℕ). k) 0 n n (omega arith) in
    ap (filter p) (sym (map-id (range_with_len 0 (n + 1)))) ∙ more ∙ ap (λ (ks : List ℕ). filter p ks ++ cond (p n) (n ∷ []) []) (map-id (range_with_len 0 n))

length-cond : (b : Bool) (n : ℕ) → length (cond b (n ∷ []) []) ≡ cond b 1 0
length-cond true n = refl
length-cond false n = refl

length-numbers_below-suc : (n : ℕ) (p : ℕ → Bool) → length (numbers_below (n + 1) p) ≡ length (numbers_below n p) + cond (p n) 1 0
length-numbers_below-suc n p =
    ap length (numbers_below-suc n p) ∙ length-append (numbers_below n p) (cond (p n) (n ∷ []) []) ∙ ap (λ (k : ℕ). length (numbers_below n p) + k) (length-cond (p n) n)

-- behind the numbers that pass the bound may stand anywhere
numbers_below-more : (n d : ℕ) (p : ℕ → Bool) → ((m : ℕ) → n ≤ m → p m ≡ false) → numbers_below (n + d) p ≡ numbers_below n p
numbers_below-more n zero p none = ap (λ (k : ℕ). numbers_below k p) (omega arith)
numbers_below-more n (suc d) p none =
    let e : n + suc d ≡ (n + d) + 1 = omega arith in
    ap (λ (k : ℕ). numbers_below k p) e ∙ numbers_below-suc (n + d) p
    ∙ ap (λ (b : Bool). numbers_below (n + d) p ++ cond b ((n + d) ∷ []) []) (none (n + d) (omega arith))
    ∙ append-nil (numbers_below (n + d) p) ∙ numbers_below-more n d p none

pub numbers_below-same : (a b : ℕ) (p : ℕ → Bool) → ((m : ℕ) → a ≤ m → p m ≡ false) → ((m : ℕ) → b ≤ m → p m ≡ false) → numbers_below a p ≡ numbers_below b p
numbers_below-same a b p none_a none_b =
    let e : a + b ≡ b + a = omega arith in
    sym (numbers_below-more a b p none_a) ∙ ap (λ (k : ℕ). numbers_below k p) e ∙ numbers_below-more b a p none_b

-- ---- the set bits of a word

ones_bit : (d : ℕ) → d < 2 → ones d ≡ cond (eqb d 1) 1 0
unfolding ones ones_in
ones_bit zero lt = refl
ones_bit (suc zero) lt = refl
ones_bit (suc (suc d)) lt = absurd (omega arith)

ones-more : (n w : ℕ) → ones (n % 2 ^ (1 + w)) ≡ ones (n % 2 ^ w) + cond (eqb (bit_at n w) 1) 1 0
ones-more n w =
    let cat = ones_cat w (bit_at n w) (n % 2 ^ w) (mod-lt n (pow_pos w)) in
    let bit = ones_bit (bit_at n w) (bit_at-lt n w) in
    let parts = ap ones (mod-pow-add n 1 w) in
    omega arith

-- ---- the numbers below a word's bits

pub length-numbers_below-le : (n : ℕ) (p : ℕ → Bool) → length (numbers_below n p) ≤ n
unfolding numbers_below
length-numbers_below-le n p =
    omega (arith, length-filter p (range_with_len 0 n), count_by-le-length p (range_with_len 0 n), length-range_with_len 0 n)

numbers_in_word : (words : List ℕ) (k w : ℕ) → w ≤ 64 → length (numbers_below (k * 64 + w) (has_bit words)) ≡ length (numbers_below (k * 64) (has_bit words)) + ones (slice_index words k % 2 ^ w)
numbers_in_word words k zero le =
    let e : k * 64 + 0 ≡ k * 64 = omega arith in
    let none : ones (slice_index words k % 1) ≡ 0 = ap ones (omega arith) ∙ ones_bit 0 (omega arith) in
    rw e (omega arith)
numbers_in_word words k (suc w) le =
    let e : k * 64 + suc w ≡ (k * 64 + w) + 1 = omega arith in
    let so_far = numbers_in_word words k w (omega arith) in
    let here = length-numbers_below-suc (k * 64 + w) (has_bit words) in
    let place : ◌≡◌ {A = ℕ} (cond (has_bit words (k * 64 + w)) 1 0) (cond (eqb (bit_at (slice_index words k) w) 1) 1 0) = ap (λ (b : ℕ). cond (eqb b 1) 1 0) (bit_of-place words k w (k * 64 + w) (omega arith) refl) in
    let more = ones-more (slice_index words k) w in
    let one : 1 + w ≡ suc w = omega arith in
    let more' = rw one at more in
    rw e (omega arith)

module _ (words : List ℕ) (used : ℕ) (held : AreWordsOf words used) where
  -- one word more
  pub count-more : (k : ℕ) → length (numbers_below ((k + 1) * 64) (has_bit words)) ≡ length (numbers_below (k * 64) (has_bit words)) + ones (slice_index words k)
  count-more k =
      let e : (k + 1) * 64 ≡ k * 64 + 64 = omega arith in
      let whole : slice_index words k % 2 ^ 64 ≡ slice_index words k = mod-eq_of_lt (held.fits k) in
      let sum = numbers_in_word words k 64 (omega arith) in
      rw e (rw whole at sum)

  no_bit : (n : ℕ) → bit_of words n ≡ 0 → has_bit words n ≡ false
  no_bit n e = ne_eqb (bit_of words n) 1 (λ one. omega arith)

  -- all words in use
  pub count-all : members words ≡ numbers_below (used * 64) (has_bit words)
  unfolding members
  count-all = numbers_below-same BOUND (used * 64) (has_bit words)
      (λ n le. no_bit n (held.bounded n le))
      (λ n le. no_bit n (ap (λ (w : ℕ). bit_at w (n % 64)) (held.behind (n / 64) (omega arith)) ∙ bit_at-zero (n % 64)))

-- no more than there are numbers below the bound
pub length-members-le : (words : List ℕ) → length (members words) ≤ BOUND
unfolding members
length-members-le words = length-numbers_below-le BOUND (has_bit words)
