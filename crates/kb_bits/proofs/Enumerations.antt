-- Going over a set by next_from: what is left from a number on is the next member, and then what is left behind it.
use Rattle.std.proofs.Common.{◌≡◌, ℕ, ◌+◌, ◌<◌, ◌≤◌, inl, inr, Bool, true, nat_le, List, [], ◌∷◌, filter, refl, sym, ap, ap₂, ◌∙◌, arith, Contains}
use Rattle.std.specs.List.Sorted.{IsStrictlyIncreasing}
use Rattle.std.proofs.lemmas.Bool.{cases_lt, le-leb, lt-leb}
use Rattle.kb_bits.specs.Members.{IsNextFrom}
use Rattle.kb_bits.specs.MemberLaws.{Contains-head, Contains-cons, Contains-cons_cases}
use Rattle.kb_bits.proofs.Ascending.{head_least, tail_above, IsStrictlyIncreasing-tail}

-- the members that are at least n, in their order
abbrev pub members_from : ℕ → List ℕ → List ℕ
members_from n xs = filter (nat_le n) xs

filter-all : (p : ℕ → Bool) (xs : List ℕ) → ((x : ℕ) → Contains xs x → p x ≡ true) → filter p xs ≡ xs
filter-all p [] all = refl
filter-all p (x ∷ xs) all =
    let head = all x (Contains-head x xs) in
    rw (head, filter-all p xs (λ y h. all y (Contains-cons x xs y h))) refl

pub members_from-zero : (xs : List ℕ) → members_from 0 xs ≡ xs
members_from-zero xs = filter-all (nat_le 0) xs (λ x h. le-leb 0 x (omega arith))

-- a head that is kept, and one that is passed over
kept : (n x : ℕ) (xs : List ℕ) → n ≤ x → members_from n (x ∷ xs) ≡ x ∷ members_from n xs
kept n x xs le = rw (le-leb n x le) refl

passed : (n x : ℕ) (xs : List ℕ) → x < n → members_from n (x ∷ xs) ≡ members_from n xs
passed n x xs lt = rw (lt-leb n x lt) refl

all_from : (n : ℕ) (xs : List ℕ) → ((x : ℕ) → Contains xs x → n ≤ x) → members_from n xs ≡ xs
all_from n xs from = filter-all (nat_le n) xs (λ x h. le-leb n x (from x h))

-- no member is at least n
pub members_from-none : (n : ℕ) (xs : List ℕ) → ((x : ℕ) → Contains xs x → x < n) → members_from n xs ≡ []
members_from-none n [] none = refl
members_from-none n (x ∷ xs) none = passed n x xs (none x (Contains-head x xs)) ∙ members_from-none n xs (λ y h. none y (Contains-cons x xs y h))

next_is_head : (n m x : ℕ) (xs : List ℕ) → IsStrictlyIncreasing (x ∷ xs) → IsNextFrom (x ∷ xs) n m → n ≤ x → m ≡ x
next_is_head n m x xs up next le = omega (arith, next.least x (Contains-head x xs) le, head_least x xs up m next.member)

in_tail : (n m x : ℕ) (xs : List ℕ) → IsNextFrom (x ∷ xs) n m → x < n → IsNextFrom xs n m
in_tail n m x xs next lt = record {
  member = elim (Contains-cons_cases x xs m next.member) [
    | inl same ↦ absurd (omega (arith, next.from))
    | inr inside ↦ inside
  ];
  from = next.from;
  least = λ k h le. next.least k (Contains-cons x xs k h) le;
}

-- m is the least member that is at least n
pub members_from-next : (n m : ℕ) (xs : List ℕ) → IsStrictlyIncreasing xs → IsNextFrom xs n m → members_from n xs ≡ m ∷ members_from (m + 1) xs
members_from-next n m [] up next = absurd (omega (arith, next.member.1))
members_from-next n m (x ∷ xs) up next =
    let rest = λ (lt : x < n). members_from-next n m xs (IsStrictlyIncreasing-tail x xs up) (in_tail n m x xs next lt) in
    elim (cases_lt x n) [
      | inl lt ↦ passed n x xs lt ∙ rest lt ∙ ap (λ (ys : List ℕ). m ∷ ys) (sym (passed (m + 1) x xs (omega (arith, next.from))))
      | inr le ↦
          let head = next_is_head n m x xs up next le in
          let above = tail_above x xs up in
          kept n x xs le
          ∙ ap₂ (λ y ys. y ∷ ys) (sym head) (all_from n xs (λ y h. omega (arith, above y h)) ∙ sym (all_from (m + 1) xs (λ y h. omega (arith, above y h))))
          ∙ ap (λ (ys : List ℕ). m ∷ ys) (sym (passed (m + 1) x xs (omega arith)))
    ]
