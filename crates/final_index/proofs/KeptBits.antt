-- The games that a word keeps where it is cut with other words.
use Rattle.std.proofs.Common.{◌≡◌, ℕ, ◌<◌, ◌↔◌, ◌⊎◌, inl, inr, List, slice_index, bit_and, bit_or, sym, ap, ◌∙◌, subst, ◌+◌, ◌-◌, take, drop, arith}
use Prim.Native.Nat.{min, max}
use Rattle.std.specs.Int.{bit_at}
use Rattle.std.proofs.lemmas.List.{get_or-drop, get_or-take}
use Rattle.std.proofs.lemmas.Bool.{cases_eq, cases_lt}
use Rattle.std.proofs.lemmas.Nat.Bits.{bit_at-lt, bit_at_and, bit_at_or}

pub or-bit : (a b g : ℕ) → (bit_at (bit_or a b) g ≡ 1) ↔ ((bit_at a g ≡ 1) ⊎ (bit_at b g ≡ 1))
or-bit a b g =
    let is : bit_at (bit_or a b) g ≡ max (bit_at a g) (bit_at b g) = bit_at_or a b g in
    let one = bit_at-lt a g in
    let other = bit_at-lt b g in (
      λ e. elim (cases_eq (bit_at a g) 1) [ inl t ↦ inl t | inr f ↦ inr (omega (arith, e, is, one, other, f)) ],
      λ h. elim h [ inl t ↦ omega (arith, is, one, other, t) | inr t ↦ omega (arith, is, one, other, t) ],
    )

pub and-bit : (a b g : ℕ) → (bit_at (bit_and a b) g ≡ 1) ↔ ((bit_at a g ≡ 1) × (bit_at b g ≡ 1))
and-bit a b g =
    let is : bit_at (bit_and a b) g ≡ min (bit_at a g) (bit_at b g) = bit_at_and a b g in
    let one = bit_at-lt a g in
    let other = bit_at-lt b g in
    (λ e. (omega (arith, e, is, one, other), omega (arith, e, is, one, other)), λ h. omega (arith, is, h.0, h.1))

-- where a word is cut with one whose bits tell something
pub kept-told : (before word after g : ℕ) (had : Type 0) → (bit_at word g ≡ 1) ↔ had → after ≡ bit_and before word → (bit_at after g ≡ 1) ↔ ((bit_at before g ≡ 1) × had)
kept-told before word after g had told cut =
    let both = and-bit before word g in
    let bits = ap (λ (w : ℕ). bit_at w g) cut in (
      λ e. let h = both.0 (sym bits ∙ e) in (h.0, told.0 h.1),
      λ h. bits ∙ both.1 (h.0, told.1 h.1),
    )

-- where it is cut with two such words joined
pub kept_either-told : (before word word' after g : ℕ) (had had' : Type 0) → (bit_at word g ≡ 1) ↔ had → (bit_at word' g ≡ 1) ↔ had' → after ≡ bit_and before (bit_or word word') →
    (bit_at after g ≡ 1) ↔ ((bit_at before g ≡ 1) × (had ⊎ had'))
kept_either-told before word word' after g had had' told told' cut =
    let one = or-bit word word' g in
    kept-told before (bit_or word word') after g (had ⊎ had')
    (λ e. elim (one.0 e) [ inl t ↦ inl (told.0 t) | inr t ↦ inr (told'.0 t) ], λ h. one.1 (elim h [ inl t ↦ inl (told.1 t) | inr t ↦ inr (told'.1 t) ])) cut

-- the bits of a word that are in one word more
pub common-more : (word : ℕ) (plane : List ℕ) (n common : ℕ) → ((g : ℕ) → (bit_at common g ≡ 1) ↔ ((bit_at word g ≡ 1) × ((p : ℕ) → p < n → bit_at (slice_index plane p) g ≡ 1))) →
    (g : ℕ) → (bit_at (bit_and common (slice_index plane n)) g ≡ 1) ↔ ((bit_at word g ≡ 1) × ((p : ℕ) → p < n + 1 → bit_at (slice_index plane p) g ≡ 1))
common-more word plane n common so_far g =
    let both = and-bit common (slice_index plane n) g in (
      λ e.
          let h = both.0 e in
          let was = (so_far g).0 h.0 in
          (was.0, λ p lt. elim (cases_lt p n) [ inl before ↦ was.1 p before | inr last ↦ let here : n ≡ p = omega (arith, lt, last) in subst (λ (q : ℕ). bit_at (slice_index plane q) g ≡ 1) here h.1 ]),
      λ h. both.1 ((so_far g).1 (h.0, λ p lt. h.1 p (omega (arith, lt))), h.1 n (omega arith)),
    )

-- a word of the part of a list from a place on
pub sliced-word : (xs : List ℕ) (start count p : ℕ) → p < count → slice_index (take (start + count - start) (drop start xs)) p ≡ slice_index xs (start + p)
sliced-word xs start count p lt = get_or-take (start + count - start) (drop start xs) p 0 (omega (arith, lt)) ∙ get_or-drop start xs p 0
