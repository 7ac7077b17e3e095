-- What a test keeps of a range of numbers, and the first that it keeps.
use Prim.Native.Nat.{zero}
use Rattle.std.proofs.Common.{◌≡◌, ℕ, ◌+◌, ◌<◌, ◌≤◌, suc, ltb, Bool, true, false, cond, List, [], ◌∷◌, Some, None, refl, sym, ◌∙◌, ap, arith, inl, inr}
use Rattle.std.proofs.lemmas.Bool.{cases_eq, cases_Bool, lt-ltb, le-ltb, ltb-false}
use Rattle.std.specs.Prelude.{filter, ◌&&◌}
use Rattle.std.specs.List.{range_with_len}
use Rattle.game_tree.specs.Tree.{first_number}

-- ---- the first number that passes

pub first_number-is : (p : ℕ → Bool) (c a n : ℕ) → a ≤ c → c < a + n → p c ≡ true → ((k : ℕ) → a ≤ k → k < c → p k ≡ false) → first_number (filter p (range_with_len a n)) ≡ Some c
first_number-is p c a zero low high here before = absurd (omega arith)
first_number-is p c a (suc n) low high here before =
    elim (cases_eq a c) [
      | inl e ↦ let pa : p a ≡ true = ap p e ∙ here in rw pa (ap (λ i. Some i) e)
      | inr ne ↦
          let pa : p a ≡ false = before a (omega arith) (omega arith) in
          rw pa (first_number-is p c (a + 1) n (omega arith) (omega arith) here (λ k l h. before k (omega arith) h))
    ]

pub first_number-found : (p : ℕ → Bool) (c a n : ℕ) → first_number (filter p (range_with_len a n)) ≡ Some c → (p c ≡ true) × (a ≤ c) × (c < a + n) × ((k : ℕ) → a ≤ k → k < c → p k ≡ false)
first_number-found p c a zero e = absurd cc
first_number-found p c a (suc n) e =
    elim (cases_Bool (p a)) [
      | inl t ↦
          let f : Some a ≡ Some c = sym (ap (λ b. first_number (cond b (a ∷ filter p (range_with_len (a + 1) n)) (filter p (range_with_len (a + 1) n)))) t) ∙ e in
          let same : a ≡ c = cc in
          (sym (ap p same) ∙ t, omega arith, omega arith, λ k l h. absurd (omega arith))
      | inr f ↦
          let rest = first_number-found p c (a + 1) n (sym (ap (λ b. first_number (cond b (a ∷ filter p (range_with_len (a + 1) n)) (filter p (range_with_len (a + 1) n)))) f) ∙ e) in (
            rest.0,
            omega (arith, rest.1),
            omega (arith, rest.2),
            λ k l h. elim (cases_eq k a) [
              | inl s ↦ ap p s ∙ f
              | inr ne ↦ rest.3 k (omega arith) h
            ],
          )
    ]

pub filter_none : (p : ℕ → Bool) (a n : ℕ) → ((k : ℕ) → a ≤ k → k < a + n → p k ≡ false) → filter p (range_with_len a n) ≡ []
filter_none p a zero none = refl
filter_none p a (suc n) none =
    rw (none a (omega arith) (omega arith)) (filter_none p (a + 1) n (λ k l h. none k (omega arith) (omega arith)))

pub first_number-missing : (p : ℕ → Bool) (a n : ℕ) → first_number (filter p (range_with_len a n)) ≡ None → (k : ℕ) → a ≤ k → k < a + n → p k ≡ false
first_number-missing p a zero e k low high = absurd (omega arith)
first_number-missing p a (suc n) e k low high =
    elim (cases_Bool (p a)) [
      | inl t ↦
          let f : Some a ≡ None = sym (ap (λ b. first_number (cond b (a ∷ filter p (range_with_len (a + 1) n)) (filter p (range_with_len (a + 1) n)))) t) ∙ e in
          absurd cc
      | inr f ↦ elim (cases_eq k a) [
        | inl s ↦ ap p s ∙ f
        | inr ne ↦ first_number-missing p (a + 1) n (sym (ap (λ b. first_number (cond b (a ∷ filter p (range_with_len (a + 1) n)) (filter p (range_with_len (a + 1) n)))) f) ∙ e) k (omega arith) (omega arith)
      ]
    ]

-- ---- two tests, one after another

pub filter-filter : (p q : ℕ → Bool) (xs : List ℕ) → filter q (filter p xs) ≡ filter (λ x. p x && q x) xs
filter-filter p q [] = refl
filter-filter p q (x ∷ xs) =
    elim (cases_Bool (p x)) [
      | inl t ↦ rw t (elim (cases_Bool (q x)) [
        | inl u ↦ rw u (ap (λ ys. x ∷ ys) (filter-filter p q xs))
        | inr u ↦ rw u (filter-filter p q xs)
      ])
      | inr f ↦ rw f (filter-filter p q xs)
    ]

-- ---- lists in ascending order

-- each number is at least this, and less than those behind it
abbrev pub IsAscending : ℕ → List ℕ → Type 0
IsAscending low [] = Unit
IsAscending low (x ∷ xs) = (low ≤ x) × IsAscending (x + 1) xs

IsAscending-weaker : (low lower : ℕ) (xs : List ℕ) → lower ≤ low → IsAscending low xs → IsAscending lower xs
IsAscending-weaker low lower [] h a = tt
IsAscending-weaker low lower (x ∷ xs) h a = (omega (arith, a.0), a.1)

pub IsAscending-range : (p : ℕ → Bool) (a n : ℕ) → IsAscending a (filter p (range_with_len a n))
IsAscending-range p a zero = tt
IsAscending-range p a (suc n) =
    elim (cases_Bool (p a)) [
      | inl t ↦ rw t (omega arith, IsAscending-range p (a + 1) n)
      | inr f ↦ rw f (IsAscending-weaker (a + 1) a (filter p (range_with_len (a + 1) n)) (omega arith) (IsAscending-range p (a + 1) n))
    ]

-- those behind a number are the greater ones
pub filter-later : (c low : ℕ) (xs : List ℕ) → c < low → IsAscending low xs → filter (ltb c) xs ≡ xs
filter-later c low [] h a = refl
filter-later c low (x ∷ xs) h a =
    let t : ltb c x ≡ true = lt-ltb c x (omega (arith, a.0)) in
    rw t (ap (λ ys. x ∷ ys) (filter-later c (x + 1) xs (omega (arith, a.0)) a.1))

pub first_and_later : (c low : ℕ) (xs : List ℕ) → IsAscending low xs → first_number xs ≡ Some c → xs ≡ c ∷ filter (ltb c) xs
first_and_later c low [] a e = absurd cc
first_and_later c low (x ∷ xs) a e =
    let same : x ≡ c = cc in
    let f : ltb c x ≡ false = le-ltb c x (omega arith) in
    rw f (let later : filter (ltb c) xs ≡ xs = filter-later c (x + 1) xs (omega arith) a.1 in rw (later, same) refl)

pub filter-twice_later : (n s : ℕ) (xs : List ℕ) → n ≤ s → filter (ltb s) (filter (ltb n) xs) ≡ filter (ltb s) xs
filter-twice_later n s [] h = refl
filter-twice_later n s (x ∷ xs) h =
    elim (cases_Bool (ltb n x)) [
      | inl t ↦ rw t (ap (λ ys. cond (ltb s x) (x ∷ ys) ys) (filter-twice_later n s xs h))
      | inr f ↦
          let g : ltb s x ≡ false = le-ltb s x (omega (arith, ltb-false n x f)) in
          rw (f, g) (filter-twice_later n s xs h)
    ]
