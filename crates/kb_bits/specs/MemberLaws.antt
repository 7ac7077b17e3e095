-- What is in a list that a test keeps, and in the numbers below a bound that pass a test. The
-- board's model cites these lemmas, so they stand here.
use Rattle.std.proofs.Common.{◌≡◌, ℕ, ◌+◌, ◌<◌, ◌⊎◌, inl, inr, Bool, true, false, List, [], ◌∷◌, suc, zero, filter, refl, sym, ap, ◌∙◌, arith, Contains}
use Rattle.std.specs.List.{range_with_len}
use Rattle.std.specs.List.Sorted.{IsStrictlyIncreasing}
use Rattle.std.proofs.lemmas.List.Elements.{Contains-append_right, All-contains, All-contains_itself, All-filter, filter_passes}
use Rattle.std.proofs.lemmas.List.Kept.{IsStrictlyIncreasing-filter}
use Rattle.std.proofs.lemmas.List.FromFn.{length-range_with_len, get_or-range_with_len}
use Rattle.std.proofs.lemmas.Bool.{false≢true, cases_Bool}
use Rattle.kb_bits.specs.Members.{numbers_below}

-- ---- members of a list

pub Contains-head : (x : ℕ) (xs : List ℕ) → Contains (x ∷ xs) x
Contains-head x xs = (0, omega arith, refl)

pub Contains-cons : (x : ℕ) (xs : List ℕ) (y : ℕ) → Contains xs y → Contains (x ∷ xs) y
Contains-cons x xs y h = Contains-append_right (x ∷ []) xs y h

pub Contains-cons_cases : (x : ℕ) (xs : List ℕ) (y : ℕ) → Contains (x ∷ xs) y → (x ≡ y)
    ⊎ Contains xs y
Contains-cons_cases x xs y (zero, lt, is) = inl is
Contains-cons_cases x xs y (suc k, lt, is) = inr (k, omega arith, is)

pub Contains-from_filter : (p : ℕ → Bool) (xs : List ℕ) (x : ℕ) → Contains (filter p xs) x →
    Contains xs x × (p x ≡ true)
Contains-from_filter p xs x h = (
  All-contains (Contains xs)
      (filter p xs) x (All-filter p (Contains xs) xs (All-contains_itself xs)) h,
  All-contains (λ y. p y ≡ true) (filter p xs) x (filter_passes p xs) h,
)

-- the members of a filtered list, where those of the rest are known
filter_more : (p : ℕ → Bool) (y : ℕ) (ys : List ℕ) (x : ℕ) → p x ≡ true →
    (Contains ys x → Contains (filter p ys) x) → (p y ≡ true) ⊎ (p y ≡ false) → (y ≡ x)
    ⊎ Contains ys x → Contains (filter p (y ∷ ys)) x
filter_more p y ys x e rest (inl t) (inl is) = rw (t, ← is) (Contains-head y (filter p ys))
filter_more p y ys x e rest (inl t)
    (inr inside) = rw t (Contains-cons y (filter p ys) x (rest inside))
filter_more p y ys x e rest (inr f) (inl is) = absurd (false≢true (sym f ∙ (ap p is ∙ e)))
filter_more p y ys x e rest (inr f) (inr inside) = rw f (rest inside)

pub Contains-filter : (p : ℕ → Bool) (xs : List ℕ) (x : ℕ) → Contains xs x → p x ≡ true →
    Contains (filter p xs) x
Contains-filter p [] x h e = absurd (omega (arith, h.1))
Contains-filter p (y ∷ ys) x h e = filter_more p y ys x e (λ k. Contains-filter p ys x k e)
    (cases_Bool (p y)) (Contains-cons_cases y ys x h)

pub Contains-range : (n m : ℕ) → m < n → Contains (range_with_len 0 n) m
Contains-range n m lt = (
  m,
  rw length-range_with_len lt,
  get_or-range_with_len 0 n m m lt
      ∙ omega arith,
)

pub lt-from_range : (n m : ℕ) → Contains (range_with_len 0 n) m → m < n
lt-from_range n m (k, lt, is) =
    let below = rw length-range_with_len at lt in
    let same = sym (get_or-range_with_len 0 n k m below) ∙ is in
    omega arith

-- ---- the numbers below a bound that pass a test

pub Contains-numbers_below : (n : ℕ) (p : ℕ → Bool) (m : ℕ) → m < n → p m ≡ true →
    Contains (numbers_below n p) m
unfolding numbers_below
Contains-numbers_below n p m lt e = Contains-filter p (range_with_len 0 n) m (Contains-range n m lt)
    e

pub Contains-from_numbers_below : (n : ℕ) (p : ℕ → Bool) (m : ℕ) → Contains (numbers_below n p) m →
    (m < n) × (p m ≡ true)
unfolding numbers_below
Contains-from_numbers_below n p m h =
    let k = Contains-from_filter p (range_with_len 0 n) m h in
    (lt-from_range n m k.0, k.1)

IsStrictlyIncreasing-range : (a n : ℕ) → IsStrictlyIncreasing (range_with_len a n)
IsStrictlyIncreasing-range a n k lt =
    let below = rw length-range_with_len at lt in
    omega (
      arith,
      get_or-range_with_len a n k 0 (omega arith),
      get_or-range_with_len a n (k + 1) 0 below,
    )

pub IsStrictlyIncreasing-numbers_below : (n : ℕ) (p : ℕ → Bool) →
    IsStrictlyIncreasing (numbers_below n p)
unfolding numbers_below
IsStrictlyIncreasing-numbers_below n p = IsStrictlyIncreasing-filter p (range_with_len 0 n)
    (IsStrictlyIncreasing-range 0 n)
