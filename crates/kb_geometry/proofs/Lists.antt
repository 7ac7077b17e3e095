-- Lists in general: lemmas that several crates cite.
use Rattle.std.proofs.Common.{◌≡◌, ◌⊎◌, inl, inr, ℕ, zero, suc, ◌+◌, ◌<◌, ◌≤◌, List, [], ◌∷◌, ◌++◌, append_assoc, length-append, refl, sym, ap, ◌∙◌, subst, arith}
use Rattle.std.specs.Prelude.{All, AllPairs, Any, Contains}
use Rattle.std.specs.List.{flat_map, range_with_len}
use Rattle.std.proofs.lemmas.List.{get_or_append_left}
use Rattle.std.proofs.lemmas.List.Elements.{All-append, All-cons, All-head, All-nil, All-tail}

-- ---- some element

pub Any-weaker : {X : Type 0} (P Q : X → Type 0) → ((x : X) → P x → Q x) → (xs : List X) → Any P xs → Any Q xs
Any-weaker P Q f xs (k, x, below, is, holds) = (k, x, below, is, f x holds)

pub Any-kept : {X : Type 0} (P : X → Type 0) (xs : List X) (y : X) → Any P xs → Any P (xs ++ y ∷ [])
Any-kept P xs y (k, x, below, is, holds) =
    (k, x, omega (arith, length-append xs (y ∷ [])), get_or_append_left xs (y ∷ []) x k below ∙ is, holds)

-- ---- members

module _ {X : Type 0} where
  pub Contains-first : (x : X) (xs : List X) → Contains (x ∷ xs) x
  Contains-first x xs = (0, omega arith, refl)

  pub Contains-later : (x y : X) (xs : List X) → Contains xs y → Contains (x ∷ xs) y
  Contains-later x y xs (k, below, is) = (suc k, omega arith, is)

  pub Contains-cases : (x y : X) (xs : List X) → Contains (x ∷ xs) y → (x ≡ y) ⊎ Contains xs y
  Contains-cases x y xs (zero, below, is) = inl is
  Contains-cases x y xs (suc k, below, is) = inr (k, omega arith, is)

-- ---- each element, and each two

pub All-flat_map : {X Y : Type 0} (P : Y → Type 0) (f : X → List Y) (xs : List X) → All (λ x. All P (f x)) xs → All P (flat_map f xs)
All-flat_map P f [] each = All-nil P
All-flat_map P f (x ∷ xs) each =
    All-append P (f x) (flat_map f xs) (All-head (λ y. All P (f y)) x xs each) (All-flat_map P f xs (All-tail (λ y. All P (f y)) x xs each))

-- what holds of all holds of the first ones
pub All-before : {X : Type 0} (P : X → Type 0) (xs ys : List X) → All P (xs ++ ys) → All P xs
All-before P xs ys h k d lt = subst P (get_or_append_left xs ys d k lt) (h k d (omega (arith, length-append xs ys)))

-- the numbers of a range
pub range_bounds : (a n : ℕ) → All (λ k. (a ≤ k) × (k < a + n)) (range_with_len a n)
range_bounds a zero = All-nil (λ k. (a ≤ k) × (k < a + 0))
range_bounds a (suc n) =
    All-cons (λ k. (a ≤ k) × (k < a + suc n)) a (range_with_len (a + 1) n) (omega arith, omega arith)
    (λ k d lt. let h = range_bounds (a + 1) n k d lt in (omega (arith, h.0), omega (arith, h.1)))

pub all_less : (n : ℕ) → All (λ k. k < n) (range_with_len 0 n)
all_less n k d lt = let h = range_bounds 0 n k d lt in omega (arith, h.1)

module _ {X : Type 0} (R : X → X → Type 0) where
  pub AllPairs-tail : (x : X) (xs : List X) → AllPairs R (x ∷ xs) → AllPairs R xs
  AllPairs-tail x xs h i j d less below = h (suc i) (suc j) d (omega arith) (omega arith)

  pub AllPairs-head : (x : X) (xs : List X) → AllPairs R (x ∷ xs) → All (R x) xs
  AllPairs-head x xs h k d below = h 0 (suc k) d (omega arith) (omega arith)

-- ---- two lists in strict order

-- two lists in strict order with the same members are one list
module _ {X : Type 0} (R : X → X → Type 0) (opposed : (x y : X) → R x y → R y x → ⊥) where
  behind : (x y : X) (xs : List X) → AllPairs R (x ∷ xs) → Contains xs y → R x y
  behind x y xs order (k, below, is) = subst (R x) is (order 0 (suc k) y (omega arith) (omega arith))

  first_same : (x y : X) (xs ys : List X) → AllPairs R (x ∷ xs) → AllPairs R (y ∷ ys) → Contains (y ∷ ys) x → Contains (x ∷ xs) y → x ≡ y
  first_same x y xs ys x_order y_order x_in y_in = elim (Contains-cases y x ys x_in) [
    | inl same ↦ sym same
    | inr x_later ↦ elim (Contains-cases x y xs y_in) [
      | inl same ↦ same
      | inr y_later ↦ absurd (opposed x y (behind x y xs x_order y_later) (behind y x ys y_order x_later))
    ]
  ]

  -- a later member of the one is a later member of the other
  later_in : (x : X) (xs ys : List X) → AllPairs R (x ∷ xs) → ((z : X) → Contains (x ∷ xs) z → Contains (x ∷ ys) z) → (z : X) → Contains xs z → Contains ys z
  later_in x xs ys order there z z_in = elim (Contains-cases x z ys (there z (Contains-later x z xs z_in))) [
    | inl same ↦ (let before : R x x = subst (R x) (sym same) (behind x z xs order z_in) in absurd (opposed x x before before))
    | inr found ↦ found
  ]

  pub same_order : (xs ys : List X) → AllPairs R xs → AllPairs R ys → ((z : X) → Contains xs z → Contains ys z) → ((z : X) → Contains ys z → Contains xs z) → xs ≡ ys
  same_order [] [] x_order y_order there back = refl
  same_order [] (y ∷ ys) x_order y_order there back = let none = back y (Contains-first y ys) in absurd (omega (arith, none.1))
  same_order (x ∷ xs) [] x_order y_order there back = let none = there x (Contains-first x xs) in absurd (omega (arith, none.1))
  same_order (x ∷ xs) (y ∷ ys) x_order y_order there back =
      let same : x ≡ y = first_same x y xs ys x_order y_order (there x (Contains-first x xs)) (back y (Contains-first y ys)) in
      let there' : (z : X) → Contains (x ∷ xs) z → Contains (x ∷ ys) z = subst (λ (w : X). (z : X) → Contains (x ∷ xs) z → Contains (w ∷ ys) z) (sym same) there in
      let back' : (z : X) → Contains (x ∷ ys) z → Contains (x ∷ xs) z = subst (λ (w : X). (z : X) → Contains (w ∷ ys) z → Contains (x ∷ xs) z) (sym same) back in
      let y_order' : AllPairs R (x ∷ ys) = subst (λ (w : X). AllPairs R (w ∷ ys)) (sym same) y_order in
      ap (λ w. w ∷ xs) same ∙ ap (λ ws. y ∷ ws)
      (same_order xs ys (AllPairs-tail R x xs x_order) (AllPairs-tail R y ys y_order) (later_in x xs ys x_order there') (later_in x ys xs y_order' back'))

-- ---- appended lists

pub appended_twice : {X : Type 0} (old first second : List X) {between new : List X} → between ≡ old ++ first → new ≡ between ++ second → new ≡ old ++ (first ++ second)
appended_twice {X} old first second one two = two ∙ ap (λ (xs : List X). xs ++ second) one ∙ append_assoc old first second

pub appended_thrice : {X : Type 0} (old a b c : List X) {x y z : List X} → x ≡ old ++ a → y ≡ x ++ b → z ≡ y ++ c → z ≡ old ++ (a ++ (b ++ c))
appended_thrice old a b c one two three = appended_twice old a (b ++ c) one (appended_twice _ b c two three)

-- a list with an element at its end is not empty, and has one such element
pub push_not_nil : {X : Type 0} (xs : List X) (x : X) → [] ≡ xs ++ x ∷ [] → ⊥
push_not_nil [] x e = cc
push_not_nil (y ∷ ys) x e = cc

pub push_same : {X : Type 0} (xs ys : List X) (x y : X) → xs ++ x ∷ [] ≡ ys ++ y ∷ [] → (xs ≡ ys) × (x ≡ y)
push_same [] [] x y e = (refl, cc)
push_same [] (b ∷ ys) x y e = absurd (push_not_nil ys y (cc))
push_same (a ∷ xs) [] x y e = absurd (push_not_nil xs x (cc))
push_same (a ∷ xs) (b ∷ ys) x y e =
    let heads : a ≡ b = cc in
    let rest = push_same xs ys x y (cc) in
    (λ i. heads i ∷ rest.0 i, rest.1)
