-- Claims on each element of a list, and of its parts.
use Rattle.std.proofs.Common.{◌≡◌, ◌<◌, ◌++◌, ◌+◌, ◌-◌, ℕ, zero, suc, refl, List, [], ◌∷◌, All, AllPairs, Contains, flat_map, get_or, length, length-append, arith, subst, ap, ◌∙◌}
use Rattle.std.proofs.Math.Seq.{get_or-append_right}
use Rattle.std.proofs.lemmas.List.{get_or_append_left, get_or_default}
use Rattle.std.proofs.lemmas.List.Elements.{All-cons, All-head, All-nil, All-tail}

module _ {X : Type 0} (P : X → Type 0) where
  pub All-front : (xs ys : List X) → All P (xs ++ ys) → All P xs
  All-front [] ys h = All-nil P
  All-front (x ∷ xs) ys h = All-cons P x xs (All-head P x (xs ++ ys) h) (All-front xs ys (All-tail P x (xs ++ ys) h))

  pub All-back : (xs ys : List X) → All P (xs ++ ys) → All P ys
  All-back [] ys h = h
  All-back (x ∷ xs) ys h = All-back xs ys (All-tail P x (xs ++ ys) h)

-- what holds of each pair of a list holds of each pair of a part of it
module _ {X : Type 0} (R : X → X → Type 0) where
  pub AllPairs-front : (xs ys : List X) → AllPairs R (xs ++ ys) → AllPairs R xs
  AllPairs-front xs ys h i j d ij jn =
      subst (λ x. R x (get_or xs j d)) (get_or_append_left xs ys d i (omega arith))
      (subst (λ y. R (get_or (xs ++ ys) i d) y) (get_or_append_left xs ys d j jn) (h i j d ij (omega (arith, length-append xs ys))))

  pub AllPairs-back : (xs ys : List X) → AllPairs R (xs ++ ys) → AllPairs R ys
  AllPairs-back [] ys h = h
  AllPairs-back (x ∷ xs) ys h = AllPairs-back xs ys (λ i j d ij jn. h (suc i) (suc j) d (omega arith) (omega arith))

  -- an element of the first part, and one of the second
  pub AllPairs-across : (xs ys : List X) (x y : X) → AllPairs R (xs ++ ys) → Contains xs x → Contains ys y → R x y
  AllPairs-across xs ys x y h (i, below, is) (j, short, here) =
      let first : get_or (xs ++ ys) i x ≡ x = get_or_append_left xs ys x i below ∙ is in
      let back : get_or (xs ++ ys) (length xs + j) x ≡ get_or ys (length xs + j - length xs) x = get_or-append_right xs ys (length xs + j) x (omega arith) in
      let place : length xs + j - length xs ≡ j = omega arith in
      let second : get_or (xs ++ ys) (length xs + j) x ≡ y = back ∙ ap (λ k. get_or ys k x) place ∙ get_or_default ys j x y short ∙ here in
      subst (λ z. R z y) first (subst (λ z. R (get_or (xs ++ ys) i x) z) second (h i (length xs + j) x (omega arith) (omega (arith, length-append xs ys))))

-- what a list has
pub Contains-head : {X : Type 0} (x : X) (xs : List X) → Contains (x ∷ xs) x
Contains-head x xs = (0, omega arith, refl)

pub Contains-later : {X : Type 0} (x : X) (xs : List X) (y : X) → Contains xs y → Contains (x ∷ xs) y
Contains-later x xs y (k, below, is) = (suc k, omega (arith, below), is)

-- the part of a list that one of its elements makes
pub AllPairs-part : {X Y : Type 0} (R : Y → Y → Type 0) (f : X → List Y) (xs : List X) (x : X) → AllPairs R (flat_map f xs) → Contains xs x → AllPairs R (f x)
AllPairs-part R f [] x h (k, below, is) = absurd (omega arith)
AllPairs-part R f (y ∷ xs) x h (zero, below, is) = subst (λ z. AllPairs R (f z)) is (AllPairs-front R (f y) (flat_map f xs) h)
AllPairs-part R f (y ∷ xs) x h (suc k, below, is) = AllPairs-part R f xs x (AllPairs-back R (f y) (flat_map f xs) h) (k, omega (arith, below), is)

pub All-part : {X Y : Type 0} (P : Y → Type 0) (f : X → List Y) (xs : List X) (x : X) → All P (flat_map f xs) → Contains xs x → All P (f x)
All-part P f [] x h (k, below, is) = absurd (omega arith)
All-part P f (y ∷ xs) x h (zero, below, is) = subst (λ z. All P (f z)) is (All-front P (f y) (flat_map f xs) h)
All-part P f (y ∷ xs) x h (suc k, below, is) = All-part P f xs x (All-back P (f y) (flat_map f xs) h) (k, omega (arith, below), is)

-- the element at an index is one of the list
pub Contains-at : {X : Type 0} (xs : List X) (k : ℕ) (d : X) → k < length xs → Contains xs (get_or xs k d)
Contains-at xs k d below = (k, below, get_or_default xs k (get_or xs k d) d below)
