-- Lists that ascend: when two are equal.
use Rattle.std.proofs.Common.{◌≡◌, ℕ, ◌+◌, ◌<◌, ◌≤◌, ◌↔◌, inl, inr, List, [], ◌∷◌, suc, zero, refl, ap₂, arith, Contains}
use Rattle.std.specs.List.Sorted.{IsStrictlyIncreasing}
use Rattle.std.proofs.lemmas.List.Kept.{AllPairs-from_increasing}
use Rattle.kb_bits.specs.MemberLaws.{Contains-head, Contains-cons, Contains-cons_cases}

-- ---- lists that ascend

-- a number before the first of an ascending list isn't in it, nor is one between two neighbours
pub head_least : (x : ℕ) (xs : List ℕ) → IsStrictlyIncreasing (x ∷ xs) → (y : ℕ) → Contains (x ∷ xs) y → x ≤ y
head_least x xs up y (zero, lt, is) = omega arith
head_least x xs up y (suc k, lt, is) =
    let rises = AllPairs-from_increasing (x ∷ xs) up 0 (suc k) y (omega arith) lt in
    omega arith

pub tail_above : (x : ℕ) (xs : List ℕ) → IsStrictlyIncreasing (x ∷ xs) → (y : ℕ) → Contains xs y → x < y
tail_above x xs up y (k, lt, is) =
    let rises = AllPairs-from_increasing (x ∷ xs) up 0 (suc k) y (omega arith) (omega arith) in
    omega arith

pub IsStrictlyIncreasing-tail : (x : ℕ) (xs : List ℕ) → IsStrictlyIncreasing (x ∷ xs) → IsStrictlyIncreasing xs
IsStrictlyIncreasing-tail x xs up k lt =
    let e : suc k + 1 ≡ suc (k + 1) = omega arith in
    rw e at (up (suc k) (omega arith))

-- what two ascending lists with the same members have behind their first, which is the same, is the same
tail_among : (x : ℕ) (xs ys : List ℕ) → IsStrictlyIncreasing (x ∷ xs) → ((m : ℕ) → Contains (x ∷ xs) m → Contains (x ∷ ys) m) → (m : ℕ) → Contains xs m → Contains ys m
tail_among x xs ys up within m h =
    elim (Contains-cons_cases x ys m (within m (Contains-cons x xs m h))) [
      | inl same ↦ absurd (omega (arith, tail_above x xs up m h))
      | inr inside ↦ inside
    ]

-- two ascending lists with the same members are equal
pub same_from_members : (xs ys : List ℕ) → IsStrictlyIncreasing xs → IsStrictlyIncreasing ys → ((m : ℕ) → Contains xs m ↔ Contains ys m) → xs ≡ ys
same_from_members [] [] up vp same = refl
same_from_members [] (y ∷ ys) up vp same = absurd (omega (arith, ((same y).1 (Contains-head y ys)).1))
same_from_members (x ∷ xs) [] up vp same = absurd (omega (arith, ((same x).0 (Contains-head x xs)).1))
same_from_members (x ∷ xs) (y ∷ ys) up vp same =
    let le = head_least y ys vp x ((same x).0 (Contains-head x xs)) in
    let ge = head_least x xs up y ((same y).1 (Contains-head y ys)) in
    let e : x ≡ y = omega arith in
    let vp' = rw (← e) at vp in
    let forth = tail_among x xs ys up (λ m h. rw e ((same m).0 h)) in
    let back = tail_among x ys xs vp' (λ m h. ((same m).1 (rw (← e) h))) in
    ap₂ (λ z zs. z ∷ zs) e (same_from_members xs ys (IsStrictlyIncreasing-tail x xs up) (IsStrictlyIncreasing-tail y ys vp) (λ m. (forth m, back m)))
