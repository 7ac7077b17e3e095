-- Two splits of one list at an element.
use Rattle.std.proofs.Common.{◌≡◌, ◌⊎◌, ◌++◌, List, [], ◌∷◌, refl, inl, inr}

-- the second element stands before the first
abbrev pub StandsBefore : {A : Type 0} → List A → A → List A → List A → A → List A → Type 0
StandsBefore {A} done x rest before y after = (between : List A) × (done ≡ before ++ y ∷ between) × (after ≡ between ++ x ∷ rest)

-- one list is split at one element and at another: they are the same, or one stands before the other
pub compare_splits : {A : Type 0} (done : List A) (x : A) (rest before : List A) (y : A) (after : List A) → done ++ x ∷ rest ≡ before ++ y ∷ after → StandsBefore done x rest before y after ⊎ (((done ≡ before) × (x ≡ y) × (rest ≡ after)) ⊎ StandsBefore before y after done x rest)
compare_splits [] x rest [] y after e =
    let head : x ≡ y = cc in
    let tail : rest ≡ after = cc in
    inr (inl (refl, head, tail))
compare_splits [] x rest (b ∷ before) y after e =
    let head : b ≡ x = cc in
    let tail : rest ≡ before ++ y ∷ after = cc in
    let front : b ∷ before ≡ x ∷ before = cc in
    inr (inr (before, front, tail))
compare_splits (d ∷ done) x rest [] y after e =
    let head : d ≡ y = cc in
    let tail : after ≡ done ++ x ∷ rest = cc in
    let front : d ∷ done ≡ y ∷ done = cc in
    inl (done, front, tail)
compare_splits (d ∷ done) x rest (b ∷ before) y after e =
    let head : d ≡ b = cc in
    let tail : done ++ x ∷ rest ≡ before ++ y ∷ after = cc in
    elim (compare_splits done x rest before y after tail) [
      | inl (between, front, back) ↦ let whole : d ∷ done ≡ b ∷ (before ++ y ∷ between) = cc (head, front) in inl (between, whole, back)
      | inr later ↦ elim later [
        | inl (front, same, back) ↦ let whole : d ∷ done ≡ b ∷ before = cc (head, front) in inr (inl (whole, same, back))
        | inr (between, front, back) ↦ let whole : b ∷ before ≡ d ∷ (done ++ x ∷ between) = cc (head, front) in inr (inr (between, whole, back))
      ]
    ]
