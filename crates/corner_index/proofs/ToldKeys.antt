-- What is told of the keys of a corner, and found in them.
use Rattle.std.proofs.Common.{◌≡◌, ℕ, ◌+◌, ◌<◌, ◌≤◌, ◌↔◌, List, [], length, get_or, Result, Ok, Err, IsTrue, refl, ◌∙◌, subst, arith, inl, inr}
use Rattle.std.specs.Prelude.{Contains, MatchResult, is_ok}
use Rattle.std.specs.List.Sorted.{IsBinarySearchResult, IsStrictlyIncreasing}
use Rattle.std.specs.Ordering.{nat_cmp}
use Rattle.std.proofs.lemmas.Bool.{cases_lt}
use Rattle.std.proofs.lemmas.List.{get_or_default}
use Rattle.std.proofs.lemmas.List.FromFn.{get_or-map-range_with_len}
use Rattle.std.proofs.lemmas.List.Kept.{AllPairs-from_increasing}
use Rattle.std.proofs.lemmas.List.Sorted.{searched}
use Rattle.corner_index.specs.Corners.{keys_of}
use Rattle.corner_index.specs.Keys.{keys_in, shown_keys}

pub keys_told : (ends keys : List ℕ) (corner : ℕ) → length ends ≡ 4 → corner < 4 → keys_of (shown_keys ends keys) corner ≡ keys_in ends keys corner
keys_told ends keys corner four lt =
    let within : corner < length ends = omega (arith, four, lt) in
    let here : 0 + corner ≡ corner = omega arith in
    get_or-map-range_with_len (keys_in ends keys) 0 (length ends) corner corner [] within here

-- a strictly ascending list doesn't fall
not_falling : (xs : List ℕ) → IsStrictlyIncreasing xs → (i j : ℕ) → i ≤ j → j < length xs → get_or xs i 0 ≤ get_or xs j 0
not_falling xs rises i j le within =
    elim (cases_lt i j) [
      | inl low ↦
          let below : get_or xs i 0 < get_or xs j 0 = AllPairs-from_increasing xs rises i j 0 low within in
          omega (arith, below)
      | inr last ↦
          let is : i ≡ j = omega (arith, le, last) in
          let own : get_or xs i 0 ≤ get_or xs i 0 = omega arith in
          subst (λ k. get_or xs i 0 ≤ get_or xs k 0) is own
    ]

found_by : (xs : List ℕ) (x : ℕ) (r : Result ℕ ℕ) → MatchResult r (λ i. (i < length xs) × (get_or xs i 0 ≡ x)) (λ i. (i ≤ length xs) × ((k : ℕ) → k < i → get_or xs k 0 < x) × ((k : ℕ) → i ≤ k → k < length xs → x < get_or xs k 0)) → IsTrue (is_ok r) ↔ Contains xs x
found_by xs x (Ok i) match = (λ h. (i, match.0, get_or_default xs i x 0 match.0 ∙ match.1), λ h. refl)
found_by xs x (Err i) match = (
  λ h. absurd cc,
  λ h.
      let is : get_or xs h.0 0 ≡ x = get_or_default xs h.0 0 x h.1 ∙ h.2 in
      elim (cases_lt h.0 i) [
        | inl low ↦
            let below = match.1 h.0 low in
            absurd (omega (arith, is, below))
        | inr high ↦
            let above = match.2 h.0 high h.1 in
            absurd (omega (arith, is, above))
      ],
)

-- a binary search finds what is in the list
pub found-iff : (xs : List ℕ) → IsStrictlyIncreasing xs → (x : ℕ) (r : Result ℕ ℕ) → IsBinarySearchResult (λ y. nat_cmp y x) xs r → IsTrue (is_ok r) ↔ Contains xs x
found-iff xs rises x r result = found_by xs x r (searched xs x r result (not_falling xs rises))
