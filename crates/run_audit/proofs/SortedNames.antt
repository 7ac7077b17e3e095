-- Names in order of their bytes, and a binary search among them.
use Rattle.std.proofs.Common.{◌≡◌, ◌≢◌, ◌∙◌, ◌⊎◌, inl, inr, ℕ, ◌<◌, ◌≤◌, true, false, List, AllPairs, get_or, length, map, refl, sym, ap, ap₂, arith, true≢false}
use Rattle.std.specs.Borrow.{Bor}
use Rattle.std.specs.Prelude.{Contains, MatchResult, Result, Ok, Err, is_ok}
use Rattle.std.specs.Cmp.Lexicographic.{slice_cmp}
use Rattle.std.specs.List.Sorted.{IsBinarySearchResult}
use Rattle.std.specs.Ordering.{is_gt, is_lt, nat_cmp, ordering_index, ordering_reverse}
use Rattle.std.specs.declared.cmp.Ordering.{Ordering}
use Rattle.std.specs.declared.cmp.Ordering.TheVariants.{Equal, Greater, Less}
use Rattle.std.proofs.lemmas.Bool.{cases_lt}
use Rattle.std.proofs.lemmas.Cmp.{nat_list_cmp_total, tied_itself}
use Rattle.std.proofs.Math.ListN.{get_or-map}
use Rattle.std.proofs.lemmas.List.{get_or_default, length-map}
use Rattle.std.proofs.lemmas.Map.Lookups.{exact_bytes}
use Rattle.std.proofs.lemmas.Option.{slice_get_cases}

abbrev order : List ℕ → List ℕ → Ordering
order = slice_cmp nat_cmp

reversed : (a b : List ℕ) (o : Ordering) → order a b ≡ o → order b a ≡ ordering_reverse o
reversed a b o is = nat_list_cmp_total.antisymm b a ∙ ap ordering_reverse is

three : (o : Ordering) → (o ≡ Less) ⊎ ((o ≡ Equal) ⊎ (o ≡ Greater))
three Less = inl refl
three Equal = inr (inl refl)
three Greater = inr (inr refl)

-- what isn't below another one stands to each name no lower than it
index-rises : (a b n : List ℕ) → order b a ≢ Less → ordering_index (order a n) ≤ ordering_index (order b n)
index-rises a b n above = elim (three (order a n)) [
  | inl less ↦ omega (arith, ap ordering_index less)
  | inr (inl equal) ↦
      let same : a ≡ n = exact_bytes a n equal in
      elim (three (order b n)) [
        | inl less ↦ absurd (above (ap (order b) same ∙ less))
        | inr (inl tie) ↦ omega (arith, ap ordering_index equal, ap ordering_index tie)
        | inr (inr more) ↦ omega (arith, ap ordering_index equal, ap ordering_index more)
      ]
  | inr (inr more) ↦
      let low : order n a ≡ Less = reversed a n Greater more in
      elim (three (order b n)) [
        | inl less ↦ absurd (above (nat_list_cmp_total.trans b n a less low))
        | inr (inl tie) ↦ absurd (above (ap (λ (x : List ℕ). order x a) (exact_bytes b n tie) ∙ low))
        | inr (inr also) ↦ omega (arith, ap ordering_index more, ap ordering_index also)
      ]
]

module _ (xs : List (Bor (List ℕ))) (n : List ℕ) (r : Result ℕ ℕ) (sorted : AllPairs (λ x y. slice_cmp nat_cmp y x ≢ Less) (map (λ (x : Bor (List ℕ)). x.now) xs)) (found : IsBinarySearchResult (λ (y : Bor (List ℕ)). slice_cmp nat_cmp y.now n) xs r) where
  abbrev names : List (List ℕ)
  names = map (λ (x : Bor (List ℕ)). x.now) xs

  name_at : (k : ℕ) (d : Bor (List ℕ)) → k < length xs → get_or names k d.now ≡ (get_or xs k d).now
  name_at k d below = get_or-map (λ (x : Bor (List ℕ)). x.now) xs k d

  rises : (i j : ℕ) (d : Bor (List ℕ)) → i ≤ j → j < length xs → ordering_index (order (get_or xs i d).now n) ≤ ordering_index (order (get_or xs j d).now n)
  rises i j d le below = elim (cases_lt i j) [
    | inl less ↦
        let below_too : j < length names = omega (arith, below, length-map xs (λ (x : Bor (List ℕ)). x.now)) in
        index-rises (get_or xs i d).now (get_or xs j d).now n
        (λ e. sorted i j d.now less below_too (ap₂ order (name_at j d below) (name_at i d (omega (arith, below, less))) ∙ e))
    | inr not_less ↦
        let same : i ≡ j = omega (arith, le, not_less) in
        omega (arith, ap (λ (k : ℕ). ordering_index (order (get_or xs k d).now n)) same)
  ]

  -- the one at a place is that of the names
  at_place : (k : ℕ) (d : List ℕ) (x : Bor (List ℕ)) → k < length xs → get_or xs k x ≡ x → get_or names k d ≡ x.now
  at_place k d x below is =
      get_or_default names k d x.now (omega (arith, below, length-map xs (λ (x : Bor (List ℕ)). x.now)))
      ∙ name_at k x below
      ∙ ap (λ (y : Bor (List ℕ)). y.now) is

  pub search-has : is_ok r ≡ true → MatchResult r (λ i. i < length xs) (λ i. i ≤ length xs) → Contains names n
  search-has holds within = has r found within holds
    where
      has : (q : Result ℕ ℕ) → IsBinarySearchResult (λ (y : Bor (List ℕ)). slice_cmp nat_cmp y.now n) xs q → MatchResult q (λ i. i < length xs) (λ i. i ≤ length xs) → is_ok q ≡ true → Contains names n
      has (Err i) is within none = absurd (true≢false (sym none))
      has (Ok i) is within holds = elim (slice_get_cases xs i).1 [
        | inl (x, below, found, same) ↦
            let named : x.now ≡ n = exact_bytes x.now n (ap (λ (y : Bor (List ℕ)). order y.now n) (sym same) ∙ is x) in
            (i, omega (arith, below, length-map xs (λ (x : Bor (List ℕ)). x.now)), at_place i n x below same ∙ named)
        | inr (past, none) ↦ absurd (omega (arith, past, within))
      ]

  pub search-lacks : is_ok r ≡ false → ¬ Contains names n
  search-lacks holds = lacks r found holds
    where
      other : (o : Ordering) → o ≡ Equal → (o ≡ Less) ⊎ (o ≡ Greater) → ⊥
      other Less e h = absurd (true≢false (ap is_lt e))
      other Equal e (inl less) = absurd (true≢false (ap is_lt (sym less)))
      other Equal e (inr more) = absurd (true≢false (ap is_gt (sym more)))
      other Greater e h = absurd (true≢false (ap is_gt e))

      lacks : (q : Result ℕ ℕ) → IsBinarySearchResult (λ (y : Bor (List ℕ)). slice_cmp nat_cmp y.now n) xs q → is_ok q ≡ false → ¬ Contains names n
      lacks (Ok i) is some = absurd (true≢false some)
      lacks (Err i) is none = λ (k, below, same). elim (slice_get_cases xs k).1 [
        | inl (x, within, found, here) ↦
            let parts = is rises in
            let named : x.now ≡ n = sym (at_place k n x within here) ∙ same in
            let tie : order (get_or xs k x).now n ≡ Equal = ap (λ (y : Bor (List ℕ)). order y.now n) here ∙ ap (λ (m : List ℕ). order m n) named ∙ tied_itself nat_list_cmp_total n in
            elim (cases_lt k i) [
              | inl low ↦ other (order (get_or xs k x).now n) tie (inl (parts.0 k x (omega arith) low))
              | inr high ↦ other (order (get_or xs k x).now n) tie (inr (parts.1 k x (omega (arith, high)) within))
            ]
        | inr (past, none) ↦ omega (arith, past, below, length-map xs (λ (x : Bor (List ℕ)). x.now))
      ]
