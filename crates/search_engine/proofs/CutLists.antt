-- The rest of a list behind its first elements.
use Rattle.std.proofs.Common.{◌≡◌, ◌∙◌, ℕ, zero, suc, inl, inr, ◌+◌, ◌-◌, ◌≤◌, List, [], ◌∷◌, ◌++◌, Some, ap, arith, drop, length, refl, sym}
use Rattle.std.specs.List.{slice_get}
use Rattle.std.proofs.Math.Seq.{drop-append-add}
use Rattle.std.proofs.lemmas.Bool.{cases_lt}
use Rattle.std.proofs.lemmas.List.{drop-append-le, drop_all}

module _ {A : Type 0} where
  -- the rest of two lists, one after the other
  pub drop-both : (n : ℕ) (xs ys : List A) → drop n (xs ++ ys) ≡ drop n xs ++ drop (n - length xs) ys
  drop-both n xs ys = elim (cases_lt n (length xs)) [
    | inl below ↦
        let none : n - length xs ≡ 0 = omega (arith, below) in
        drop-append-le n xs ys (omega (arith, below)) ∙ ap (λ k. drop n xs ++ drop k ys) (sym none)
    | inr past ↦
        let whole : n ≡ length xs + (n - length xs) = omega (arith, past) in
        ap (λ k. drop k (xs ++ ys)) whole ∙ drop-append-add xs ys (n - length xs) ∙ ap (λ zs. zs ++ drop (n - length xs) ys) (sym (drop_all n xs past))
  ]

  -- what stands at a place of the rest
  pub slice_get-drop : (n : ℕ) (xs : List A) (k : ℕ) → slice_get (drop n xs) k ≡ slice_get xs (n + k)
  slice_get-drop zero xs k = let e : k ≡ 0 + k = omega arith in ap (slice_get xs) e
  slice_get-drop (suc n) [] k = refl
  slice_get-drop (suc n) (x ∷ xs) k = let e : suc (n + k) ≡ suc n + k = omega arith in slice_get-drop n xs k ∙ ap (slice_get (x ∷ xs)) e

  -- what stands behind the first elements stands in the rest
  pub slice_get-behind : (n : ℕ) (xs : List A) (k : ℕ) (x : A) → n ≤ k → slice_get xs k ≡ Some x → slice_get (drop n xs) (k - n) ≡ Some x
  slice_get-behind n xs k x le at = let e : n + (k - n) ≡ k = omega (arith, le) in slice_get-drop n xs (k - n) ∙ ap (slice_get xs) e ∙ at
