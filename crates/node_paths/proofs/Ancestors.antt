-- Ancestors by their numbers.
use Prim.Native.Nat.{zero}
use Rattle.std.proofs.Common.{◌≡◌, ◌≢◌, ℕ, ◌+◌, ◌-◌, ◌<◌, ◌≤◌, ◌⊎◌, suc, Option, Some, None, refl, sym, ◌∙◌, ap, subst, arith, inl, inr}
use Rattle.std.proofs.lemmas.Bool.{cases_eq, cases_lt}
use Rattle.std.proofs.lemmas.Option.{same_Some}
use Rattle.node_paths.specs.Parents.{AreParents, IsOnPathTo, MayHaveParent, itself, higher}

-- an option is None or Some
pub cases_Option : (o : Option ℕ) → (o ≡ None) ⊎ ((m : ℕ) × (o ≡ Some m))
cases_Option None = inl refl
cases_Option (Some m) = inr (m, refl)

module _ (parent : ℕ → Option ℕ) where
  pub IsOnPathTo-trans : {a b c : ℕ} →
      IsOnPathTo parent a b → IsOnPathTo parent b c → IsOnPathTo parent a c
  IsOnPathTo-trans up itself = up
  IsOnPathTo-trans up (higher e above) = higher e (IsOnPathTo-trans up above)

  -- an ancestor of a node is on the path to its parent
  pub IsOnPathTo-step : {a n : ℕ} → IsOnPathTo parent a n → a ≢ n →
      (m : ℕ) × (parent n ≡ Some m) × IsOnPathTo parent a m
  IsOnPathTo-step itself ne = absurd (ne refl)
  IsOnPathTo-step (higher e above) ne = (_, e, above)

  -- where no number past so many has a parent, only these nodes have one
  pub in_range_from : (count : ℕ) → ((n : ℕ) → count ≤ n → parent n ≡ None) →
      (n m : ℕ) → parent n ≡ Some m → n < count
  in_range_from count past n m e =
      elim (cases_lt n count) [
        | inl h ↦ h
        | inr h ↦ let none : None ≡ Some m = sym (past n h) ∙ e in absurd cc
      ]

-- ---- parents that a node may have

module _ (parent : ℕ → Option ℕ) (n : ℕ) where
  pub may_have-none : (o : Option ℕ) → MayHaveParent parent n o → o ≡ None → n ≡ 0
  may_have-none None may e = may
  may_have-none (Some m) may e = absurd cc

  pub may_have-some : (o : Option ℕ) (m : ℕ) → MayHaveParent parent n o → o ≡ Some m →
      (m < n) × IsOnPathTo parent m (n - 1)
  may_have-some o m may e = subst (λ (p : Option ℕ). MayHaveParent parent n p) e may

module _ {parent : ℕ → Option ℕ} {count : ℕ} (are : AreParents parent count) where
  pub parent-in_range : (n m : ℕ) → parent n ≡ Some m → n < count
  parent-in_range = in_range_from parent count are.past

  parent-before : (n m : ℕ) → parent n ≡ Some m → (m < n) × IsOnPathTo parent m (n - 1)
  parent-before n m e = may_have-some parent n (parent n) m (are.each n (parent-in_range n m e)) e

  pub parent-lt : (n m : ℕ) → parent n ≡ Some m → m < n
  parent-lt n m e = (parent-before n m e).0

  -- a parent is the node before, or an ancestor of that
  pub parent-above : (n m : ℕ) → parent (suc n) ≡ Some m → IsOnPathTo parent m n
  parent-above n m e =
      let before : suc n - 1 ≡ n = omega arith in
      subst (λ (i : ℕ). IsOnPathTo parent m i) before (parent-before (suc n) m e).1

  -- the first node has no parent
  pub root-parent : parent 0 ≡ None
  root-parent = elim (cases_Option (parent 0)) [
    | inl e ↦ e
    | inr p ↦ absurd (omega (arith, parent-lt 0 p.0 p.1))
  ]

  -- each later one has a parent
  pub later-parent : (n : ℕ) → 1 ≤ n → n < count →
      (m : ℕ) × (parent n ≡ Some m) × (m < n) × IsOnPathTo parent m (n - 1)
  later-parent n low high =
      elim (cases_Option (parent n)) [
        | inl e ↦ absurd (omega (arith, may_have-none parent n (parent n) (are.each n high) e))
        | inr p ↦ let b = parent-before n p.0 p.1 in (p.0, p.1, b.0, b.1)
      ]

  pub IsOnPathTo-le : {a n : ℕ} → IsOnPathTo parent a n → a ≤ n
  IsOnPathTo-le itself = omega arith
  IsOnPathTo-le (higher {a = a} {m = m} {n = n} e above) = omega (arith, parent-lt n m e, IsOnPathTo-le above)

  -- the nodes from a node to one below it are all below it
  pub IsOnPathTo-between : (a n j : ℕ) → IsOnPathTo parent a n → a ≤ j → j ≤ n → IsOnPathTo parent a j
  IsOnPathTo-between a zero j up low high =
      let here : zero ≡ j = omega arith in subst (λ (i : ℕ). IsOnPathTo parent a i) here up
  IsOnPathTo-between a (suc n) j up low high =
      elim (cases_eq j (suc n)) [
        | inl e ↦ subst (λ (i : ℕ). IsOnPathTo parent a i) (sym e) up
        | inr ne ↦
            let p = IsOnPathTo-step parent up (omega arith) in
            IsOnPathTo-between a n j (IsOnPathTo-trans parent p.2 (parent-above n p.0 p.1)) low (omega arith)
      ]

  -- a child's subtree has no child of the same parent but itself
  pub not_below_sibling : (m c j : ℕ) → parent c ≡ Some m → parent j ≡ Some m → IsOnPathTo parent c j → c ≡ j
  not_below_sibling m c j ec ej up =
      elim (cases_eq c j) [
        | inl e ↦ e
        | inr ne ↦
            let p = IsOnPathTo-step parent up ne in
            let same : p.0 ≡ m = same_Some p.0 m (sym p.1 ∙ ej) in
            absurd (omega (arith, IsOnPathTo-le p.2, parent-lt c m ec))
      ]

  -- where a node has a child, the node behind it is one
  pub child_behind : (n c : ℕ) → parent c ≡ Some n → parent (n + 1) ≡ Some n
  child_behind n c e =
      let later = parent-lt c n e in
      let up : IsOnPathTo parent n c = higher e itself in
      let p = IsOnPathTo-step parent (IsOnPathTo-between n c (n + 1) up (omega arith) (omega arith)) (omega arith) in
      let same : p.0 ≡ n = omega (arith, IsOnPathTo-le p.2, parent-lt (n + 1) p.0 p.1) in
      p.1 ∙ ap (λ i. Some i) same
