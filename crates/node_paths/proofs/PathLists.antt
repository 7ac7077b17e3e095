-- The path from a node to the root as a list.
use Prim.Native.Nat.{zero}
use Rattle.std.proofs.Common.{◌≡◌, ℕ, ◌+◌, ◌<◌, ◌≤◌, ◌↔◌, suc, List, [], ◌∷◌, ◌++◌, length, All, Contains, Option, Some, None, refl, sym, ◌∙◌, ap, subst, arith, inl, inr, add-one}
use Rattle.std.proofs.lemmas.List.Elements.{All-cons, All-nil}
use Rattle.std.specs.Option.{option_map_or}
use Rattle.node_paths.specs.Parents.{AreParents, IsOnPathTo, itself, higher}
use Rattle.node_paths.specs.Paths.{path_within, path_to}
use Rattle.node_paths.proofs.Ancestors.{cases_Option, parent-lt, may_have-none}

-- ---- a path step by step

module _ (parent : ℕ → Option ℕ) (most n : ℕ) where
  pub path_within-none : parent n ≡ None → path_within parent (suc most) n ≡ n ∷ []
  path_within-none e = ap (λ o. n ∷ option_map_or (path_within parent most) o []) e

  pub path_within-some : (m : ℕ) → parent n ≡ Some m → path_within parent (suc most) n ≡ n ∷ path_within parent most m
  path_within-some m e = ap (λ o. n ∷ option_map_or (path_within parent most) o []) e

pub length-path_within : (parent : ℕ → Option ℕ) (most n : ℕ) → length (path_within parent most n) ≤ most
length-path_within parent zero n = omega arith
length-path_within parent (suc most) n =
    elim (cases_Option (parent n)) [
      | inl e ↦ omega (arith, ap length (path_within-none parent most n e))
      | inr p ↦ omega (arith, ap length (path_within-some parent most n p.0 p.1), length-path_within parent most p.0)
    ]

-- ---- two parent functions that are the same below a number

module _ {p : ℕ → Option ℕ} {all : ℕ} (q : ℕ → Option ℕ) (count : ℕ) (are : AreParents p all) (agree : (n : ℕ) → n < count → p n ≡ q n) where
  pub IsOnPathTo-same : {a n : ℕ} → IsOnPathTo p a n → n < count → IsOnPathTo q a n
  IsOnPathTo-same itself h = itself
  IsOnPathTo-same (higher {a = a} {m = m} {n = n} e above) h =
      higher (sym (agree n h) ∙ e) (IsOnPathTo-same above (omega (arith, parent-lt are n m e)))

  -- have the same path from each node there, and all of it in each number of nodes that is large enough
  pub path_within-same : (a b n : ℕ) → n < count → n < a → n < b → path_within p a n ≡ path_within q b n
  path_within-same zero b n h la lb = absurd (omega arith)
  path_within-same (suc a) zero n h la lb = absurd (omega arith)
  path_within-same (suc a) (suc b) n h la lb =
      elim (cases_Option (p n)) [
        | inl e ↦ path_within-none p a n e ∙ sym (path_within-none q b n (sym (agree n h) ∙ e))
        | inr r ↦
            let less = parent-lt are n r.0 r.1 in
            path_within-some p a n r.0 r.1
            ∙ ap (λ ms. n ∷ ms) (path_within-same a b r.0 (omega (arith, less)) (omega (arith, less)) (omega (arith, less)))
            ∙ sym (path_within-some q b n r.0 (sym (agree n h) ∙ r.1))
      ]

  pub path_to-same : (n : ℕ) → n < count → path_to p n ≡ path_to q n
  path_to-same n h = path_within-same (n + 1) (n + 1) n h (omega arith) (omega arith)

-- ---- the path to a node

module _ {parent : ℕ → Option ℕ} {count : ℕ} (are : AreParents parent count) where
  -- above the node itself stands the path from its parent
  pub path_to-parent : (n m : ℕ) → parent n ≡ Some m → path_to parent n ≡ n ∷ path_to parent m
  path_to-parent n m e =
      let less = parent-lt are n m e in
      ap (λ most. path_within parent most n) (add-one n)
      ∙ path_within-some parent n n m e
      ∙ ap (λ ms. n ∷ ms) (path_within-same parent (suc n) are (λ k h. refl) n (m + 1) m (omega (arith, less)) less (omega arith))

  pub path_to-root : (n : ℕ) → parent n ≡ None → path_to parent n ≡ n ∷ []
  path_to-root n e = ap (λ most. path_within parent most n) (add-one n) ∙ path_within-none parent n n e

  below-within : (most bound n : ℕ) → n < bound → All (λ k. k < bound) (path_within parent most n)
  below-within zero bound n h = All-nil (λ k. k < bound)
  below-within (suc most) bound n h =
      elim (cases_Option (parent n)) [
        | inl e ↦
            subst (λ (ks : List ℕ). All (λ k. k < bound) ks) (sym (path_within-none parent most n e))
            (All-cons (λ k. k < bound) n [] h (All-nil (λ k. k < bound)))
        | inr p ↦
            subst (λ (ks : List ℕ). All (λ k. k < bound) ks) (sym (path_within-some parent most n p.0 p.1))
            (All-cons (λ k. k < bound) n (path_within parent most p.0) h
            (below-within most bound p.0 (omega (arith, parent-lt are n p.0 p.1))))
      ]

  -- the nodes of a path are below each number that its lowest node is below
  pub path_to-below : (bound n : ℕ) → n < bound → All (λ k. k < bound) (path_to parent n)
  path_to-below bound n h = below-within (n + 1) bound n h

  -- ---- what is on it

  Contains-one : (n a : ℕ) → Contains (n ∷ []) a → n ≡ a
  Contains-one n a (zero, lt, at) = at
  Contains-one n a (suc k, lt, at) = absurd (omega arith)

  IsOnPathTo-within : (most n a : ℕ) → Contains (path_within parent most n) a → IsOnPathTo parent a n
  IsOnPathTo-within zero n a (k, lt, at) = absurd (omega arith)
  IsOnPathTo-within (suc most) n a (zero, lt, at) = subst (λ (i : ℕ). IsOnPathTo parent i n) at itself
  IsOnPathTo-within (suc most) n a (suc k, lt, at) =
      elim (cases_Option (parent n)) [
        | inl e ↦ absurd (omega (arith, ap length (path_within-none parent most n e)))
        | inr p ↦
            let up = ap (λ o. option_map_or (path_within parent most) o []) p.1 in
            let there : Contains (option_map_or (path_within parent most) (parent n) []) a = (k, omega arith, at) in
            higher p.1 (IsOnPathTo-within most p.0 a (subst (λ (ks : List ℕ). Contains ks a) up there))
      ]

  within-IsOnPathTo : (most n a : ℕ) → n < most → IsOnPathTo parent a n → Contains (path_within parent most n) a
  within-IsOnPathTo zero n a h up = absurd (omega arith)
  within-IsOnPathTo (suc most) n a h itself = (0, omega arith, refl)
  within-IsOnPathTo (suc most) n a h (higher {m = m} e above) =
      let rest = within-IsOnPathTo most m a (omega (arith, parent-lt are n m e)) above in
      let longer : Contains (n ∷ path_within parent most m) a = (suc rest.0, omega (arith, rest.1), rest.2) in
      subst (λ (ks : List ℕ). Contains ks a) (sym (path_within-some parent most n m e)) longer

  pub path_to-holds : (n a : ℕ) → Contains (path_to parent n) a ↔ IsOnPathTo parent a n
  path_to-holds n a = (IsOnPathTo-within (n + 1) n a, within-IsOnPathTo (n + 1) n a (omega arith))

  ends-within : (most n : ℕ) → n < most → n < count → (lower : List ℕ) × (path_within parent most n ≡ lower ++ 0 ∷ [])
  ends-within zero n h l = absurd (omega arith)
  ends-within (suc most) n h l =
      elim (cases_Option (parent n)) [
        | inl e ↦
            let root : n ≡ 0 = may_have-none parent n (parent n) (are.each n l) e in
            ([], path_within-none parent most n e ∙ ap (λ i. i ∷ []) root)
        | inr p ↦
            let less = parent-lt are n p.0 p.1 in
            let rest = ends-within most p.0 (omega (arith, less)) (omega (arith, less)) in
            (n ∷ rest.0, path_within-some parent most n p.0 p.1 ∙ ap (λ ks. n ∷ ks) rest.1)
      ]

  pub path_to-ends : (n : ℕ) → n < count → (lower : List ℕ) × (path_to parent n ≡ lower ++ 0 ∷ [])
  path_to-ends n h = ends-within (n + 1) n (omega arith) h
