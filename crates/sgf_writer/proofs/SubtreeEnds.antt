-- Where subtrees end, and how many brackets are open at a node.
use Rattle.std.proofs.Common.{◌≡◌, ℕ, ◌+◌, ◌<◌, ltb, cond, List, [], ◌∷◌, length, Option, Some, None, refl, sym, ◌∙◌, ap, subst, arith, inl, inr}
use Rattle.std.proofs.lemmas.Bool.{cases_lt}
use Rattle.std.proofs.lemmas.List.Sums.{sum_by-cons}
use Rattle.std.specs.Prelude.{count_by}
use Rattle.std.specs.Option.{option_map_or}
use Rattle.node_paths.specs.Paths.{path_to}
use Rattle.node_paths.proofs.Ancestors.{IsOnPathTo-le, IsOnPathTo-step, cases_Option, parent-lt}
use Rattle.node_paths.proofs.PathLists.{path_to-parent, path_to-root}
use Rattle.game_tree.specs.Built.{IsGrown}
use Rattle.kb_geometry.specs.Counts.{one_if}
use Rattle.game_tree.specs.Stored.{siblings_from}
use Rattle.game_tree.specs.Tree.{Tree, branchings_to, children_of, first_child_of, first_number, next_sibling_of, node_count, parent_of}
use Rattle.game_tree.proofs.Subtrees.{IsSubtree, IsSubtree-at, IsSubtree-last, IsSubtree-next}
use Rattle.game_tree.proofs.Trees.{first_child-behind, next_sibling-found, parent-in_range, siblings_from-next}

-- ---- ends

pub same_end : (tree : Tree) (n a b : ℕ) → IsSubtree tree n a → IsSubtree tree n b → a ≡ b
same_end tree n a b x y =
    elim (cases_lt a b) [
      | inl l ↦ absurd (omega (arith, x.only a (omega (arith, l, y.within)) (y.inside a (omega (arith, x.later)) l)))
      | inr h ↦ elim (cases_lt b a) [
        | inl l ↦ absurd (omega (arith, y.only b (omega (arith, l, x.within)) (x.inside b (omega (arith, y.later)) l)))
        | inr g ↦ let e : a ≡ b = omega arith in e
      ]
    ]

-- the first and the other siblings
pub siblings-head : (tree : Tree) (n : ℕ) (others : List ℕ) (o : Option ℕ) → n ∷ others ≡ siblings_from tree o → (o ≡ Some n) × (others ≡ siblings_from tree (next_sibling_of tree n))
siblings-head tree n others None e = absurd cc
siblings-head tree n others (Some c) e =
    let both : n ∷ others ≡ c ∷ siblings_from tree (next_sibling_of tree c) = e ∙ siblings_from-next tree c in
    let head : n ≡ c = cc in
    let tail : others ≡ siblings_from tree (next_sibling_of tree c) = cc in
    (ap (λ i. Some i) (sym head), tail ∙ ap (λ i. siblings_from tree (next_sibling_of tree i)) (sym head))

pub siblings-none : (tree : Tree) (o : Option ℕ) → [] ≡ siblings_from tree o → o ≡ None
siblings-none tree None e = refl
siblings-none tree (Some c) e = absurd (let f : [] ≡ c ∷ siblings_from tree (next_sibling_of tree c) = e ∙ siblings_from-next tree c in cc)

-- what comes next in a subtree of m that ends there: a child of m with this number, or the end
abbrev pub Starts : Tree → ℕ → ℕ → Option ℕ → ℕ → Type 0
Starts tree m end None number = number ≡ end
Starts tree m end (Some c) number = (c ≡ number) × (parent_of tree c ≡ Some m)

module _ (tree : Tree) (grown : IsGrown tree) where
  pub leaf-end : (n : ℕ) → n < node_count tree → children_of tree n ≡ [] → IsSubtree tree n (n + 1)
  leaf-end n h none =
      let sub = IsSubtree-at tree grown n h in
      elim (cases_lt (n + 1) sub.0) [
        | inl l ↦
            let step = IsOnPathTo-step (parent_of tree) (sub.1.inside (n + 1) (omega arith) l) (omega arith) in
            let same : step.0 ≡ n = omega (arith, IsOnPathTo-le grown.parents step.2, parent-lt grown.parents (n + 1) step.0 step.1) in
            let child : first_child_of tree n ≡ Some (n + 1) = first_child-behind tree grown n (step.1 ∙ ap (λ i. Some i) same) in
            absurd (let f : None ≡ Some (n + 1) = sym (ap first_number none) ∙ child in cc)
        | inr g ↦ let e : sub.0 ≡ n + 1 = omega (arith, sub.1.later) in subst (λ (i : ℕ). IsSubtree tree n i) e sub.1
      ]

  pub starts-next : (m n end len : ℕ) → parent_of tree n ≡ Some m → IsSubtree tree m end → IsSubtree tree n (n + len) → Starts tree m end (next_sibling_of tree n) (n + len)
  starts-next m n end len parent all own = go (next_sibling_of tree n) refl
    where
      go : (o : Option ℕ) → next_sibling_of tree n ≡ o → Starts tree m end o (n + len)
      go None none = same_end tree n (n + len) end own (IsSubtree-last tree grown m n end parent none all)
      go (Some s) next = (same_end tree n s (n + len) (IsSubtree-next tree grown m n s parent next) own, (next_sibling-found tree m n s parent next).0)

  -- ---- brackets

  -- how many nodes above a node have more than one child
  abbrev pub branchings_above : ℕ → ℕ
  branchings_above n = option_map_or (branchings_to tree) (parent_of tree n) 0

  pub branchings-step : (n : ℕ) → branchings_to tree n ≡ branchings_above n + one_if (ltb 1 (length (children_of tree n)))
  branchings-step n =
      elim (cases_Option (parent_of tree n)) [
        | inl e ↦
            let path = ap (count_by (λ k. ltb 1 (length (children_of tree k)))) (path_to-root grown.parents n e) in
            let above : branchings_above n ≡ 0 = ap (λ o. option_map_or (branchings_to tree) o 0) e in
            path ∙ sum_by-cons (λ k. cond (ltb 1 (length (children_of tree k))) 1 0) n [] ∙ omega (arith, above)
        | inr p ↦
            let path = ap (count_by (λ k. ltb 1 (length (children_of tree k)))) (path_to-parent grown.parents n p.0 p.1) in
            let above : branchings_above n ≡ branchings_to tree p.0 = ap (λ o. option_map_or (branchings_to tree) o 0) p.1 in
            path ∙ sum_by-cons (λ k. cond (ltb 1 (length (children_of tree k))) 1 0) n (path_to (parent_of tree) p.0) ∙ omega (arith, above)
      ]

  pub branchings_above-child : (n c : ℕ) → parent_of tree c ≡ Some n → branchings_above c ≡ branchings_to tree n
  branchings_above-child n c e = ap (λ o. option_map_or (branchings_to tree) o 0) e

  pub branchings_above-root : (n : ℕ) → parent_of tree n ≡ None → branchings_above n ≡ 0
  branchings_above-root n e = ap (λ o. option_map_or (branchings_to tree) o 0) e

  pub branchings_above-lt : ((n : ℕ) → n < node_count tree → branchings_to tree n < 1024) → (n : ℕ) → branchings_above n < 1024
  branchings_above-lt depth n =
      elim (cases_Option (parent_of tree n)) [
        | inl e ↦ omega (arith, branchings_above-root n e)
        | inr p ↦ omega (arith, branchings_above-child p.0 n p.1, depth p.0 (omega (arith, parent-lt grown.parents n p.0 p.1, parent-in_range tree n p.0 p.1)))
      ]
