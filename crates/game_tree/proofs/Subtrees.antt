-- Subtrees: a node with all below it is an interval of numbers.
use Prim.Native.Nat.{zero}
use Rattle.std.proofs.Common.{◌≡◌, ℕ, ◌+◌, ◌-◌, ◌<◌, ◌≤◌, suc, Some, None, sym, ◌∙◌, subst, arith, inl, inr}
use Rattle.std.proofs.lemmas.Bool.{cases_lt}
use Rattle.std.proofs.lemmas.Option.{same_Some}
use Rattle.node_paths.specs.Parents.{IsOnPathTo, higher, itself}
use Rattle.node_paths.proofs.Ancestors.{IsOnPathTo-between, IsOnPathTo-le, IsOnPathTo-step, IsOnPathTo-trans, cases_Option, not_below_sibling, parent-above, parent-lt}
use Rattle.game_tree.specs.Built.{IsGrown}
use Rattle.game_tree.specs.Tree.{Tree, node_count, parent_of, next_sibling_of}
use Rattle.game_tree.proofs.Trees.{parent-in_range, next_sibling-found, next_sibling-missing}

-- the nodes that node n is, or is an ancestor of, are n .. end - 1
pub record IsSubtree (tree : Tree) (n end : ℕ) : Type 0 where
  pub later : n < end
  pub within : end ≤ node_count tree
  pub inside : (j : ℕ) → n ≤ j → j < end → IsOnPathTo (parent_of tree) n j
  pub only : (j : ℕ) → j < node_count tree → IsOnPathTo (parent_of tree) n j → j < end

module _ (tree : Tree) (grown : IsGrown tree) where
  -- behind a subtree no node is below its root
  outside : (n end : ℕ) → n ≤ end → ¬ IsOnPathTo (parent_of tree) n end → (j : ℕ) → IsOnPathTo (parent_of tree) n j → j < end
  outside n end low not j up =
      elim (cases_lt j end) [
        | inl l ↦ l
        | inr h ↦ absurd (not (IsOnPathTo-between grown.parents n j end up low h))
      ]

  subtree_from : (n most end : ℕ) → end + most ≡ node_count tree → n < end → ((j : ℕ) → n ≤ j → j < end → IsOnPathTo (parent_of tree) n j) → (e : ℕ) × IsSubtree tree n e
  subtree_from n zero end h later inside = (end, record { later = later; within = omega arith; inside = inside; only = λ j l up. omega arith })
  subtree_from n (suc most) end h later inside =
      elim (cases_Option (parent_of tree end)) [
        | inl e ↦ (
          end,
          record {
            later = later;
            within = omega arith;
            inside = inside;
            only = λ j l up.
                outside n end (omega arith) (λ at. let p = IsOnPathTo-step (parent_of tree) at (omega arith) in let f : None ≡ Some p.0 = sym e ∙ p.1 in absurd cc) j up;
          },
        )
        | inr p ↦ elim (cases_lt p.0 n) [
          | inl low ↦ (
            end,
            record {
              later = later;
              within = omega arith;
              inside = inside;
              only = λ j l up.
                  outside n end (omega arith) (λ at.
                  let q = IsOnPathTo-step (parent_of tree) at (omega arith) in
                  absurd (omega (arith, same_Some q.0 p.0 (sym q.1 ∙ p.1), IsOnPathTo-le grown.parents q.2, low))) j up;
            },
          )
          | inr high ↦
              subtree_from n most (end + 1) (omega arith) (omega arith) (λ j low upper. elim (cases_lt j end) [
                | inl l ↦ inside j low l
                | inr l ↦
                    let here : end ≡ j = omega arith in
                    subst (λ (i : ℕ). IsOnPathTo (parent_of tree) n i) here (higher p.1 (inside p.0 high (parent-lt grown.parents end p.0 p.1)))
              ])
        ]
      ]

  pub IsSubtree-at : (n : ℕ) → n < node_count tree → (e : ℕ) × IsSubtree tree n e
  IsSubtree-at n h =
      subtree_from n (node_count tree - (n + 1)) (n + 1) (omega arith) (omega arith) (λ j low upper.
      let here : n ≡ j = omega arith in subst (λ (i : ℕ). IsOnPathTo (parent_of tree) n i) here itself)

  same_parent : (p m c : ℕ) → parent_of tree c ≡ Some p → parent_of tree c ≡ Some m → p ≡ m
  same_parent p m c e f = same_Some p m (sym e ∙ f)

  -- a node behind a child's subtree, but within that of the parent, is the parent's child
  behind_child : (m c e : ℕ) → parent_of tree c ≡ Some m → IsSubtree tree c e → e < node_count tree → IsOnPathTo (parent_of tree) m e → parent_of tree e ≡ Some m
  behind_child m c e ec sub h up =
      let less = parent-lt grown.parents c m ec in
      let step = IsOnPathTo-step (parent_of tree) up (omega (arith, less, sub.later)) in
      let q = step.0 in
      let last : suc (e - 1) ≡ e = omega (arith, sub.later) in
      let above_last : IsOnPathTo (parent_of tree) q (e - 1) = parent-above grown.parents (e - 1) q (subst (λ (i : ℕ). parent_of tree i ≡ Some q) (sym last) step.1) in
      let low : q < c = elim (cases_lt q c) [
        | inl l ↦ l
        | inr l ↦ absurd (omega (arith, sub.only e h (higher step.1 (sub.inside q l (parent-lt grown.parents e q step.1)))))
      ] in
      let above_child : IsOnPathTo (parent_of tree) q c = IsOnPathTo-between grown.parents q (e - 1) c above_last (omega (arith, low)) (omega (arith, sub.later)) in
      let above_parent = IsOnPathTo-step (parent_of tree) above_child (omega (arith, low)) in
      let same : q ≡ m = omega (arith, same_parent above_parent.0 m c above_parent.1 ec, IsOnPathTo-le grown.parents {n = above_parent.0} above_parent.2, IsOnPathTo-le grown.parents {n = q} step.2) in
      subst (λ (i : ℕ). parent_of tree e ≡ Some i) same step.1

  -- the next child begins where the subtree of the one before ends
  pub IsSubtree-next : (m c s : ℕ) → parent_of tree c ≡ Some m → next_sibling_of tree c ≡ Some s → IsSubtree tree c s
  IsSubtree-next m c s ec next =
      let found = next_sibling-found tree m c s ec next in
      let within = parent-in_range tree s m found.0 in
      let sub = IsSubtree-at c (parent-in_range tree c m ec) in
      let e = sub.0 in
      let not_less : s ≤ e = elim (cases_lt e s) [
        | inl l ↦ absurd (found.2 e sub.1.later l (behind_child m c e ec sub.1 (omega (arith, within)) (IsOnPathTo-between grown.parents m s e (higher found.0 itself) (omega (arith, parent-lt grown.parents c m ec, sub.1.later)) (omega (arith, l)))))
        | inr l ↦ l
      ] in
      let not_more : e ≤ s = elim (cases_lt s e) [
        | inl l ↦ absurd (omega (arith, not_below_sibling grown.parents m c s ec found.0 (sub.1.inside s (omega (arith, found.1)) l), found.1))
        | inr l ↦ l
      ] in
      let same : e ≡ s = omega (arith, not_less, not_more) in
      subst (λ (i : ℕ). IsSubtree tree c i) same sub.1

  -- the subtree of the last child ends where that of its parent ends
  pub IsSubtree-last : (m c end : ℕ) → parent_of tree c ≡ Some m → next_sibling_of tree c ≡ None → IsSubtree tree m end → IsSubtree tree c end
  IsSubtree-last m c end ec last whole =
      let sub = IsSubtree-at c (parent-in_range tree c m ec) in
      let e = sub.0 in
      let less = parent-lt grown.parents c m ec in
      let not_less : end ≤ e = elim (cases_lt e end) [
        | inl l ↦
            let h : e < node_count tree = omega (arith, l, whole.within) in
            absurd (next_sibling-missing tree m c ec last e sub.1.later (behind_child m c e ec sub.1 h (whole.inside e (omega (arith, less, sub.1.later)) l)))
        | inr l ↦ l
      ] in
      let not_more : e ≤ end = elim (cases_lt end e) [
        | inl l ↦
            let h : e - 1 < node_count tree = omega (arith, sub.1.within, sub.1.later) in
            absurd (omega (arith, l, whole.only (e - 1) h (IsOnPathTo-trans (parent_of tree) (higher ec itself) (sub.1.inside (e - 1) (omega (arith, sub.1.later)) (omega (arith, sub.1.later))))))
        | inr l ↦ l
      ] in
      let same : e ≡ end = omega (arith, not_less, not_more) in
      subst (λ (i : ℕ). IsSubtree tree c i) same sub.1
