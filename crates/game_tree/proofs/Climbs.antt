-- The climb from the last node to the last child of one of its ancestors.
use Rattle.std.proofs.Common.{◌≡◌, ◌≢◌, ℕ, ◌-◌, ◌<◌, ◌≤◌, Some, None, sym, ◌∙◌, subst, arith, inl, inr}
use Rattle.std.proofs.lemmas.Bool.{cases_lt}
use Rattle.std.proofs.lemmas.Option.{same_Some}
use Rattle.node_paths.specs.Parents.{IsOnPathTo, higher, itself}
use Rattle.node_paths.proofs.Ancestors.{IsOnPathTo-between, IsOnPathTo-le, IsOnPathTo-step, IsOnPathTo-trans, not_below_sibling, parent-lt}
use Rattle.game_tree.specs.Built.{IsGrown}
use Rattle.game_tree.specs.Tree.{Tree, node_count, parent_of, next_sibling_of}
use Rattle.game_tree.proofs.Trees.{next_sibling-none, parent-in_range}

-- the climb has come to node n, an ancestor of each node behind it, on its way to the node p
pub record IsClimbed (tree : Tree) (p n : ℕ) : Type 0 where
  pub within : n < node_count tree
  pub lower : p < n
  pub below : IsOnPathTo (parent_of tree) p n
  pub each : (j : ℕ) → n ≤ j → j < node_count tree → IsOnPathTo (parent_of tree) n j

module _ (tree : Tree) (grown : IsGrown tree) (p : ℕ) where
  pub IsClimbed-none : 1 ≤ node_count tree → IsOnPathTo (parent_of tree) p (node_count tree - 1) → node_count tree - 1 ≢ p → IsClimbed tree p (node_count tree - 1)
  IsClimbed-none some below ne = record {
    within = omega arith;
    lower = omega (arith, IsOnPathTo-le grown.parents below);
    below = below;
    each = λ j low high. let last : node_count tree - 1 ≡ j = omega arith in subst (λ (i : ℕ). IsOnPathTo (parent_of tree) (node_count tree - 1) i) last itself;
  }

  module _ (n : ℕ) (climbed : IsClimbed tree p n) where
    pub IsClimbed-more : (q : ℕ) → parent_of tree n ≡ Some q → q ≢ p → IsClimbed tree p q
    IsClimbed-more q e ne =
        let less = parent-lt grown.parents n q e in
        let step = IsOnPathTo-step (parent_of tree) climbed.below (omega (arith, climbed.lower)) in
        let same : step.0 ≡ q = same_Some step.0 q (sym step.1 ∙ e) in
        let up : IsOnPathTo (parent_of tree) q n = higher e itself in
        record {
          within = omega (arith, less, climbed.within);
          lower = omega (arith, same, IsOnPathTo-le grown.parents step.2);
          below = subst (λ (i : ℕ). IsOnPathTo (parent_of tree) p i) same step.2;
          each = λ j low high. elim (cases_lt j n) [
            | inl l ↦ IsOnPathTo-between grown.parents q n j up low (omega arith)
            | inr h ↦ IsOnPathTo-trans (parent_of tree) up (climbed.each j h high)
          ];
        }

    -- where its parent is p, it is the last child of p
    pub IsClimbed-all : parent_of tree n ≡ Some p → next_sibling_of tree n ≡ None
    IsClimbed-all e = next_sibling-none tree p n e (λ j later ej.
        absurd (omega (arith, not_below_sibling grown.parents p n j e ej (climbed.each j (omega arith) (parent-in_range tree j p ej)))))
