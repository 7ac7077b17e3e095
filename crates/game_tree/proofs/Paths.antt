-- The moves on the path from a node to the root.
use Prim.Native.Nat.{zero}
use Rattle.std.proofs.Common.{◌≡◌, ℕ, ◌+◌, ◌<◌, ◌≤◌, suc, Bool, true, false, cond, [], Some, None, sym, ◌∙◌, ap, arith, inl, inr}
use Rattle.std.proofs.lemmas.List.Sums.{sum_by-cons}
use Rattle.std.specs.Prelude.{count_by, is_some}
use Rattle.node_paths.specs.Paths.{path_to}
use Rattle.node_paths.proofs.Ancestors.{cases_Option, parent-lt}
use Rattle.node_paths.proofs.PathLists.{path_to-parent, path_to-root}
use Rattle.game_tree.specs.Built.{IsGrown}
use Rattle.game_tree.specs.Tree.{Tree, node_at, parent_of, move_number_of}
use Rattle.kb_geometry.specs.Counts.{one_if}

module _ (tree : Tree) (grown : IsGrown tree) where
  -- the move number of a node is that of its parent, plus 1 if it plays
  pub move_number-parent : (n m : ℕ) → parent_of tree n ≡ Some m → move_number_of tree n ≡ move_number_of tree m + one_if (is_some (node_at tree n).played)
  move_number-parent n m e =
      ap (count_by (λ k. is_some (node_at tree k).played)) (path_to-parent grown.parents n m e)
      ∙ sum_by-cons (λ k. cond (is_some (node_at tree k).played) 1 0) n (path_to (parent_of tree) m)
      ∙ omega arith

  pub move_number-root : (n : ℕ) → parent_of tree n ≡ None → move_number_of tree n ≡ one_if (is_some (node_at tree n).played)
  move_number-root n e =
      ap (count_by (λ k. is_some (node_at tree k).played)) (path_to-root grown.parents n e)
      ∙ sum_by-cons (λ k. cond (is_some (node_at tree k).played) 1 0) n []
      ∙ omega arith

  one_if-le : (b : Bool) → one_if b ≤ 1
  one_if-le true = omega arith
  one_if-le false = omega arith

  moves_within-le : (most n : ℕ) → n < most → move_number_of tree n ≤ n + 1
  moves_within-le zero n h = absurd (omega arith)
  moves_within-le (suc most) n h =
      elim (cases_Option (parent_of tree n)) [
        | inl e ↦ omega (arith, move_number-root n e, one_if-le (is_some (node_at tree n).played))
        | inr p ↦
            let less = parent-lt grown.parents n p.0 p.1 in
            omega (arith, move_number-parent n p.0 p.1, one_if-le (is_some (node_at tree n).played), less, moves_within-le most p.0 (omega (arith, less)))
      ]

  -- at most one move stands at each node of the path
  pub move_number-le : (n : ℕ) → move_number_of tree n ≤ n + 1
  move_number-le n = moves_within-le (suc n) n (omega arith)

-- two trees whose nodes below a number have the same parents and moves have the same move numbers there
module _ (t u : Tree) (count : ℕ) (grown_t : IsGrown t) (grown_u : IsGrown u) (agree : (n : ℕ) → n < count → parent_of t n ≡ parent_of u n) (played : (n : ℕ) → n < count → (node_at t n).played ≡ (node_at u n).played) where
  moves-same : (most n : ℕ) → n < most → n < count → move_number_of t n ≡ move_number_of u n
  moves-same zero n h l = absurd (omega arith)
  moves-same (suc most) n h l =
      let here : ◌≡◌ {A = ℕ} (one_if (is_some (node_at t n).played)) (one_if (is_some (node_at u n).played)) = ap (λ o. one_if (is_some o)) (played n l) in
      elim (cases_Option (parent_of t n)) [
        | inl e ↦ move_number-root t grown_t n e ∙ here ∙ sym (move_number-root u grown_u n (sym (agree n l) ∙ e))
        | inr p ↦
            let less = parent-lt grown_t.parents n p.0 p.1 in
            let above = moves-same most p.0 (omega (arith, less)) (omega (arith, less)) in
            omega (arith, move_number-parent t grown_t n p.0 p.1, move_number-parent u grown_u n p.0 (sym (agree n l) ∙ p.1), above, here)
      ]

  pub move_number-same : (n : ℕ) → n < count → move_number_of t n ≡ move_number_of u n
  move_number-same n h = moves-same (suc n) n (omega arith) h
