-- How many nodes with more than one child stand on a path.
use Rattle.std.proofs.Common.{◌≡◌, ℕ, ◌+◌, ◌-◌, ◌<◌, ◌≤◌, ltb, Bool, false, cond, List, [], ◌∷◌, length, Some, None, refl, sym, ◌∙◌, ap, arith, inl, inr}
use Rattle.std.proofs.lemmas.Bool.{le-ltb}
use Rattle.std.proofs.lemmas.Option.{same_Some}
use Rattle.std.proofs.lemmas.List.Sums.{sum_by-cons, count_by-le-length}
use Rattle.std.specs.Prelude.{count_by}
use Rattle.node_paths.specs.Paths.{path_to}
use Rattle.node_paths.proofs.Ancestors.{cases_Option}
use Rattle.node_paths.proofs.PathLists.{length-path_within}
use Rattle.game_tree.specs.Built.{IsGrown}
use Rattle.game_tree.specs.Stored.{IsMainEnd, siblings_from}
use Rattle.game_tree.specs.Tree.{Tree, node_count, parent_of, children_of, branchings_to, first_child_of, next_sibling_of}
use Rattle.game_tree.proofs.Trees.{parent-in_range, first_child-found, next_sibling-none, siblings_from-first, siblings_from-next}

-- a path has at most as many branchings as nodes
pub branchings_to-le : (tree : Tree) (n : ℕ) → branchings_to tree n ≤ n + 1
branchings_to-le tree n =
    omega (arith, count_by-le-length (λ m. ltb 1 (length (children_of tree m))) (path_to (parent_of tree) n), length-path_within (parent_of tree) (n + 1) n)

count_none : (p : ℕ → Bool) → ((k : ℕ) → p k ≡ false) → (xs : List ℕ) → count_by p xs ≡ 0
count_none p none [] = refl
count_none p none (x ∷ xs) =
    let here : ◌≡◌ {A = ℕ} (cond (p x) 1 0) 0 = ap (λ b. cond b 1 0) (none x) in
    sum_by-cons (λ k. cond (p k) 1 0) x xs ∙ omega (arith, here, count_none p none xs)

-- a tree whose nodes all lie on the main line is one line: it has no branchings
module _ (tree : Tree) (grown : IsGrown tree) (main : ℕ) (end : IsMainEnd tree main) (whole : main ≡ node_count tree) where
  one_parent : (n : ℕ) → n + 1 < node_count tree → parent_of tree (n + 1) ≡ Some n
  one_parent n h = end.line n (omega (arith, whole))

  no_sibling : (n : ℕ) → parent_of tree (n + 1) ≡ Some n → next_sibling_of tree (n + 1) ≡ None
  no_sibling n e = next_sibling-none tree n (n + 1) e (λ j later ej.
      let here : j - 1 + 1 ≡ j = omega arith in
      let own : parent_of tree j ≡ Some (j - 1) = ap (parent_of tree) (sym here) ∙ one_parent (j - 1) (omega (arith, parent-in_range tree j n ej)) in
      absurd (omega (arith, same_Some (j - 1) n (sym own ∙ ej))))

  one_child : (n : ℕ) → length (children_of tree n) ≤ 1
  one_child n =
      elim (cases_Option (first_child_of tree n)) [
        | inl e ↦
            let none : children_of tree n ≡ [] = sym (siblings_from-first tree n) ∙ ap (siblings_from tree) e in
            omega (arith, ap length none)
        | inr p ↦
            let first = first_child-found tree grown n p.0 p.1 in
            let last : next_sibling_of tree p.0 ≡ None = ap (next_sibling_of tree) first.0 ∙ no_sibling n first.1 in
            let one : children_of tree n ≡ p.0 ∷ [] =
            sym (siblings_from-first tree n) ∙ ap (siblings_from tree) p.1 ∙ siblings_from-next tree p.0 ∙ ap (λ o. p.0 ∷ siblings_from tree o) last in
            omega (arith, ap length one)
      ]

  pub branchings_to-line : (n : ℕ) → branchings_to tree n ≡ 0
  branchings_to-line n = count_none (λ m. ltb 1 (length (children_of tree m))) (λ m. le-ltb 1 (length (children_of tree m)) (one_child m)) (path_to (parent_of tree) n)
