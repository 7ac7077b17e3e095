-- The main line: the nodes below one number.
use Prim.Native.Nat.{zero}
use Rattle.std.proofs.Common.{◌≡◌, ℕ, ◌+◌, ◌-◌, ◌<◌, ◌≤◌, ◌↔◌, suc, Some, None, sym, ◌∙◌, ap, arith, inl, inr, add-one}
use Rattle.std.proofs.lemmas.Bool.{cases_eq, cases_lt}
use Rattle.node_paths.proofs.Ancestors.{cases_Option}
use Rattle.game_tree.specs.Built.{IsGrown}
use Rattle.game_tree.specs.MainLine.{IsOnMainLine}
use Rattle.game_tree.specs.Tree.{Tree, node_count, parent_of}
use Rattle.game_tree.specs.Stored.{IsMainEnd}
use Rattle.game_tree.proofs.Trees.{parent-in_range, first_child-behind, first_child-found}

module _ (tree : Tree) (grown : IsGrown tree) (main : ℕ) (is_end : IsMainEnd tree main) where
  on_main_line : (n : ℕ) → n < main → IsOnMainLine tree n
  on_main_line zero h = IsOnMainLine.root
  on_main_line (suc n) h =
      let e = first_child-behind tree grown n (is_end.line n (omega arith)) in
      IsOnMainLine.first_child (on_main_line n (omega arith)) (e ∙ ap (λ i. Some i) (add-one n))

  below_end : 1 ≤ node_count tree → {n : ℕ} → IsOnMainLine tree n → n < main
  below_end some IsOnMainLine.root = omega (arith, is_end.some some)
  below_end some (IsOnMainLine.first_child {m = m} {n = n} on e) =
      let f = first_child-found tree grown m n e in
      elim (cases_lt n main) [
        | inl h ↦ h
        | inr h ↦
            let here : m + 1 ≡ main = omega (arith, below_end some on, f.0) in
            let before : m ≡ main - 1 = omega arith in
            let parent : parent_of tree main ≡ Some (main - 1) = sym (ap (parent_of tree) here) ∙ f.1 ∙ ap (λ i. Some i) before in
            absurd (is_end.ended (parent-in_range tree main (main - 1) parent) parent)
      ]

  pub IsOnMainLine-below : 1 ≤ node_count tree → (n : ℕ) → (n < main) ↔ IsOnMainLine tree n
  IsOnMainLine-below some n = (on_main_line n, below_end some)

-- the nodes of the main line of a tree are those below some number
main_end_from : (tree : Tree) (most n : ℕ) → n + most ≡ node_count tree → 1 ≤ n → ((k : ℕ) → k + 1 < n → parent_of tree (k + 1) ≡ Some k) → (main : ℕ) × IsMainEnd tree main
main_end_from tree zero n h low line = (n, record { within = omega arith; some = λ s. low; line = line; ended = λ l. absurd (omega arith) })
main_end_from tree (suc most) n h low line =
    elim (cases_Option (parent_of tree n)) [
      | inl e ↦ (n, record { within = omega arith; some = λ s. low; line = line; ended = λ l f. let g : None ≡ Some (n - 1) = sym e ∙ f in absurd cc })
      | inr p ↦ elim (cases_eq p.0 (n - 1)) [
        | inl s ↦ main_end_from tree most (n + 1) (omega arith) (omega arith) (λ k l. elim (cases_lt (k + 1) n) [
          | inl lower ↦ line k lower
          | inr upper ↦
              let here : n ≡ k + 1 = omega arith in
              let before : p.0 ≡ k = omega arith in
              sym (ap (parent_of tree) here) ∙ p.1 ∙ ap (λ i. Some i) before
        ])
        | inr ne ↦ (n, record { within = omega arith; some = λ s. low; line = line; ended = λ l f. ne (let g : Some p.0 ≡ Some (n - 1) = sym p.1 ∙ f in cc) })
      ]
    ]

pub main_end : (tree : Tree) → 1 ≤ node_count tree → (main : ℕ) × IsMainEnd tree main
main_end tree some = main_end_from tree (node_count tree - 1) 1 (omega arith) (omega arith) (λ k l. absurd (omega arith))
