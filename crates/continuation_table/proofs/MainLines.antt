-- The main line of a tree, one node after another.
use Rattle.std.proofs.Common.{◌≡◌, ℕ, ◌+◌, ◌<◌, List, [], ◌∷◌, Some, refl, subst, ap, ◌∙◌, arith}
use Rattle.std.specs.Prelude.{All}
use Rattle.std.proofs.lemmas.List.Elements.{All-head}
use Rattle.std.proofs.lemmas.Option.{same_Some}
use Rattle.game_tree.specs.MainLine.{IsOnMainLine}
use Rattle.game_tree.specs.Tree.{Tree, IsTree, children_of, first_child_of, first_number, node_count, parent_of}
use Rattle.game_tree.proofs.Trees.{IsGrown-tree, children-each, first_child-found, parent-in_range}

module _ (tree : Tree) (is : IsTree tree) (n : ℕ) where
  -- a node of the main line is the first child of the node before it
  next_main : {m : ℕ} → IsOnMainLine tree m → m ≡ n + 1 → (first_child_of tree n ≡ Some (n + 1)) × (parent_of tree (n + 1) ≡ Some n)
  next_main IsOnMainLine.root e = absurd (omega arith)
  next_main (IsOnMainLine.first_child {m = p} {n = m} on next) e =
      let found = first_child-found tree (IsGrown-tree tree is) p m next in
      let same : p ≡ n = omega (arith, found.0) in (
        subst (λ (k : ℕ). first_child_of tree k ≡ Some (n + 1)) same (next ∙ ap (λ (k : ℕ). Some k) e),
        subst (λ (k : ℕ). parent_of tree (k + 1) ≡ Some k) same found.1,
      )

  pub main-first_child : IsOnMainLine tree (n + 1) → first_child_of tree n ≡ Some (n + 1)
  main-first_child on = (next_main on refl).0

  pub main-parent : IsOnMainLine tree (n + 1) → parent_of tree (n + 1) ≡ Some n
  main-parent on = (next_main on refl).1

-- ---- a node of the main line is there

first-is : (P : ℕ → Type 0) (ns : List ℕ) (c : ℕ) → first_number ns ≡ Some c → All P ns → P c
first-is P [] c e all = absurd cc
first-is P (n ∷ ns) c e all = subst P (same_Some n c e) (All-head P n ns all)

child-in_range : (tree : Tree) (n : ℕ) {m : ℕ} → IsOnMainLine tree m → m ≡ n + 1 → n + 1 < node_count tree
child-in_range tree n IsOnMainLine.root e = absurd (omega arith)
child-in_range tree n (IsOnMainLine.first_child {m = p} {n = m} on next) e =
    let above = first-is (λ (c : ℕ). parent_of tree c ≡ Some p) (children_of tree p) m next (children-each tree p) in
    omega (arith, e, parent-in_range tree m p above)

pub main-in_range : (tree : Tree) (n : ℕ) → IsOnMainLine tree (n + 1) → n + 1 < node_count tree
main-in_range tree n on = child-in_range tree n on refl
