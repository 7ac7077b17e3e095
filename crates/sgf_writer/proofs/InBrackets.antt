-- Round which nodes' texts brackets stand.
use Rattle.std.proofs.Common.{◌≡◌, ◌≢◌, ℕ, ◌+◌, ltb, true, false, [], ◌∷◌, length, Option, Some, None, refl, sym, ◌∙◌, ap, arith}
use Rattle.std.proofs.lemmas.Bool.{lt-ltb, le-ltb}
use Rattle.std.specs.Prelude.{is_some}
use Rattle.std.specs.Option.{option_map_or}
use Rattle.node_paths.proofs.Ancestors.{child_behind, parent-lt}
use Rattle.game_tree.specs.Built.{IsGrown}
use Rattle.game_tree.specs.Stored.{siblings_from}
use Rattle.game_tree.specs.Tree.{Tree, children_of, first_child_of, next_sibling_of, parent_of}
use Rattle.game_tree.proofs.Trees.{first_child-behind, next_sibling-missing, siblings_from-first, siblings_from-next}
use Rattle.sgf_writer.specs.Walk.{in_brackets}

-- the children of a node, from its first child on
pub children-first : (tree : Tree) (n c : ℕ) → first_child_of tree n ≡ Some c → children_of tree n ≡ c ∷ siblings_from tree (next_sibling_of tree c)
children-first tree n c e = sym (siblings_from-first tree n) ∙ ap (siblings_from tree) e ∙ siblings_from-next tree c

pub in_brackets-child : (tree : Tree) (n c : ℕ) → parent_of tree c ≡ Some n → in_brackets tree c ≡ ltb 1 (length (children_of tree n))
in_brackets-child tree n c e = ap (λ o. option_map_or (λ p. ltb 1 (length (children_of tree p))) o true) e

pub in_brackets-root : (tree : Tree) (n : ℕ) → parent_of tree n ≡ None → in_brackets tree n ≡ true
in_brackets-root tree n e = ap (λ o. option_map_or (λ p. ltb 1 (length (children_of tree p))) o true) e

-- where a node has one child alone, and where it has more
pub one_child : (tree : Tree) (n c : ℕ) → children_of tree n ≡ c ∷ siblings_from tree (next_sibling_of tree c) → next_sibling_of tree c ≡ None → ltb 1 (length (children_of tree n)) ≡ false
one_child tree n c all last =
    let one : children_of tree n ≡ c ∷ [] = all ∙ ap (λ o. c ∷ siblings_from tree o) last in
    le-ltb 1 (length (children_of tree n)) (omega (arith, ap length one))

pub more_children : (tree : Tree) (n c s : ℕ) → children_of tree n ≡ c ∷ siblings_from tree (next_sibling_of tree c) → next_sibling_of tree c ≡ Some s → ltb 1 (length (children_of tree n)) ≡ true
more_children tree n c s all next =
    let two : children_of tree n ≡ c ∷ s ∷ siblings_from tree (next_sibling_of tree s) = all ∙ ap (λ o. c ∷ siblings_from tree o) next ∙ ap (λ xs. c ∷ xs) (siblings_from-next tree s) in
    lt-ltb 1 (length (children_of tree n)) (omega (arith, ap length two))

module _ (tree : Tree) (grown : IsGrown tree) where
  -- a first child that has no next sibling is an only child
  pub in_brackets-first : (n c : ℕ) → parent_of tree c ≡ Some n → c ≡ n + 1 → is_some (next_sibling_of tree c) ≡ in_brackets tree c
  in_brackets-first n c e first = go (next_sibling_of tree c) refl
    where
      behind : parent_of tree (n + 1) ≡ Some n
      behind = ap (parent_of tree) (sym first) ∙ e

      all : children_of tree n ≡ c ∷ siblings_from tree (next_sibling_of tree c)
      all = children-first tree n c (first_child-behind tree grown n behind ∙ ap (λ i. Some i) (sym first))

      go : (o : Option ℕ) → next_sibling_of tree c ≡ o → is_some (next_sibling_of tree c) ≡ in_brackets tree c
      go None none = ap is_some none ∙ sym (one_child tree n c all none) ∙ sym (in_brackets-child tree n c e)
      go (Some s) next = ap is_some next ∙ sym (more_children tree n c s all next) ∙ sym (in_brackets-child tree n c e)

  -- a child that is not the first is not the only one
  pub in_brackets-later : (n c : ℕ) → parent_of tree c ≡ Some n → c ≢ n + 1 → true ≡ in_brackets tree c
  in_brackets-later n c e later = go (next_sibling_of tree (n + 1)) refl
    where
      behind : parent_of tree (n + 1) ≡ Some n
      behind = child_behind grown.parents n c e

      all : children_of tree n ≡ (n + 1) ∷ siblings_from tree (next_sibling_of tree (n + 1))
      all = children-first tree n (n + 1) (first_child-behind tree grown n behind)

      go : (o : Option ℕ) → next_sibling_of tree (n + 1) ≡ o → true ≡ in_brackets tree c
      go None none = absurd (next_sibling-missing tree n (n + 1) behind none c (omega (arith, parent-lt grown.parents c n e)) e)
      go (Some s) next = sym (more_children tree n (n + 1) s all next) ∙ sym (in_brackets-child tree n c e)
