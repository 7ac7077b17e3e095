-- The order of a tree's nodes: ancestors, children and siblings by their numbers.
use Rattle.std.proofs.Common.{◌≡◌, ◌≢◌, ℕ, ◌+◌, ◌<◌, ◌≤◌, eqb, ltb, Bool, true, false, [], ◌∷◌, Option, Some, None, All, refl, sym, ◌∙◌, ap, arith, inl, inr}
use Rattle.std.proofs.lemmas.Bool.{eq-eqb, eqb-true, lt-ltb, ltb-true, and_from, and_parts, false_from_ne_true, both_ways}
use Rattle.std.proofs.lemmas.List.{get_or_past}
use Rattle.std.proofs.lemmas.List.Elements.{filter_passes, All-weaker}
use Rattle.std.proofs.lemmas.Option.{same_Some}
use Rattle.std.specs.Prelude.{filter, option_and_then, ◌&&◌}
use Rattle.std.specs.List.{range_with_len}
use Rattle.std.specs.Option.{option_map_or}
use Rattle.node_paths.proofs.Ancestors.{cases_Option, child_behind, in_range_from, parent-lt}
use Rattle.game_tree.specs.Built.{IsGrown}
use Rattle.game_tree.specs.Tree.{Tree, Node, IsTree, node_count, parent_of, is_child_of, children_of, first_number, first_child_of, next_sibling_of}
use Rattle.game_tree.specs.Stored.{siblings_from}
use Rattle.game_tree.proofs.Ranges.{first_number-is, first_number-found, first_number-missing, filter_none, filter-filter, IsAscending-range, first_and_later, filter-twice_later}

pub IsGrown-tree : (tree : Tree) → IsTree tree → IsGrown tree
IsGrown-tree tree t = record { most = t.most; parents = t.parents; on_board = t.on_board }

-- behind the last node none has a parent
pub parent-past : (tree : Tree) (n : ℕ) → node_count tree ≤ n → parent_of tree n ≡ None
parent-past tree n h = ap (λ (d : Node). d.parent) (get_or_past tree.nodes n _ h)

-- only nodes of the tree have a parent
pub parent-in_range : (tree : Tree) (n m : ℕ) → parent_of tree n ≡ Some m → n < node_count tree
parent-in_range tree = in_range_from (parent_of tree) (node_count tree) (parent-past tree)

-- ---- tests for children

pub is_child-true : (tree : Tree) (m n : ℕ) → parent_of tree n ≡ Some m → is_child_of tree m n ≡ true
is_child-true tree m n e = ap (λ o. option_map_or (λ p. eqb p m) o false) e ∙ eq-eqb m m refl

is_child-cases : (o : Option ℕ) (m : ℕ) → option_map_or (λ p. eqb p m) o false ≡ true → o ≡ Some m
is_child-cases None m e = absurd cc
is_child-cases (Some p) m e = ap (λ i. Some i) (eqb-true p m e)

pub is_child-found : (tree : Tree) (m n : ℕ) → is_child_of tree m n ≡ true → parent_of tree n ≡ Some m
is_child-found tree m n e = is_child-cases (parent_of tree n) m e

pub is_child-false : (tree : Tree) (m n : ℕ) → parent_of tree n ≢ Some m → is_child_of tree m n ≡ false
is_child-false tree m n ne = false_from_ne_true (is_child_of tree m n) (λ e. ne (is_child-found tree m n e))

pub not_child : (tree : Tree) (m n : ℕ) → is_child_of tree m n ≡ false → parent_of tree n ≢ Some m
not_child tree m n f e = both_ways (is_child_of tree m n) f (is_child-true tree m n e)

-- ---- the first child

module _ (tree : Tree) (grown : IsGrown tree) where
  pub first_child-behind : (n : ℕ) → parent_of tree (n + 1) ≡ Some n → first_child_of tree n ≡ Some (n + 1)
  first_child-behind n e =
      first_number-is (is_child_of tree n) (n + 1) 0 (node_count tree) (omega arith) (omega (arith, parent-in_range tree (n + 1) n e)) (is_child-true tree n (n + 1) e)
      (λ k low high. is_child-false tree n k (λ f. absurd (omega (arith, parent-lt grown.parents k n f))))

  pub children-none : (n : ℕ) → parent_of tree (n + 1) ≢ Some n → children_of tree n ≡ []
  children-none n ne = filter_none (is_child_of tree n) 0 (node_count tree) (λ k low high. is_child-false tree n k (λ f. ne (child_behind grown.parents n k f)))

  pub first_child-none : (n : ℕ) → parent_of tree (n + 1) ≢ Some n → first_child_of tree n ≡ None
  first_child-none n ne = ap first_number (children-none n ne)

  -- the first child of a node can only be the node behind it
  pub first_child-found : (n c : ℕ) → first_child_of tree n ≡ Some c → (c ≡ n + 1) × (parent_of tree (n + 1) ≡ Some n)
  first_child-found n c e =
      let f = first_number-found (is_child_of tree n) c 0 (node_count tree) e in
      let behind = child_behind grown.parents n c (is_child-found tree n c f.0) in
      (same_Some c (n + 1) (sym e ∙ first_child-behind n behind), behind)

-- ---- the list of children

pub children-each : (tree : Tree) (n : ℕ) → All (λ (c : ℕ). parent_of tree c ≡ Some n) (children_of tree n)
children-each tree n =
    All-weaker (λ (c : ℕ). is_child_of tree n c ≡ true) (λ (c : ℕ). parent_of tree c ≡ Some n) (λ c t. is_child-found tree n c t) (children_of tree n)
    (filter_passes (is_child_of tree n) (range_with_len 0 (node_count tree)))

pub children-in_range : (tree : Tree) → IsGrown tree → (n : ℕ) → All (λ (c : ℕ). (n < c) × (c < node_count tree)) (children_of tree n)
children-in_range tree grown n =
    All-weaker (λ (c : ℕ). parent_of tree c ≡ Some n) (λ (c : ℕ). (n < c) × (c < node_count tree))
    (λ c e. (parent-lt grown.parents c n e, parent-in_range tree c n e)) (children_of tree n) (children-each tree n)

-- ---- siblings

-- a later child of the node's parent
abbrev is_later : Tree → ℕ → ℕ → ℕ → Bool
is_later tree m n j = is_child_of tree m j && ltb n j

next_sibling-parent : (tree : Tree) (n m : ℕ) → parent_of tree n ≡ Some m → next_sibling_of tree n ≡ first_number (filter (is_later tree m n) (range_with_len 0 (node_count tree)))
next_sibling-parent tree n m e =
    ap (λ o. option_and_then (λ i. first_number (filter (ltb n) (children_of tree i))) o) e
    ∙ ap first_number (filter-filter (is_child_of tree m) (ltb n) (range_with_len 0 (node_count tree)))

is_later-false : (tree : Tree) (m n j : ℕ) → (n < j → parent_of tree j ≢ Some m) → is_later tree m n j ≡ false
is_later-false tree m n j others = false_from_ne_true (is_later tree m n j) (λ e.
    let p = and_parts (is_child_of tree m j) (ltb n j) e in others (ltb-true n j p.1) (is_child-found tree m j p.0))

not_later : (tree : Tree) (m n j : ℕ) → is_later tree m n j ≡ false → n < j → parent_of tree j ≢ Some m
not_later tree m n j f h e = both_ways (is_later tree m n j) f (and_from (is_child_of tree m j) (ltb n j) (is_child-true tree m j e) (lt-ltb n j h))

pub next_sibling-root : (tree : Tree) (n : ℕ) → parent_of tree n ≡ None → next_sibling_of tree n ≡ None
next_sibling-root tree n e = ap (λ o. option_and_then (λ i. first_number (filter (ltb n) (children_of tree i))) o) e

pub next_sibling-is : (tree : Tree) (m n s : ℕ) → parent_of tree n ≡ Some m → parent_of tree s ≡ Some m → n < s → ((j : ℕ) → n < j → j < s → parent_of tree j ≢ Some m) → next_sibling_of tree n ≡ Some s
next_sibling-is tree m n s en es later others =
    next_sibling-parent tree n m en
    ∙ first_number-is (is_later tree m n) s 0 (node_count tree) (omega arith) (omega (arith, parent-in_range tree s m es))
    (and_from (is_child_of tree m s) (ltb n s) (is_child-true tree m s es) (lt-ltb n s later))
    (λ k low high. is_later-false tree m n k (λ h. others k h high))

pub next_sibling-none : (tree : Tree) (m n : ℕ) → parent_of tree n ≡ Some m → ((j : ℕ) → n < j → parent_of tree j ≢ Some m) → next_sibling_of tree n ≡ None
next_sibling-none tree m n en others =
    next_sibling-parent tree n m en
    ∙ ap first_number (filter_none (is_later tree m n) 0 (node_count tree) (λ k low high. is_later-false tree m n k (others k)))

-- the next sibling, by the parent m of the node
pub next_sibling-found : (tree : Tree) (m n s : ℕ) → parent_of tree n ≡ Some m → next_sibling_of tree n ≡ Some s → (parent_of tree s ≡ Some m) × (n < s) × ((j : ℕ) → n < j → j < s → parent_of tree j ≢ Some m)
next_sibling-found tree m n s en e =
    let f = first_number-found (is_later tree m n) s 0 (node_count tree) (sym (next_sibling-parent tree n m en) ∙ e) in
    let p = and_parts (is_child_of tree m s) (ltb n s) f.0 in
    (is_child-found tree m s p.0, ltb-true n s p.1, λ j low high. not_later tree m n j (f.3 j (omega arith) high) low)

pub next_sibling-missing : (tree : Tree) (m n : ℕ) → parent_of tree n ≡ Some m → next_sibling_of tree n ≡ None → (j : ℕ) → n < j → parent_of tree j ≢ Some m
next_sibling-missing tree m n en e j later ej =
    not_later tree m n j (first_number-missing (is_later tree m n) 0 (node_count tree) (sym (next_sibling-parent tree n m en) ∙ e) j (omega arith) (omega (arith, parent-in_range tree j m ej))) later ej

-- ---- the list of children, from its first

pub siblings_from-first : (tree : Tree) (n : ℕ) → siblings_from tree (first_child_of tree n) ≡ children_of tree n
siblings_from-first tree n = go (first_child_of tree n) refl where
  go : (o : Option ℕ) → first_child_of tree n ≡ o → siblings_from tree o ≡ children_of tree n
  go None e = sym (filter_none (is_child_of tree n) 0 (node_count tree) (first_number-missing (is_child_of tree n) 0 (node_count tree) e))
  go (Some c) e =
      let f = first_number-found (is_child_of tree n) c 0 (node_count tree) e in
      ap (λ o. c ∷ option_map_or (λ m. filter (ltb c) (children_of tree m)) o []) (is_child-found tree n c f.0)
      ∙ sym (first_and_later c 0 (children_of tree n) (IsAscending-range (is_child_of tree n) 0 (node_count tree)) e)

pub siblings_from-next : (tree : Tree) (n : ℕ) → siblings_from tree (Some n) ≡ n ∷ siblings_from tree (next_sibling_of tree n)
siblings_from-next tree n = go (parent_of tree n) refl where
  later : (m : ℕ) → parent_of tree n ≡ Some m → (o : Option ℕ) → next_sibling_of tree n ≡ o → filter (ltb n) (children_of tree m) ≡ siblings_from tree o
  later m e None f =
      filter-filter (is_child_of tree m) (ltb n) (range_with_len 0 (node_count tree))
      ∙ filter_none (is_later tree m n) 0 (node_count tree) (first_number-missing (is_later tree m n) 0 (node_count tree) (sym (next_sibling-parent tree n m e) ∙ f))
  later m e (Some s) f =
      let found = next_sibling-found tree m n s e f in
      let both = filter-filter (is_child_of tree m) (ltb n) (range_with_len 0 (node_count tree)) in
      let rest : filter (ltb s) (filter (is_later tree m n) (range_with_len 0 (node_count tree))) ≡ filter (ltb s) (children_of tree m) =
      ap (filter (ltb s)) (sym both) ∙ filter-twice_later n s (children_of tree m) (omega (arith, found.1)) in
      both
      ∙ first_and_later s 0 (filter (is_later tree m n) (range_with_len 0 (node_count tree))) (IsAscending-range (is_later tree m n) 0 (node_count tree)) (sym (next_sibling-parent tree n m e) ∙ f)
      ∙ ap (λ xs. s ∷ xs) rest
      ∙ ap (λ o. s ∷ option_map_or (λ i. filter (ltb s) (children_of tree i)) o []) (sym found.0)

  go : (o : Option ℕ) → parent_of tree n ≡ o → siblings_from tree (Some n) ≡ n ∷ siblings_from tree (next_sibling_of tree n)
  go None e =
      ap (λ o. n ∷ option_map_or (λ m. filter (ltb n) (children_of tree m)) o []) e
      ∙ ap (λ o. n ∷ siblings_from tree o) (sym (next_sibling-root tree n e))
  go (Some m) e =
      ap (λ o. n ∷ option_map_or (λ i. filter (ltb n) (children_of tree i)) o []) e
      ∙ ap (λ xs. n ∷ xs) (later m e (next_sibling_of tree n) refl)

-- a next sibling stands behind the node, in the tree, below the same parent
pub next_sibling-facts : (tree : Tree) (n s : ℕ) → next_sibling_of tree n ≡ Some s → (n < s) × (s < node_count tree) × (parent_of tree s ≡ parent_of tree n)
next_sibling-facts tree n s e =
    elim (cases_Option (parent_of tree n)) [
      | inl none ↦ let f : None ≡ Some s = sym (next_sibling-root tree n none) ∙ e in absurd cc
      | inr p ↦
          let found = next_sibling-found tree p.0 n s p.1 e in
          (found.1, parent-in_range tree s p.0 found.0, found.0 ∙ sym p.1)
    ]
