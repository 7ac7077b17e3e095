-- Raw nodes hang below each other as the nodes of a tree do.
use Prim.Native.Nat.{zero}
use Rattle.std.proofs.Common.{◌≡◌, ℕ, ◌+◌, ◌-◌, ◌<◌, ◌≤◌, suc, ltb, Bool, true, false, cond, List, [], ◌∷◌, length, take, get_or, Option, Some, None, All, sym, ◌∙◌, ap, subst, arith, inl, inr}
use Rattle.std.specs.Prelude.{count_by}
use Rattle.std.proofs.Math.ListN.{get_or-map}
use Rattle.std.proofs.lemmas.Bool.{cases_eq, cases_lt, le-ltb}
use Rattle.std.proofs.lemmas.List.{get_or-take, length-map, length-take-le}
use Rattle.std.proofs.lemmas.List.Elements.{All-head}
use Rattle.std.proofs.lemmas.List.Sums.{sum_by-cons}
use Rattle.std.proofs.lemmas.Option.{same_Some}
use Rattle.node_paths.specs.Parents.{IsOnPathTo, MayHaveParent, higher, itself}
use Rattle.node_paths.specs.Paths.{path_to}
use Rattle.node_paths.proofs.Ancestors.{cases_Option, parent-lt}
use Rattle.node_paths.proofs.PathLists.{path_to-parent, path_to-root}
use Rattle.sgf_reader.specs.declared.collection.RawGame.{RawGame}
use Rattle.sgf_reader.proofs.NodeParents.{AreHung, IsAncestor, IsHung, further}
use Rattle.sgf_reader.proofs.NodeParents as hangs
use Rattle.game_tree.specs.Built.{Built, IsGrown, IsNextParent, tree_so_far}
use Rattle.game_tree.specs.Tree.{Node, Tree, node_count, parent_of, children_of, branchings_to, first_child_of, next_sibling_of}
use Rattle.game_tree.specs.Stored.{siblings_from}
use Rattle.game_tree.proofs.ReadCollections.{GameIsRead}
use Rattle.game_tree.specs.RawGames.{node_parents, raw_parents}
use Rattle.game_tree.proofs.Trees.{children-each, first_child-found, next_sibling-none, parent-in_range, siblings_from-first, siblings_from-next}

-- the parents of a tree's nodes, one by one
pub parent-by : (tree : Tree) (n : ℕ) → parent_of tree n ≡ get_or (node_parents tree.nodes) n None
parent-by tree n =
    sym (get_or-map (λ (node : Node). node.parent) tree.nodes n
    (record { parent = None; setups = []; played = None }))

-- ---- the next node's parent

module _ (parents : List (Option ℕ)) (depths : List ℕ) (hung : AreHung parents depths) where
  raw-parent-lt : (n p : ℕ) → n < length parents → get_or parents n None ≡ Some p → p < n
  raw-parent-lt zero p below e = let none = hung.root_parent in absurd (cc)
  raw-parent-lt (suc n) p below e =
      let own = hung.others (suc n) (omega arith) below in
      omega (arith, same_Some own.0 p (sym own.1 ∙ e), own.2.earlier)

  -- nodes below a number whose parents are those of the raw nodes: what is an ancestor there is one here
  above-hung : (parent : ℕ → Option ℕ) (k : ℕ) → k ≤ length parents →
      ((n : ℕ) → n < k → parent n ≡ get_or parents n None) → (m n : ℕ) → n < k →
      IsAncestor parents m n → IsOnPathTo parent m n
  above-hung parent k most agree m n below hangs.itself = itself
  above-hung parent k most agree m n below (further {p = p} e above) =
      higher (agree n below ∙ e) (above-hung parent k most agree m p (omega (arith, raw-parent-lt n p (omega arith) e)) above)

  -- the next one may have the parent that the raw node has
  pub may-hung : (parent : ℕ → Option ℕ) (k : ℕ) → k < length parents →
      ((n : ℕ) → n < k → parent n ≡ get_or parents n None) → MayHaveParent parent k (get_or parents k None)
  may-hung parent k more agree =
      elim (cases_eq k 0) [
        | inl none ↦
            let root : get_or parents k None ≡ None = ap (λ (i : ℕ). get_or parents i None) none ∙ hung.root_parent in
            subst (λ (o : Option ℕ). MayHaveParent parent k o) (sym root) none
        | inr some ↦
            let own = hung.others k (omega arith) more in
            subst (λ (o : Option ℕ). MayHaveParent parent k o) (sym own.1)
            (own.2.earlier, above-hung parent k (omega arith) agree own.0 (k - 1) (omega arith) own.2.ancestor)
      ]

-- The next raw node's parent can come next.
pub next_parent : (end : ℕ) (raw : RawGame) → GameIsRead end raw → (b : Built) (k : ℕ) → k < length raw.nodes → node_parents b.nodes ≡ take k (raw_parents raw.nodes) → IsNextParent b (get_or (raw_parents raw.nodes) k None)
next_parent end raw read b k more first =
    let all : length (raw_parents raw.nodes) ≡ length raw.nodes = length-map raw.nodes _ in
    let count : length b.nodes ≡ k = sym (length-map b.nodes _) ∙ ap length first ∙ length-take-le k (raw_parents raw.nodes) (omega arith) in
    subst (λ (i : ℕ). IsNextParent b (get_or (raw_parents raw.nodes) i None)) count
    (may-hung (raw_parents raw.nodes) read.depths read.hung (parent_of (tree_so_far b)) (length b.nodes) (omega arith)
    (λ n below. parent-by (tree_so_far b) n ∙ ap (λ parents. get_or parents n None) first ∙ get_or-take k (raw_parents raw.nodes) n None (omega arith)))

-- ---- brackets

module _ (tree : Tree) (grown : IsGrown tree) where
  -- a node with one child only
  one_child : (m n : ℕ) → ((j : ℕ) → parent_of tree j ≡ Some m → j ≡ n) → length (children_of tree m) ≤ 1
  one_child m n only =
      elim (cases_Option (first_child_of tree m)) [
        | inl e ↦
            let none : children_of tree m ≡ [] = sym (siblings_from-first tree m) ∙ ap (siblings_from tree) e in
            omega (arith, ap length none)
        | inr first ↦
            let behind = first_child-found tree grown m first.0 first.1 in
            let own : parent_of tree first.0 ≡ Some m = ap (parent_of tree) behind.0 ∙ behind.1 in
            let last : next_sibling_of tree first.0 ≡ None = next_sibling-none tree m first.0 own (λ j later e. absurd (omega (arith, only j e, only first.0 own, later))) in
            let one : children_of tree m ≡ first.0 ∷ [] =
            sym (siblings_from-first tree m) ∙ ap (siblings_from tree) first.1 ∙ siblings_from-next tree first.0 ∙ ap (λ o. first.0 ∷ siblings_from tree o) last in
            omega (arith, ap length one)
      ]

  -- 1 at a node with more than one child
  abbrev branches : ℕ → ℕ
  branches n = cond (ltb 1 (length (children_of tree n))) 1 0

  branches-none : (n : ℕ) → length (children_of tree n) ≤ 1 → branches n ≡ 0
  branches-none n few = ap (λ b. cond b 1 0) (le-ltb 1 (length (children_of tree n)) few)

  cond-le : (b : Bool) → ◌≤◌ (cond b 1 0) 1
  cond-le true = omega arith
  cond-le false = omega arith

  branchings_to-parent : (n m : ℕ) → parent_of tree n ≡ Some m → branchings_to tree n ≡ branches n + branchings_to tree m
  branchings_to-parent n m e =
      ap (count_by (λ k. ltb 1 (length (children_of tree k)))) (path_to-parent grown.parents n m e)
      ∙ sum_by-cons (λ k. cond (ltb 1 (length (children_of tree k))) 1 0) n (path_to (parent_of tree) m)

  branchings_to-root : (n : ℕ) → parent_of tree n ≡ None → branchings_to tree n ≡ branches n
  branchings_to-root n e =
      ap (count_by (λ k. ltb 1 (length (children_of tree k)))) (path_to-root grown.parents n e)
      ∙ sum_by-cons (λ k. cond (ltb 1 (length (children_of tree k))) 1 0) n []
      ∙ omega arith

  module _ (parents : List (Option ℕ)) (depths : List ℕ) (hung : AreHung parents depths) (agree : (n : ℕ) → parent_of tree n ≡ get_or parents n None) (as_many : node_count tree ≡ length parents) where
    hung-by : (n m : ℕ) → parent_of tree n ≡ Some m → IsHung parents depths n m
    hung-by n m e =
        let own = hung.others n (omega (arith, parent-lt grown.parents n m e)) (omega (arith, parent-in_range tree n m e)) in
        subst (λ (i : ℕ). IsHung parents depths n i) (same_Some own.0 m (sym own.1 ∙ sym (agree n) ∙ e)) own.2

    -- a child is as deep as its parent only where it is the only one
    branch-deeper : (n m : ℕ) → parent_of tree n ≡ Some m → get_or depths m 0 + branches m ≤ get_or depths n 0
    branch-deeper n m e =
        let own = hung-by n m e in
        elim own.depth [
          | inl same ↦ omega (arith, branches-none m (one_child m n (λ j ej. own.only same j (sym (agree j) ∙ ej))))
          | inr deeper ↦ omega (arith, cond-le (ltb 1 (length (children_of tree m))))
        ]

    branchings-within : (most n : ℕ) → n < most → n < node_count tree → branchings_to tree n + 1 ≤ get_or depths n 0 + branches n
    branchings-within zero n less below = absurd (omega arith)
    branchings-within (suc most) n less below =
        elim (cases_Option (parent_of tree n)) [
          | inl e ↦
              elim (cases_eq n 0) [
                | inl root ↦ omega (arith, branchings_to-root n e, ap (λ (i : ℕ). get_or depths i 0) root, hung.root_depth)
                | inr other ↦
                    let own = hung.others n (omega arith) (omega arith) in
                    let none : None ≡ Some own.0 = sym e ∙ agree n ∙ own.1 in absurd (cc)
              ]
          | inr p ↦
              let before = parent-lt grown.parents n p.0 p.1 in
              let above = branchings-within most p.0 (omega arith) (omega arith) in
              omega (arith, branchings_to-parent n p.0 p.1, above, branch-deeper n p.0 p.1)
        ]

    -- a node with children has one that is so much deeper
    child-deeper : (n : ℕ) → 1 ≤ length (children_of tree n) → (c : ℕ) × (c < node_count tree) × (get_or depths n 0 + branches n ≤ get_or depths c 0)
    child-deeper n some = go (children_of tree n) (children-each tree n) some
      where
        go : (children : List ℕ) → All (λ (c : ℕ). parent_of tree c ≡ Some n) children → 1 ≤ length children → (c : ℕ) × (c < node_count tree) × (get_or depths n 0 + branches n ≤ get_or depths c 0)
        go [] each some = absurd (omega arith)
        go (c ∷ children) each some =
            let e = All-head (λ (c : ℕ). parent_of tree c ≡ Some n) c children each in
            (c, parent-in_range tree c n e, branch-deeper c n e)

    branchings-few : (limit : ℕ) → ((n : ℕ) → n < node_count tree → get_or depths n 0 ≤ limit) → (n : ℕ) → n < node_count tree → branchings_to tree n < limit
    branchings-few limit shallow n below =
        let within = branchings-within (suc n) n (omega arith) below in
        elim (cases_lt 1 (length (children_of tree n))) [
          | inl many ↦
              let child = child-deeper n (omega arith) in
              omega (arith, child.2, shallow child.0 child.1, within)
          | inr few ↦ omega (arith, branches-none n few, within, shallow n below)
        ]

-- Fewer than 1,024 nodes with more than one child stand on a path of the tree of a raw game.
pub few_branchings : (end : ℕ) (raw : RawGame) → GameIsRead end raw → (tree : Tree) → IsGrown tree → node_parents tree.nodes ≡ raw_parents raw.nodes → (n : ℕ) → n < node_count tree → branchings_to tree n < 1024
few_branchings end raw read tree grown whole n below =
    let count : node_count tree ≡ length (raw_parents raw.nodes) = sym (length-map tree.nodes _) ∙ ap length whole in
    let all : length (raw_parents raw.nodes) ≡ length raw.nodes = length-map raw.nodes _ in
    branchings-few tree grown (raw_parents raw.nodes) read.depths read.hung (λ i. parent-by tree i ∙ ap (λ parents. get_or parents i None) whole) count 1024
    (λ i inside. read.shallow i 0 (omega (arith, read.as_many))) n below
