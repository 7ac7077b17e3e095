-- A tree with one node more.
use Rattle.std.proofs.Common.{◌≡◌, ◌≢◌, ℕ, ◌+◌, ◌-◌, ◌<◌, ◌≤◌, length, Option, Some, None, refl, sym, ◌∙◌, ap, subst, arith, inl, inr}
use Rattle.std.proofs.lemmas.Bool.{cases_lt}
use Rattle.std.proofs.lemmas.List.{get_or_append_left, get_or_push, length_push}
use Rattle.std.proofs.lemmas.Option.{same_Some}
use Rattle.std.specs.Prelude.{is_some}
use Rattle.node_paths.specs.Parents.{MayHaveParent}
use Rattle.node_paths.proofs.Ancestors.{cases_Option, may_have-none, may_have-some, parent-lt}
use Rattle.node_paths.proofs.MoreParents.{AreParents-more}
use Rattle.game_tree.specs.declared.node.Move.{Move}
use Rattle.game_tree.specs.Built.{Built, IsGrown, IsNextParent, tree_so_far, with_node}
use Rattle.kb_geometry.specs.Counts.{one_if}
use Rattle.game_tree.specs.Stored.{IsMainEnd}
use Rattle.game_tree.specs.Tree.{Node, IsNodeOnBoard, node_count, node_at, parent_of, next_sibling_of, move_number_of}
use Rattle.game_tree.proofs.Paths.{move_number-same, move_number-parent, move_number-root}
use Rattle.game_tree.proofs.Trees.{parent-past, parent-in_range, next_sibling-is, next_sibling-none, next_sibling-found, next_sibling-missing, next_sibling-root}

module _ (b : Built) (parent : Option ℕ) (played : Option Move) where
  pub node_count-more : node_count (tree_so_far (with_node b parent played)) ≡ length b.nodes + 1
  node_count-more = length_push b.nodes _

  pub node_at-before : (n : ℕ) → n < length b.nodes → node_at (tree_so_far (with_node b parent played)) n ≡ node_at (tree_so_far b) n
  node_at-before n h = get_or_append_left b.nodes _ _ n h

  pub node_at-last : node_at (tree_so_far (with_node b parent played)) (length b.nodes) ≡ record { parent = parent; setups = b.pending; played = played }
  node_at-last = get_or_push b.nodes _ _ (length b.nodes) refl

  pub parent-before : (n : ℕ) → n < length b.nodes → parent_of (tree_so_far b) n ≡ parent_of (tree_so_far (with_node b parent played)) n
  parent-before n h = sym (ap (λ (d : Node). d.parent) (node_at-before n h))

  pub parent-last : parent_of (tree_so_far (with_node b parent played)) (length b.nodes) ≡ parent
  parent-last = ap (λ (d : Node). d.parent) node_at-last

  played-before : (n : ℕ) → n < length b.nodes → (node_at (tree_so_far b) n).played ≡ (node_at (tree_so_far (with_node b parent played)) n).played
  played-before n h = sym (ap (λ (d : Node). d.played) (node_at-before n h))

  module _ (grown : IsGrown (tree_so_far b)) (next : IsNextParent b parent) where
    next_last : MayHaveParent (parent_of (tree_so_far b)) (length b.nodes) (parent_of (tree_so_far (with_node b parent played)) (length b.nodes))
    next_last = subst (λ (o : Option ℕ). MayHaveParent (parent_of (tree_so_far b)) (length b.nodes) o) (sym parent-last) next

    pub IsGrown-more : length b.nodes < 65536 → IsNodeOnBoard b.shape (record { parent = parent; setups = b.pending; played = played }) → IsGrown (tree_so_far (with_node b parent played))
    IsGrown-more room on = record {
      most = omega (arith, node_count-more);
      parents =
          AreParents-more (parent_of (tree_so_far (with_node b parent played))) (node_count (tree_so_far (with_node b parent played)))
          grown.parents next_last node_count-more parent-before (parent-past (tree_so_far (with_node b parent played)));
      on_board = λ n h. elim (cases_lt n (length b.nodes)) [
        | inl l ↦ subst (λ (d : Node). IsNodeOnBoard b.shape d) (sym (node_at-before n l)) (grown.on_board n l)
        | inr l ↦
            let here : length b.nodes ≡ n = omega (arith, node_count-more) in
            subst (λ (i : ℕ). IsNodeOnBoard b.shape (node_at (tree_so_far (with_node b parent played)) i)) here
            (subst (λ (d : Node). IsNodeOnBoard b.shape d) (sym node_at-last) on)
      ];
    }

    -- ---- siblings

    -- a node that had a next sibling keeps it
    sibling-kept : (n m s : ℕ) → n < length b.nodes → parent_of (tree_so_far b) n ≡ Some m → next_sibling_of (tree_so_far b) n ≡ Some s → next_sibling_of (tree_so_far (with_node b parent played)) n ≡ Some s
    sibling-kept n m s h e f =
        let found = next_sibling-found (tree_so_far b) m n s e f in
        let within = parent-in_range (tree_so_far b) s m found.0 in
        next_sibling-is (tree_so_far (with_node b parent played)) m n s (sym (parent-before n h) ∙ e) (sym (parent-before s within) ∙ found.0) found.1
        (λ j low high ej. found.2 j low high (parent-before j (omega arith) ∙ ej))

    -- a last child of another node stays a last child
    sibling-none : (n m : ℕ) → n < length b.nodes → parent_of (tree_so_far b) n ≡ Some m → next_sibling_of (tree_so_far b) n ≡ None → parent ≢ Some m → next_sibling_of (tree_so_far (with_node b parent played)) n ≡ None
    sibling-none n m h e f ne =
        next_sibling-none (tree_so_far (with_node b parent played)) m n (sym (parent-before n h) ∙ e) (λ j later ej. elim (cases_lt j (length b.nodes)) [
          | inl l ↦ next_sibling-missing (tree_so_far b) m n e f j later (parent-before j l ∙ ej)
          | inr l ↦
              let here : length b.nodes ≡ j = omega (arith, node_count-more, parent-in_range (tree_so_far (with_node b parent played)) j m ej) in
              ne (sym parent-last ∙ ap (parent_of (tree_so_far (with_node b parent played))) here ∙ ej)
        ])

    -- the last child so far of the new node's parent gets it as its next sibling
    pub sibling-new : (n m : ℕ) → n < length b.nodes → parent_of (tree_so_far b) n ≡ Some m → next_sibling_of (tree_so_far b) n ≡ None → parent ≡ Some m → next_sibling_of (tree_so_far (with_node b parent played)) n ≡ Some (length b.nodes)
    sibling-new n m h e f is =
        next_sibling-is (tree_so_far (with_node b parent played)) m n (length b.nodes) (sym (parent-before n h) ∙ e) (parent-last ∙ is) h
        (λ j low high ej. next_sibling-missing (tree_so_far b) m n e f j low (parent-before j high ∙ ej))

    -- the new node has no next sibling
    pub sibling-last : next_sibling_of (tree_so_far (with_node b parent played)) (length b.nodes) ≡ None
    sibling-last =
        elim (cases_Option parent) [
          | inl e ↦ next_sibling-root (tree_so_far (with_node b parent played)) (length b.nodes) (parent-last ∙ e)
          | inr p ↦ next_sibling-none (tree_so_far (with_node b parent played)) p.0 (length b.nodes) (parent-last ∙ p.1)
              (λ j later ej. absurd (omega (arith, node_count-more, parent-in_range (tree_so_far (with_node b parent played)) j p.0 ej)))
        ]

    -- where the nodes of a last child keep their next siblings
    sibling-same : (n : ℕ) → n < length b.nodes → ((m : ℕ) → parent_of (tree_so_far b) n ≡ Some m → parent ≡ Some m → next_sibling_of (tree_so_far b) n ≢ None) → next_sibling_of (tree_so_far (with_node b parent played)) n ≡ next_sibling_of (tree_so_far b) n
    sibling-same n h others =
        elim (cases_Option (parent_of (tree_so_far b) n)) [
          | inl e ↦ next_sibling-root (tree_so_far (with_node b parent played)) n (sym (parent-before n h) ∙ e) ∙ sym (next_sibling-root (tree_so_far b) n e)
          | inr p ↦ elim (cases_Option (next_sibling_of (tree_so_far b) n)) [
            | inl none ↦ sibling-none n p.0 h p.1 none (λ is. others p.0 p.1 is none) ∙ sym none
            | inr s ↦ sibling-kept n p.0 s.0 h p.1 s.1 ∙ sym s.1
          ]
        ]

    -- the new node is the first child of the node before it, or the root: the others' next siblings stay
    pub siblings-first : ((m : ℕ) → parent ≡ Some m → m + 1 ≡ length b.nodes) → (n : ℕ) → n < length b.nodes → next_sibling_of (tree_so_far (with_node b parent played)) n ≡ next_sibling_of (tree_so_far b) n
    siblings-first behind n h = sibling-same n h (λ m e is f. absurd (omega (arith, behind m is, parent-lt grown.parents n m e)))

    -- the new node stands behind the last child c of its parent: the other nodes' next siblings stay
    pub siblings-other : (c m : ℕ) → c < length b.nodes → parent ≡ Some m → parent_of (tree_so_far b) c ≡ Some m → next_sibling_of (tree_so_far b) c ≡ None → (n : ℕ) → n < length b.nodes → n ≢ c → next_sibling_of (tree_so_far (with_node b parent played)) n ≡ next_sibling_of (tree_so_far b) n
    siblings-other c m hc is ec fc n h ne = sibling-same n h (λ k e ik f.
        let same : k ≡ m = same_Some k m (sym ik ∙ is) in
        elim (cases_lt n c) [
          | inl l ↦ next_sibling-missing (tree_so_far b) k n e f c l (ec ∙ ap (λ i. Some i) (sym same))
          | inr l ↦ next_sibling-missing (tree_so_far b) m c ec fc n (omega arith) (e ∙ ap (λ i. Some i) same)
        ])

    -- ---- move numbers

    module _ (room : length b.nodes < 65536) (on : IsNodeOnBoard b.shape (record { parent = parent; setups = b.pending; played = played })) where
      pub moves-before : (n : ℕ) → n < length b.nodes → move_number_of (tree_so_far (with_node b parent played)) n ≡ move_number_of (tree_so_far b) n
      moves-before n h =
          sym (move_number-same (tree_so_far b) (tree_so_far (with_node b parent played)) (length b.nodes) grown (IsGrown-more room on) parent-before played-before n h)

      played-last : ◌≡◌ {A = ℕ} (one_if (is_some (node_at (tree_so_far (with_node b parent played)) (length b.nodes)).played)) (one_if (is_some played))
      played-last = ap (λ (d : Node). one_if (is_some d.played)) node_at-last

      pub moves-last : (m : ℕ) → parent ≡ Some m → move_number_of (tree_so_far (with_node b parent played)) (length b.nodes) ≡ move_number_of (tree_so_far b) m + one_if (is_some played)
      moves-last m is =
          let above = may_have-some (parent_of (tree_so_far b)) (length b.nodes) parent m next is in
          omega (arith, move_number-parent (tree_so_far (with_node b parent played)) (IsGrown-more room on) (length b.nodes) m (parent-last ∙ is), moves-before m above.0, played-last)

      pub moves-root : parent ≡ None → move_number_of (tree_so_far (with_node b parent played)) (length b.nodes) ≡ one_if (is_some played)
      moves-root is = omega (arith, move_number-root (tree_so_far (with_node b parent played)) (IsGrown-more room on) (length b.nodes) (parent-last ∙ is), played-last)

    -- ---- the main line

    pub main-root : parent ≡ None → IsMainEnd (tree_so_far (with_node b parent played)) 1
    main-root is =
        let none = may_have-none (parent_of (tree_so_far b)) (length b.nodes) parent next is in
        record {
          within = omega (arith, node_count-more);
          some = λ s. omega arith;
          line = λ n h. absurd (omega arith);
          ended = λ h. absurd (omega (arith, node_count-more, none));
        }

    module _ (main : ℕ) (end : IsMainEnd (tree_so_far b) main) (m : ℕ) (is : parent ≡ Some m) where
      -- the node goes on with the main line
      pub main-longer : m + 1 ≡ length b.nodes → main ≡ length b.nodes → IsMainEnd (tree_so_far (with_node b parent played)) (length b.nodes + 1)
      main-longer behind whole = record {
        within = omega (arith, node_count-more);
        some = λ s. omega arith;
        line = λ n h. elim (cases_lt (n + 1) (length b.nodes)) [
          | inl l ↦ sym (parent-before (n + 1) l) ∙ end.line n (omega arith)
          | inr l ↦
              let here : length b.nodes ≡ n + 1 = omega arith in
              let before : m ≡ n = omega arith in
              ap (parent_of (tree_so_far (with_node b parent played))) (sym here) ∙ parent-last ∙ is ∙ ap (λ i. Some i) before
        ];
        ended = λ h. absurd (omega (arith, node_count-more));
      }

      -- it does not
      pub main-same : (m + 1 ≡ length b.nodes → main ≢ length b.nodes) → IsMainEnd (tree_so_far (with_node b parent played)) main
      main-same others =
          let some_before : 1 ≤ length b.nodes = omega (arith, may_have-some (parent_of (tree_so_far b)) (length b.nodes) parent m next is) in
          record {
            within = omega (arith, node_count-more, end.within);
            some = λ s. end.some some_before;
            line = λ n h. sym (parent-before (n + 1) (omega (arith, end.within))) ∙ end.line n h;
            ended = λ h f. elim (cases_lt main (length b.nodes)) [
              | inl l ↦ end.ended l (parent-before main l ∙ f)
              | inr l ↦
                  let here : main ≡ length b.nodes = omega (arith, end.within) in
                  let g : Some m ≡ Some (main - 1) = sym is ∙ sym parent-last ∙ ap (parent_of (tree_so_far (with_node b parent played))) (sym here) ∙ f in
                  others (omega (arith, same_Some m (main - 1) g, end.some some_before)) here
            ];
          }
