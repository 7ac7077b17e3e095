-- What is stored, with one setup or one node more.
use Prim.Native.Nat.{zero}
use Rattle.std.proofs.Common.{◌≡◌, ◌≢◌, ℕ, ◌+◌, ◌-◌, ◌<◌, ◌≤◌, suc, List, [], ◌∷◌, ◌++◌, length, get_or, set, take, drop, Option, Some, None, refl, sym, ◌∙◌, ap, subst, arith, inl, inr}
use Rattle.std.proofs.lemmas.Bool.{cases_eq, cases_lt}
use Rattle.std.proofs.lemmas.List.{get_or_append_left, get_or_push, length_push, length-drop, length-set, get_or-set_same, get_or-set_other, drop-append-le, take-append-le, drop_all}
use Rattle.std.proofs.lemmas.List.Elements.{All-push, All-nil}
use Rattle.std.proofs.lemmas.List.FromFn.{map-range_with_len_more}
use Rattle.std.proofs.lemmas.Slice.{between_to_end}
use mir.Val.{bool_byte}
use Rattle.std.specs.Prelude.{is_some, All, IfSome, map}
use Rattle.std.specs.List.{range_with_len, between}
use Rattle.std.specs.Option.{option_map_or}
use Rattle.node_paths.specs.StoredNodes.{stored_parent}
use Rattle.node_paths.proofs.Ancestors.{cases_Option, may_have-none, may_have-some}
use Rattle.node_paths.proofs.StoredNodes.{AreParts-more, AreParts-same, map_same, part_start-same, part_start-within, stored_parent-suc, stored_parent-zero}
use Rattle.kb_geometry.specs.declared.shape.Shape.{Shape}
use Rattle.kb_geometry.specs.declared.shape.Point.{Point}
use Rattle.kb_geometry.specs.Board.{IsOnBoard, IsOrderedRectOnBoard}
use Rattle.game_tree.specs.declared.node.Move.{Move}
use Rattle.game_tree.specs.declared.node.Setup.{Setup}
use Rattle.game_tree.specs.declared.stored.TreeNode.{TreeNode}
use Rattle.game_tree.specs.Built.{Built, IsGrown, IsNextParent, tree_of, tree_so_far, with_setup, with_node}
use Rattle.game_tree.specs.Information.{Information, HasSimpleTexts}
use Rattle.game_tree.specs.Tree.{IsTree, IsNodeOnBoard, node_count, parent_of, next_sibling_of, move_number_of, branchings_to}
use Rattle.kb_geometry.specs.Counts.{one_if}
use Rattle.game_tree.specs.Stored.{tree_node, end_of_setups, setups_start, shown_node, shown_nodes, shown_built, or_zero, IsBeginning, IsMainEnd, AreSetupEnds, AreLinks}
use Rattle.game_tree.proofs.Growth.{IsGrown-more, sibling-new, sibling-last, siblings-first, siblings-other, moves-before, moves-last, moves-root}
use Rattle.game_tree.proofs.Paths.{move_number-same}
use Rattle.game_tree.proofs.StoredTrees.{length-shown, node_read, bool_byte-one_if}

-- ---- lists of nodes

-- two stored nodes differ at most in their next siblings and the moves above them
pub record LooksSame (s t : TreeNode) : Type 0 where
  pub parent : s.parent ≡ t.parent
  pub setups_end : s.setups_end ≡ t.setups_end
  pub played : s.played ≡ t.played

LooksSame-itself : (s t : TreeNode) → s ≡ t → LooksSame s t
LooksSame-itself s t e = record { parent = ap (λ (x : TreeNode). x.parent) e; setups_end = ap (λ (x : TreeNode). x.setups_end) e; played = ap (λ (x : TreeNode). x.played) e }

shown_node-same : (us ts : List TreeNode) (setups : List Setup) (n : ℕ) → ((k : ℕ) → k ≤ n → LooksSame (tree_node us k) (tree_node ts k)) → shown_node us setups n ≡ shown_node ts setups n
shown_node-same us ts setups zero same =
    let here = same 0 (omega arith) in
    ap (λ e. record { parent = None; setups = between 0 e setups; played = (tree_node us 0).played }) here.setups_end
    ∙ ap (λ p. record { parent = None; setups = between 0 (tree_node ts 0).setups_end setups; played = p }) here.played
shown_node-same us ts setups (suc n) same =
    let here = same (suc n) (omega arith) in
    let before = same n (omega arith) in
    ap (λ m. record { parent = Some m; setups = between (tree_node us n).setups_end (tree_node us (suc n)).setups_end setups; played = (tree_node us (suc n)).played }) here.parent
    ∙ ap (λ s. record { parent = Some (tree_node ts (suc n)).parent; setups = between s (tree_node us (suc n)).setups_end setups; played = (tree_node us (suc n)).played }) before.setups_end
    ∙ ap (λ e. record { parent = Some (tree_node ts (suc n)).parent; setups = between (tree_node ts n).setups_end e setups; played = (tree_node us (suc n)).played }) here.setups_end
    ∙ ap (λ p. record { parent = Some (tree_node ts (suc n)).parent; setups = between (tree_node ts n).setups_end (tree_node ts (suc n)).setups_end setups; played = p }) here.played

setups_start-same : (us ts : List TreeNode) (n : ℕ) → ((k : ℕ) → k < n → LooksSame (tree_node us k) (tree_node ts k)) → setups_start us n ≡ setups_start ts n
setups_start-same us ts n same = part_start-same (end_of_setups us) (end_of_setups ts) n (λ k low. (same k low).setups_end)

module _ (ts : List TreeNode) (setups : List Setup) (ends : AreSetupEnds ts setups) where
  -- ---- one setup more

  module _ (s : Setup) where
    shown_node-setup : (n : ℕ) → n < length ts → shown_node ts (setups ++ s ∷ []) n ≡ shown_node ts setups n
    shown_node-setup n h =
        let start = ends.starts n h in
        let end = ends.ends n h in
        let dropped : drop (setups_start ts n) (setups ++ s ∷ []) ≡ drop (setups_start ts n) setups ++ s ∷ [] = drop-append-le (setups_start ts n) setups (s ∷ []) (omega (arith, start, end)) in
        let taken : between (setups_start ts n) (tree_node ts n).setups_end (setups ++ s ∷ []) ≡ between (setups_start ts n) (tree_node ts n).setups_end setups =
        ap (take ((tree_node ts n).setups_end - setups_start ts n)) dropped
        ∙ take-append-le ((tree_node ts n).setups_end - setups_start ts n) (drop (setups_start ts n) setups) (s ∷ []) (omega (arith, length-drop (setups_start ts n) setups, start, end)) in
        ap (λ ss. record { parent = stored_parent (λ (k : ℕ). (tree_node ts k).parent) n; setups = ss; played = (tree_node ts n).played }) taken

    shown_nodes-setup : shown_nodes ts (setups ++ s ∷ []) ≡ shown_nodes ts setups
    shown_nodes-setup = map_same (shown_node ts (setups ++ s ∷ [])) (shown_node ts setups) 0 (length ts) (λ k low high. shown_node-setup k (omega arith))

    pub shown_built-setup : (shape : Shape) → shown_built shape ts (setups ++ s ∷ []) ≡ with_setup (shown_built shape ts setups) s
    shown_built-setup shape =
        ap (λ ns. record { shape = shape; nodes = ns; pending = drop (setups_start ts (length ts)) (setups ++ s ∷ []); setup_count = length (setups ++ s ∷ []) }) shown_nodes-setup
        ∙ ap (λ ss. record { shape = shape; nodes = shown_nodes ts setups; pending = ss; setup_count = length (setups ++ s ∷ []) }) (drop-append-le (setups_start ts (length ts)) setups (s ∷ []) (part_start-within ends (length ts) (omega arith)))
        ∙ ap (λ k. record { shape = shape; nodes = shown_nodes ts setups; pending = drop (setups_start ts (length ts)) setups ++ s ∷ []; setup_count = k }) (length_push setups s)

pub IsBeginning-setup : (shape : Shape) (ts : List TreeNode) (setups : List Setup) (main : ℕ) → IsBeginning shape ts setups main → (s : Setup) → length setups < 4294967295 → IsOrderedRectOnBoard shape s.rect → IsBeginning shape ts (setups ++ s ∷ []) main
IsBeginning-setup shape ts setups main begun s room on =
    let view = shown_built-setup ts setups begun.ends s shape in
    record {
      grown = subst (λ (c : Built). IsGrown (tree_so_far c)) (sym view) begun.grown;
      ends = record { starts = begun.ends.starts; ends = λ n h. omega (arith, begun.ends.ends n h, length_push setups s) };
      links = subst (λ (c : Built). AreLinks (tree_so_far c) ts main) (sym view) begun.links;
      pending =
          subst (λ (ss : List Setup). All (λ (t : Setup). IsOrderedRectOnBoard shape t.rect) ss) (sym (drop-append-le (setups_start ts (length ts)) setups (s ∷ []) (part_start-within begun.ends (length ts) (omega arith))))
          (All-push (λ (t : Setup). IsOrderedRectOnBoard shape t.rect) (drop (setups_start ts (length ts)) setups) s begun.pending on);
      room = omega (arith, length_push setups s);
    }

-- ---- a tree that is whole

module _ (b : Built) (info : Information) (grown : IsGrown (tree_so_far b)) where
  pub IsGrown-info : IsGrown (tree_of b info)
  IsGrown-info = record {
    most = grown.most;
    parents = grown.parents;
    on_board = grown.on_board;
  }

  pub IsTree-info : 1 ≤ length b.nodes → ((n : ℕ) → n < length b.nodes → branchings_to (tree_of b info) n < 1024) → HasSimpleTexts info → IsTree (tree_of b info)
  IsTree-info some depth texts = record {
    some = some;
    most = IsGrown-info.most;
    parents = IsGrown-info.parents;
    on_board = IsGrown-info.on_board;
    depth = depth;
    texts = texts;
  }

  pub AreLinks-info : (ts : List TreeNode) (main : ℕ) → length ts ≡ length b.nodes → AreLinks (tree_so_far b) ts main → AreLinks (tree_of b info) ts main
  AreLinks-info ts main count links = record {
    siblings = links.siblings;
    moves = λ n h. links.moves n h ∙ move_number-same (tree_so_far b) (tree_of b info) (node_count (tree_so_far b)) grown IsGrown-info (λ k l. refl) (λ k l. refl) n (omega (arith, count));
    main_end = record { within = links.main_end.within; some = links.main_end.some; line = links.main_end.line; ended = links.main_end.ended };
  }

-- the moves above a child of a stored node
pub moves_below : (shape : Shape) (ts : List TreeNode) (setups : List Setup) (main : ℕ) → IsBeginning shape ts setups main → (p k : ℕ) (t : TreeNode) (one : ℕ) → p < length ts → k ≡ p → t ≡ get_or ts k t → one ≡ bool_byte (is_some t.played) → t.moves_above + one ≡ move_number_of (tree_so_far (shown_built shape ts setups)) p
moves_below shape ts setups main begun p k t one within here read own =
    let node : t ≡ tree_node ts p = node_read ts p t within (read ∙ ap (λ i. get_or ts i t) here) in
    let plays : ◌≡◌ {A = ℕ} one (one_if (is_some (tree_node ts p).played)) = own ∙ bool_byte-one_if (is_some t.played) ∙ ap (λ (u : TreeNode). one_if (is_some u.played)) node in
    omega (arith, ap (λ (u : TreeNode). u.moves_above) node, plays, begun.links.moves p within)

-- ---- one node more

module _ (shape : Shape) (ts : List TreeNode) (setups : List Setup) (x : TreeNode) (parent : Option ℕ) (next : IsNextParent (shown_built shape ts setups) parent) (same_parent : (m : ℕ) → parent ≡ Some m → x.parent ≡ m) (ending : x.setups_end ≡ length setups) (ends : AreSetupEnds ts setups) where
  tree_node-before : (n : ℕ) → n < length ts → tree_node (ts ++ x ∷ []) n ≡ tree_node ts n
  tree_node-before n h = get_or_append_left ts (x ∷ []) _ n h

  tree_node-last : tree_node (ts ++ x ∷ []) (length ts) ≡ x
  tree_node-last = get_or_push ts x _ (length ts) refl

  looks_before : (n : ℕ) → n < length ts → LooksSame (tree_node (ts ++ x ∷ []) n) (tree_node ts n)
  looks_before n h = LooksSame-itself _ _ (tree_node-before n h)

  count_nodes : length (shown_nodes ts setups) ≡ length ts
  count_nodes = length-shown ts setups

  parent-push : stored_parent (λ (k : ℕ). (tree_node (ts ++ x ∷ []) k).parent) (length ts) ≡ parent
  parent-push =
      elim (cases_Option parent) [
        | inl e ↦
            let none : length ts ≡ 0 = sym count_nodes ∙ may_have-none (parent_of (tree_so_far (shown_built shape ts setups))) (length (shown_nodes ts setups)) parent next e in
            stored_parent-zero (λ (k : ℕ). (tree_node (ts ++ x ∷ []) k).parent) (length ts) none ∙ sym e
        | inr p ↦
            let above = may_have-some (parent_of (tree_so_far (shown_built shape ts setups))) (length (shown_nodes ts setups)) parent p.0 next p.1 in
            stored_parent-suc (λ (k : ℕ). (tree_node (ts ++ x ∷ []) k).parent) (length ts) (omega (arith, above.0, count_nodes))
            ∙ ap (λ (t : TreeNode). Some t.parent) tree_node-last
            ∙ ap (λ i. Some i) (same_parent p.0 p.1)
            ∙ sym p.1
      ]

  shown_node-push : shown_node (ts ++ x ∷ []) setups (length ts) ≡ record { parent = parent; setups = drop (setups_start ts (length ts)) setups; played = x.played }
  shown_node-push =
      let start = setups_start-same (ts ++ x ∷ []) ts (length ts) looks_before in
      let end : (tree_node (ts ++ x ∷ []) (length ts)).setups_end ≡ length setups = ap (λ (t : TreeNode). t.setups_end) tree_node-last ∙ ending in
      let plays = ap (λ (t : TreeNode). t.played) tree_node-last in
      let own : between (setups_start (ts ++ x ∷ []) (length ts)) (tree_node (ts ++ x ∷ []) (length ts)).setups_end setups ≡ drop (setups_start ts (length ts)) setups =
      ap (λ s. between s (tree_node (ts ++ x ∷ []) (length ts)).setups_end setups) start
      ∙ between_to_end setups (setups_start ts (length ts)) (tree_node (ts ++ x ∷ []) (length ts)).setups_end (omega (arith, end)) in
      ap (λ o. record { parent = o; setups = between (setups_start (ts ++ x ∷ []) (length ts)) (tree_node (ts ++ x ∷ []) (length ts)).setups_end setups; played = (tree_node (ts ++ x ∷ []) (length ts)).played }) parent-push
      ∙ ap (λ ss. record { parent = parent; setups = ss; played = (tree_node (ts ++ x ∷ []) (length ts)).played }) own
      ∙ ap (λ p. record { parent = parent; setups = drop (setups_start ts (length ts)) setups; played = p }) plays

  shown_nodes-push : shown_nodes (ts ++ x ∷ []) setups ≡ shown_nodes ts setups ++ record { parent = parent; setups = drop (setups_start ts (length ts)) setups; played = x.played } ∷ []
  shown_nodes-push =
      ap (λ k. map (shown_node (ts ++ x ∷ []) setups) (range_with_len 0 k)) (length_push ts x)
      ∙ map-range_with_len_more (shown_node (ts ++ x ∷ []) setups) 0 (length ts) (length ts) (omega arith)
      ∙ ap (λ ns. ns ++ shown_node (ts ++ x ∷ []) setups (length ts) ∷ [])
      (map_same (shown_node (ts ++ x ∷ []) setups) (shown_node ts setups) 0 (length ts) (λ k low high. shown_node-same (ts ++ x ∷ []) ts setups k (λ j l. looks_before j (omega arith))))
      ∙ ap (λ d. shown_nodes ts setups ++ d ∷ []) shown_node-push

  start-push : setups_start (ts ++ x ∷ []) (length (ts ++ x ∷ [])) ≡ length setups
  start-push =
      let count : length (ts ++ x ∷ []) ≡ suc (length ts) = omega (arith, length_push ts x) in
      ap (setups_start (ts ++ x ∷ [])) count ∙ ap (λ (t : TreeNode). t.setups_end) tree_node-last ∙ ending

  pub shown_built-push : shown_built shape (ts ++ x ∷ []) setups ≡ with_node (shown_built shape ts setups) parent x.played
  shown_built-push =
      ap (λ ns. record { shape = shape; nodes = ns; pending = drop (setups_start (ts ++ x ∷ []) (length (ts ++ x ∷ []))) setups; setup_count = length setups }) shown_nodes-push
      ∙ ap (λ ss. record { shape = shape; nodes = shown_nodes ts setups ++ record { parent = parent; setups = drop (setups_start ts (length ts)) setups; played = x.played } ∷ []; pending = ss; setup_count = length setups })
      (drop_all (setups_start (ts ++ x ∷ []) (length (ts ++ x ∷ []))) setups (omega (arith, start-push)))

  AreSetupEnds-push : AreSetupEnds (ts ++ x ∷ []) setups
  AreSetupEnds-push =
      AreParts-more ends (end_of_setups (ts ++ x ∷ [])) (length (ts ++ x ∷ [])) (length setups) (length_push ts x) (omega arith)
      (λ n h. (looks_before n h).setups_end) (ap (λ (t : TreeNode). t.setups_end) tree_node-last ∙ ending)

  -- ---- the links

  module _ (main : ℕ) (begun : IsBeginning shape ts setups main) (no_next : x.next_sibling ≡ 0) (room : length ts < 65536) (on : IfSome x.played (λ (m : Move). IfSome m.point (λ (p : Point). IsOnBoard shape p))) (moves : x.moves_above ≡ option_map_or (move_number_of (tree_so_far (shown_built shape ts setups))) parent 0) where
    node_on_board : IsNodeOnBoard shape (record { parent = parent; setups = drop (setups_start ts (length ts)) setups; played = x.played })
    node_on_board = record { setups = begun.pending; played = on }

    room_nodes : length (shown_nodes ts setups) < 65536
    room_nodes = omega (arith, count_nodes)

    grown-push : IsGrown (tree_so_far (with_node (shown_built shape ts setups) parent x.played))
    grown-push = IsGrown-more (shown_built shape ts setups) parent x.played begun.grown next room_nodes node_on_board

    number-last : x.moves_above + one_if (is_some x.played) ≡ move_number_of (tree_so_far (with_node (shown_built shape ts setups) parent x.played)) (length (shown_nodes ts setups))
    number-last =
        elim (cases_Option parent) [
          | inl e ↦
              let above : ◌≡◌ {A = ℕ} (option_map_or (move_number_of (tree_so_far (shown_built shape ts setups))) parent 0) 0 = ap (λ o. option_map_or (move_number_of (tree_so_far (shown_built shape ts setups))) o 0) e in
              omega (arith, moves, above, moves-root (shown_built shape ts setups) parent x.played begun.grown next room_nodes node_on_board e)
          | inr p ↦
              let above : ◌≡◌ {A = ℕ} (option_map_or (move_number_of (tree_so_far (shown_built shape ts setups))) parent 0) (move_number_of (tree_so_far (shown_built shape ts setups)) p.0) = ap (λ o. option_map_or (move_number_of (tree_so_far (shown_built shape ts setups))) o 0) p.1 in
              omega (arith, moves, above, moves-last (shown_built shape ts setups) parent x.played begun.grown next room_nodes node_on_board p.0 p.1)
        ]

    moves-push : (n : ℕ) → n < length (ts ++ x ∷ []) → (tree_node (ts ++ x ∷ []) n).moves_above + one_if (is_some (tree_node (ts ++ x ∷ []) n).played) ≡ move_number_of (tree_so_far (with_node (shown_built shape ts setups) parent x.played)) n
    moves-push n h =
        elim (cases_lt n (length ts)) [
          | inl l ↦
              ap (λ (t : TreeNode). t.moves_above + one_if (is_some t.played)) (tree_node-before n l)
              ∙ begun.links.moves n l
              ∙ sym (moves-before (shown_built shape ts setups) parent x.played begun.grown next room_nodes node_on_board n (omega (arith, count_nodes)))
          | inr l ↦
              let here : length ts ≡ n = omega (arith, length_push ts x) in
              let shown : length (shown_nodes ts setups) ≡ n = omega (arith, here, count_nodes) in
              sym (ap (λ i. (tree_node (ts ++ x ∷ []) i).moves_above + one_if (is_some (tree_node (ts ++ x ∷ []) i).played)) here)
              ∙ ap (λ (t : TreeNode). t.moves_above + one_if (is_some t.played)) tree_node-last
              ∙ number-last
              ∙ ap (move_number_of (tree_so_far (with_node (shown_built shape ts setups) parent x.played))) shown
        ]

    sibling-push : (n : ℕ) → length ts ≡ n → (tree_node (ts ++ x ∷ []) n).next_sibling ≡ or_zero (next_sibling_of (tree_so_far (with_node (shown_built shape ts setups) parent x.played)) n)
    sibling-push n here =
        let shown : length (shown_nodes ts setups) ≡ n = omega (arith, here, count_nodes) in
        sym (ap (λ i. (tree_node (ts ++ x ∷ []) i).next_sibling) here)
        ∙ ap (λ (t : TreeNode). t.next_sibling) tree_node-last
        ∙ no_next
        ∙ sym (ap or_zero (sym (ap (next_sibling_of (tree_so_far (with_node (shown_built shape ts setups) parent x.played))) shown) ∙ sibling-last (shown_built shape ts setups) parent x.played begun.grown next))

    -- it is the root, or the first child of the node before it
    pub IsBeginning-first : ((m : ℕ) → parent ≡ Some m → m + 1 ≡ length ts) → (main_after : ℕ) → IsMainEnd (tree_so_far (with_node (shown_built shape ts setups) parent x.played)) main_after → IsBeginning shape (ts ++ x ∷ []) setups main_after
    IsBeginning-first behind main_after end = record {
      grown = subst (λ (c : Built). IsGrown (tree_so_far c)) (sym shown_built-push) grown-push;
      ends = AreSetupEnds-push;
      links = subst (λ (c : Built). AreLinks (tree_so_far c) (ts ++ x ∷ []) main_after) (sym shown_built-push) (record {
        siblings = λ n h. elim (cases_lt n (length ts)) [
          | inl l ↦
              ap (λ (t : TreeNode). t.next_sibling) (tree_node-before n l)
              ∙ begun.links.siblings n l
              ∙ sym (ap or_zero (siblings-first (shown_built shape ts setups) parent x.played begun.grown next (λ m e. behind m e ∙ sym count_nodes) n (omega (arith, count_nodes))))
          | inr l ↦ sibling-push n (omega (arith, length_push ts x))
        ];
        moves = moves-push;
        main_end = end;
      });
      pending = subst (λ (c : Built). All (λ (s : Setup). IsOrderedRectOnBoard c.shape s.rect) c.pending) (sym shown_built-push) (All-nil (λ (s : Setup). IsOrderedRectOnBoard shape s.rect));
      room = begun.room;
    }

    -- it stands behind the last child c of its parent, which gets it as its next sibling
    module _ (c m : ℕ) (within : c < length ts) (is : parent ≡ Some m) (below : parent_of (tree_so_far (shown_built shape ts setups)) c ≡ Some m) (last : next_sibling_of (tree_so_far (shown_built shape ts setups)) c ≡ None) (y : TreeNode) (looks : LooksSame y (tree_node (ts ++ x ∷ []) c)) (above : y.moves_above ≡ (tree_node (ts ++ x ∷ []) c).moves_above) (sibling : y.next_sibling ≡ length ts) where
      tree_node-c : tree_node (set (ts ++ x ∷ []) c y) c ≡ y
      tree_node-c = get_or-set_same (ts ++ x ∷ []) c y _ (omega (arith, length_push ts x))

      tree_node-other : (n : ℕ) → n ≢ c → tree_node (set (ts ++ x ∷ []) c y) n ≡ tree_node (ts ++ x ∷ []) n
      tree_node-other n ne = get_or-set_other (ts ++ x ∷ []) c n y _ ne

      looks_set : (n : ℕ) → LooksSame (tree_node (set (ts ++ x ∷ []) c y) n) (tree_node (ts ++ x ∷ []) n)
      looks_set n =
          elim (cases_eq n c) [
            | inl e ↦ subst (λ (i : ℕ). LooksSame (tree_node (set (ts ++ x ∷ []) c y) i) (tree_node (ts ++ x ∷ []) i)) (sym e) (subst (λ (t : TreeNode). LooksSame t (tree_node (ts ++ x ∷ []) c)) (sym tree_node-c) looks)
            | inr ne ↦ LooksSame-itself _ _ (tree_node-other n ne)
          ]

      count_set : length (set (ts ++ x ∷ []) c y) ≡ length (ts ++ x ∷ [])
      count_set = length-set (ts ++ x ∷ []) c y

      pub shown_built-set : shown_built shape (set (ts ++ x ∷ []) c y) setups ≡ with_node (shown_built shape ts setups) parent x.played
      shown_built-set =
          ap (λ k. record { shape = shape; nodes = map (shown_node (set (ts ++ x ∷ []) c y) setups) (range_with_len 0 k); pending = drop (setups_start (set (ts ++ x ∷ []) c y) k) setups; setup_count = length setups }) count_set
          ∙ ap (λ ns. record { shape = shape; nodes = ns; pending = drop (setups_start (set (ts ++ x ∷ []) c y) (length (ts ++ x ∷ []))) setups; setup_count = length setups })
          (map_same (shown_node (set (ts ++ x ∷ []) c y) setups) (shown_node (ts ++ x ∷ []) setups) 0 (length (ts ++ x ∷ [])) (λ k low high. shown_node-same (set (ts ++ x ∷ []) c y) (ts ++ x ∷ []) setups k (λ j l. looks_set j)))
          ∙ ap (λ s. record { shape = shape; nodes = shown_nodes (ts ++ x ∷ []) setups; pending = drop s setups; setup_count = length setups })
          (setups_start-same (set (ts ++ x ∷ []) c y) (ts ++ x ∷ []) (length (ts ++ x ∷ [])) (λ j l. looks_set j))
          ∙ shown_built-push

      AreSetupEnds-set : AreSetupEnds (set (ts ++ x ∷ []) c y) setups
      AreSetupEnds-set =
          AreParts-same AreSetupEnds-push (end_of_setups (set (ts ++ x ∷ []) c y)) (length (set (ts ++ x ∷ []) c y)) count_set
          (λ n. (looks_set n).setups_end)

      siblings-set : (n : ℕ) → n < length (set (ts ++ x ∷ []) c y) → (tree_node (set (ts ++ x ∷ []) c y) n).next_sibling ≡ or_zero (next_sibling_of (tree_so_far (with_node (shown_built shape ts setups) parent x.played)) n)
      siblings-set n h =
          elim (cases_eq n c) [
            | inl e ↦
                ap (λ i. (tree_node (set (ts ++ x ∷ []) c y) i).next_sibling) e
                ∙ ap (λ (t : TreeNode). t.next_sibling) tree_node-c
                ∙ sibling
                ∙ sym count_nodes
                ∙ sym (ap or_zero (ap (next_sibling_of (tree_so_far (with_node (shown_built shape ts setups) parent x.played))) e ∙ sibling-new (shown_built shape ts setups) parent x.played begun.grown next c m (omega (arith, count_nodes)) below last is))
            | inr ne ↦
                ap (λ (t : TreeNode). t.next_sibling) (tree_node-other n ne)
                ∙ elim (cases_lt n (length ts)) [
                  | inl l ↦
                      ap (λ (t : TreeNode). t.next_sibling) (tree_node-before n l)
                      ∙ begun.links.siblings n l
                      ∙ sym (ap or_zero (siblings-other (shown_built shape ts setups) parent x.played begun.grown next c m (omega (arith, count_nodes)) is below last n (omega (arith, count_nodes)) ne))
                  | inr l ↦ sibling-push n (omega (arith, length_push ts x, count_set))
                ]
          ]

      moves-set : (n : ℕ) → n < length (set (ts ++ x ∷ []) c y) → (tree_node (set (ts ++ x ∷ []) c y) n).moves_above + one_if (is_some (tree_node (set (ts ++ x ∷ []) c y) n).played) ≡ move_number_of (tree_so_far (with_node (shown_built shape ts setups) parent x.played)) n
      moves-set n h =
          elim (cases_eq n c) [
            | inl e ↦
                let old = moves-push n (omega (arith, count_set)) in
                ap (λ i. (tree_node (set (ts ++ x ∷ []) c y) i).moves_above + one_if (is_some (tree_node (set (ts ++ x ∷ []) c y) i).played)) e
                ∙ ap (λ (t : TreeNode). t.moves_above + one_if (is_some t.played)) tree_node-c
                ∙ ap (λ k. k + one_if (is_some y.played)) above
                ∙ ap (λ o. (tree_node (ts ++ x ∷ []) c).moves_above + one_if (is_some o)) looks.played
                ∙ sym (ap (λ i. (tree_node (ts ++ x ∷ []) i).moves_above + one_if (is_some (tree_node (ts ++ x ∷ []) i).played)) e)
                ∙ old
            | inr ne ↦
                ap (λ (t : TreeNode). t.moves_above + one_if (is_some t.played)) (tree_node-other n ne)
                ∙ moves-push n (omega (arith, count_set))
          ]

      pub IsBeginning-later : (main_after : ℕ) → IsMainEnd (tree_so_far (with_node (shown_built shape ts setups) parent x.played)) main_after → IsBeginning shape (set (ts ++ x ∷ []) c y) setups main_after
      IsBeginning-later main_after end = record {
        grown = subst (λ (b : Built). IsGrown (tree_so_far b)) (sym shown_built-set) grown-push;
        ends = AreSetupEnds-set;
        links = subst (λ (b : Built). AreLinks (tree_so_far b) (set (ts ++ x ∷ []) c y) main_after) (sym shown_built-set) (record { siblings = siblings-set; moves = moves-set; main_end = end });
        pending = subst (λ (b : Built). All (λ (s : Setup). IsOrderedRectOnBoard b.shape s.rect) b.pending) (sym shown_built-set) (All-nil (λ (s : Setup). IsOrderedRectOnBoard shape s.rect));
        room = begun.room;
      }
