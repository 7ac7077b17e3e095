-- A tree that is followed node by node: the changes at its nodes so far, and a board that shows the position at the
-- last one.
use Prim.Native.Nat.{zero}
use Rattle.std.proofs.Common.{◌≡◌, ℕ, suc, ◌+◌, ◌-◌, ◌<◌, ◌≤◌, List, [], get_or, map, Option, Some, None, refl, sym, ap, subst, ◌∙◌, below_more, add-one, zero-add, arith}
use Rattle.std.specs.Prelude.{IfSome}
use Rattle.std.specs.List.{range_with_len}
use Rattle.std.specs.Option.{option_map_or}
use Rattle.std.proofs.lemmas.List.FromFn.{get_or-map-range_with_len, length-map-range_with_len}
use Rattle.node_paths.specs.Parents.{MayHaveParent}
use Rattle.node_paths.proofs.Ancestors.{parent-lt}
use Rattle.node_paths.proofs.MoreParents.{may_have-same}
use Rattle.kb_geometry.specs.declared.stone.Change.{Change}
use Rattle.kb_geometry.specs.Capture.{Position, empty_board}
use Rattle.game_tree.specs.Tree as tree
use Rattle.game_tree.specs.Position.{ArePositions, IsMoved, set_up_all}
use Rattle.capture_board.specs.Board.{ShapedPosition}
use Rattle.capture_board.specs.Changes.{AreChangesOf, LeadFrom, with_changes}
use Rattle.capture_board.specs.Deltas as deltas
use Rattle.capture_board.specs.Walking.{MayLeaveTo, node_before}
use Rattle.capture_board.proofs.DeltaGrowth.{AreDeltas-more, changes-last, node_count-more, parent-before, parent-last, position_at-before, position_where-before}
use Rattle.capture_board.proofs.DeltaPaths.{parent-past, position_at-step}
use Rattle.node_position.specs.Positions.{AreDeltasOf}
use Rattle.node_position.specs.Standing.{Shows}

-- the position at a node comes from the one at its parent by its setups and its move
abbrev pub IsStepAt : tree.Tree → Position → ℕ → Position → Type 0
IsStepAt game above k here = IsMoved game.shape (set_up_all game.shape above (tree.node_at game k).setups) (tree.node_at game k).played here

-- The nodes below n are followed: these are their changes, and the board shows the position at the last of them.
pub record Followed (game : tree.Tree) (changes : deltas.Deltas) (board : ShapedPosition) (n : ℕ) : Type 0 where
  pub good : deltas.AreDeltas changes
  pub same_shape : changes.shape ≡ game.shape
  pub counted : deltas.node_count changes ≡ n
  pub parents : (k : ℕ) → k < n → deltas.parent_of changes k ≡ tree.parent_of game k
  pub steps : (k : ℕ) → k < n → IsStepAt game (deltas.position_where changes (tree.parent_of game k)) k (deltas.position_at changes k)
  pub shows : Shows changes (node_before n) board

-- no node is followed
pub Followed-start : (game : tree.Tree) (board : ShapedPosition) → board.shape ≡ game.shape → board.position ≡ empty_board game.shape → Followed game (deltas.no_nodes game.shape) board 0
Followed-start game board same empty = record {
  good = record {
    most = omega arith;
    parents = record { each = λ n high. absurd (omega arith); past = parent-past (deltas.no_nodes game.shape) };
    changes = λ n high. absurd (omega arith);
  };
  same_shape = refl;
  counted = refl;
  parents = λ k lt. absurd (omega arith);
  steps = λ k lt. absurd (omega arith);
  shows = record { same_shape = same; in_range = tt; shown = empty };
}

-- from the last node a walk can go back to what may be the parent of the next one
pub may_go_back : (changes : deltas.Deltas) (n : ℕ) (o : Option ℕ) → deltas.node_count changes ≡ n → deltas.IsNextParent changes o → MayLeaveTo changes (node_before n) o
may_go_back changes n None counted next = tt
may_go_back changes zero (Some m) counted next = absurd (omega arith)
may_go_back changes (suc k) (Some m) counted next =
    let last : deltas.node_count changes - 1 ≡ k = omega arith in
    rw last at next.1

module _ (game : tree.Tree) (is_tree : tree.IsTree game) where
  -- the parent of a node, where it has one, is a node before it
  pub parent_before : (n : ℕ) → n < tree.node_count game → IfSome (tree.parent_of game n) (λ m. m < n)
  parent_before n below = go (tree.parent_of game n) refl
    where
      go : (o : Option ℕ) → tree.parent_of game n ≡ o → IfSome o (λ m. m < n)
      go None e = tt
      go (Some m) e = parent-lt is_tree.parents n m e

  module _ (changes : deltas.Deltas) (n : ℕ) (parents : (k : ℕ) → k < n → deltas.parent_of changes k ≡ tree.parent_of game k) (below : n < tree.node_count game) where
    -- the next node of the tree may be the next one of the changes
    pub next_parent : deltas.node_count changes ≡ n → deltas.IsNextParent changes (tree.parent_of game n)
    next_parent counted =
        subst (λ (i : ℕ). MayHaveParent (deltas.parent_of changes) i (tree.parent_of game n)) (sym counted)
        (may_have-same (deltas.parent_of changes) n is_tree.parents (λ k lt. sym (parents k lt)) n (tree.parent_of game n)
        (omega arith) (is_tree.parents.each n below))

  module _ (changes : deltas.Deltas) (board : ShapedPosition) (n : ℕ) (h : Followed game changes board n) (below : n < tree.node_count game) where
    abbrev parent : Option ℕ
    parent = tree.parent_of game n

    module _ (made : List Change) (before after : ShapedPosition) (back : Shows changes parent before) (lead : LeadFrom before.position made after.position) where
      abbrev grown : deltas.Deltas
      grown = deltas.with_node changes parent made

      pub next : deltas.IsNextParent changes parent
      next = next_parent changes n h.parents below h.counted

      pub changes_of_next : AreChangesOf (deltas.position_where changes parent) made
      changes_of_next = rw back.shown at lead.changes_of

      in_range : IfSome parent (λ m. m < deltas.node_count changes)
      in_range = rw h.counted (parent_before n below)

      pub room : deltas.node_count changes < 65536
      room = omega (arith, h.counted, is_tree.most)

      good : deltas.AreDeltas grown
      good = AreDeltas-more changes parent made h.good next room changes_of_next

      position_here : deltas.position_at grown n ≡ after.position
      position_here =
          let last : deltas.changes_of grown n ≡ made = rw h.counted at (changes-last changes parent made) in
          let above : deltas.parent_of grown n ≡ parent = rw h.counted at (parent-last changes parent made) in
          let stays = position_where-before changes parent made h.good parent in_range in
          position_at-step grown good n
          ∙ ap (λ cs. with_changes (deltas.position_where grown (deltas.parent_of grown n)) cs) last
          ∙ ap (λ o. with_changes (deltas.position_where grown o) made) above
          ∙ ap (λ (p : Position). with_changes p made) (sym stays ∙ sym back.shown)
          ∙ lead.made

      step_kept : (k : ℕ) → k < n → IsStepAt game (deltas.position_where grown (tree.parent_of game k)) k (deltas.position_at grown k)
      step_kept k lt =
          let within : k < deltas.node_count changes = omega (arith, h.counted) in
          let above : IfSome (tree.parent_of game k) (λ m. m < deltas.node_count changes) = in_range_before (tree.parent_of game k) k (omega arith) (parent_before k (omega arith)) in
          rw (← position_where-before changes parent made h.good (tree.parent_of game k) above, ← position_at-before changes parent made h.good k within) (h.steps k lt)
        where
          in_range_before : (o : Option ℕ) (k : ℕ) → k ≤ n → IfSome o (λ m. m < k) → IfSome o (λ m. m < deltas.node_count changes)
          in_range_before None k le lt = tt
          in_range_before (Some m) k le lt = omega (arith, h.counted)

      -- one node more is followed
      pub Followed-more : after.shape ≡ game.shape → IsStepAt game before.position n after.position → Followed game (deltas.with_node changes parent made) after (n + 1)
      Followed-more same moved = record {
        good = good;
        same_shape = h.same_shape;
        counted = node_count-more changes parent made ∙ ap (λ k. k + 1) h.counted;
        parents = below_more (λ k. deltas.parent_of grown k ≡ tree.parent_of game k) n
            (λ k lt. sym (parent-before changes parent made k (omega (arith, h.counted))) ∙ h.parents k lt)
            (rw h.counted at (parent-last changes parent made));
        steps = below_more (λ k. IsStepAt game (deltas.position_where grown (tree.parent_of game k)) k (deltas.position_at grown k)) n
            step_kept
            (rw (← position_where-before changes parent made h.good parent in_range, position_here, ← back.shown) moved);
        shows = rw add-one (shows_last n refl);
      }
        where
          shows_last : (k : ℕ) → k ≡ n → Shows grown (Some k) after
          shows_last k e = record {
            same_shape = same ∙ sym h.same_shape;
            in_range = omega (arith, h.counted, node_count-more changes parent made);
            shown = rw e (sym position_here);
          }

  -- all nodes are followed
  module _ (changes : deltas.Deltas) (board : ShapedPosition) (h : Followed game changes board (tree.node_count game)) where
    abbrev positions : List Position
    positions = map (deltas.position_at changes) (range_with_len 0 (tree.node_count game))

    at : (k : ℕ) → k < tree.node_count game → get_or positions k [] ≡ deltas.position_at changes k
    at k lt = get_or-map-range_with_len (deltas.position_at changes) 0 (tree.node_count game) k k [] lt (zero-add k)

    above_is : (o : Option ℕ) → IfSome o (λ m. m < tree.node_count game) → option_map_or (λ m. get_or positions m []) o (empty_board game.shape) ≡ deltas.position_where changes o
    above_is None lt = ap empty_board (sym h.same_shape)
    above_is (Some m) lt = at m lt

    parent_within : (o : Option ℕ) (k : ℕ) → k < tree.node_count game → IfSome o (λ m. m < k) → IfSome o (λ m. m < tree.node_count game)
    parent_within None k lt before = tt
    parent_within (Some m) k lt before = omega arith

    pub Followed-end : (ps : List Position) × ArePositions game ps × AreDeltasOf game ps changes
    Followed-end = (
      positions,
      record {
        each_node = length-map-range_with_len (deltas.position_at changes) 0 (tree.node_count game);
        steps = λ k lt. rw (above_is (tree.parent_of game k) (parent_within (tree.parent_of game k) k lt (parent_before k lt)), at k lt) (h.steps k lt);
      },
      record {
        same_shape = h.same_shape;
        each_node = h.counted;
        parents = h.parents;
        each_position = λ k lt. sym (at k lt);
      },
    )
