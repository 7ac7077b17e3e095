-- What the stored nodes say of the changes that they show.
use Prim.Native.Nat.{zero}
use Rattle.std.proofs.Common.{◌≡◌, ◌≢◌, ℕ, ◌+◌, ◌*◌, ◌-◌, ◌<◌, ◌≤◌, suc, List, [], ◌∷◌, ◌++◌, length, get_or, take, drop, Option, Some, None, refl, sym, ◌∙◌, ap, subst, arith, inl, inr}
use Rattle.std.proofs.lemmas.List.{get_or_read, get_or_append_left, get_or_push, length_push, length-append, length-drop, drop-append-le, take-append-le, drop_at, take_all}
use Rattle.std.proofs.lemmas.List.FromFn.{length-map-range_with_len, get_or-map-range_with_len, map-range_with_len_more}
use Rattle.std.specs.Prelude.{map, unwrap_or}
use Rattle.std.specs.List.{range_with_len, between}
use Rattle.node_paths.specs.StoredNodes.{stored_parent}
use Rattle.node_paths.proofs.Ancestors.{cases_Option, may_have-none, may_have-some, root-parent}
use Rattle.node_paths.proofs.StoredNodes.{AreParts-more, map_same, part_start-same, stored_parent-same, stored_parent-suc, stored_parent-zero}
use Rattle.kb_geometry.specs.declared.shape.Shape.{Shape}
use Rattle.kb_geometry.specs.declared.shape.TheConstants.{MAX_POINTS}
use Rattle.kb_geometry.specs.declared.stone.Change.{Change}
use Rattle.kb_geometry.specs.Board.{point_count}
use Rattle.capture_board.specs.declared.deltas.StoredNode.{StoredNode}
use Rattle.capture_board.specs.Changes.{AreChangesOf}
use Rattle.capture_board.specs.Deltas.{Deltas, NodeChanges, AreDeltas, IsNextParent, changes_of, node_at, node_count, parent_of, position_where, with_node}
use Rattle.capture_board.specs.StoredDeltas.{changes_end, stored_node, end_of_changes, changes_start, shown_node, shown_nodes, shown_deltas, AreChangeEnds, IsStored}
use Rattle.capture_board.proofs.DeltaGrowth.{parent-there, AreDeltas-more}
use Rattle.capture_board.proofs.DeltaPaths.{length-position_where}
use Rattle.capture_board.proofs.MadeChanges.{AreChangesOf-count}
use Rattle.kb_geometry.proofs.Shapes.{point_count-le-most}

-- ---- lists of nodes

pub length-shown : (ts : List StoredNode) (changes : List Change) → length (shown_nodes ts changes) ≡ length ts
length-shown ts changes = length-map-range_with_len (shown_node ts changes) 0 (length ts)

node_at-shown : (shape : Shape) (ts : List StoredNode) (changes : List Change) (n : ℕ) → n < length ts → node_at (shown_deltas shape ts changes) n ≡ shown_node ts changes n
node_at-shown shape ts changes n h = get_or-map-range_with_len (shown_node ts changes) 0 (length ts) n n _ h (omega arith)

-- a node that was read is the stored one
pub node_read : (ts : List StoredNode) (n : ℕ) (t : StoredNode) → n < length ts → t ≡ get_or ts n t → t ≡ stored_node ts n
node_read ts n t h e = get_or_read ts n t h e _

-- ---- the changes that are shown

module _ (shape : Shape) (ts : List StoredNode) (changes : List Change) (deltas : Deltas) (shown : shown_deltas shape ts changes ≡ deltas) (stored : IsStored shape ts changes) where
  pub deltas_shown : AreDeltas deltas
  deltas_shown = subst (λ (d : Deltas). AreDeltas d) shown stored.deltas

  pub count_shown : node_count deltas ≡ length ts
  count_shown = sym (ap node_count shown) ∙ length-shown ts changes

  pub within_shown : (n : ℕ) → n < node_count deltas → n < length ts
  within_shown n h = omega (arith, count_shown)

  node_shown : (n : ℕ) → n < node_count deltas → node_at deltas n ≡ shown_node ts changes n
  node_shown n h = sym (ap (λ d. node_at d n) shown) ∙ node_at-shown shape ts changes n (within_shown n h)

  pub parent_shown : (n : ℕ) → n ≢ 0 → n < node_count deltas → Some (stored_node ts n).parent ≡ parent_of deltas n
  parent_shown zero ne h = absurd (ne refl)
  parent_shown (suc n) ne h = sym (ap (λ (d : NodeChanges). d.parent) (node_shown (suc n) h))

  pub root_shown : (n : ℕ) → n ≡ 0 → None ≡ parent_of deltas n
  root_shown n e = sym (ap (parent_of deltas) e ∙ root-parent deltas_shown.parents)

  pub changes_shown : (n : ℕ) → n < node_count deltas → between (changes_start ts n) (changes_end (stored_node ts n)) changes ≡ changes_of deltas n
  changes_shown n h = sym (ap (λ (d : NodeChanges). d.changes) (node_shown n h))

  pub changes_fit : (n : ℕ) (found : List Change) → n < node_count deltas → found ≡ changes_of deltas n → AreChangesOf (position_where deltas (parent_of deltas n)) found
  changes_fit n found h e = subst (λ (cs : List Change). AreChangesOf (position_where deltas (parent_of deltas n)) cs) (sym e) (deltas_shown.changes n h)

-- ---- one node more

module _ (shape : Shape) (ts : List StoredNode) (changes more : List Change) (x : StoredNode) (parent : Option ℕ) (stored : IsStored shape ts changes) (next : IsNextParent (shown_deltas shape ts changes) parent) (same_parent : (m : ℕ) → parent ≡ Some m → x.parent ≡ m) (ending : changes_end x ≡ length (changes ++ more)) where
  stored_node-before : (n : ℕ) → n < length ts → stored_node (ts ++ x ∷ []) n ≡ stored_node ts n
  stored_node-before n h = get_or_append_left ts (x ∷ []) _ n h

  end-before : (n : ℕ) → n < length ts → end_of_changes (ts ++ x ∷ []) n ≡ end_of_changes ts n
  end-before n h = ap changes_end (stored_node-before n h)

  stored_node-last : stored_node (ts ++ x ∷ []) (length ts) ≡ x
  stored_node-last = get_or_push ts x _ (length ts) refl

  start-before : (n : ℕ) → n ≤ length ts → changes_start (ts ++ x ∷ []) n ≡ changes_start ts n
  start-before n h =
      part_start-same (end_of_changes (ts ++ x ∷ [])) (end_of_changes ts) n (λ k low. end-before k (omega arith))

  end-last : changes_end (stored_node (ts ++ x ∷ []) (length ts)) ≡ length (changes ++ more)
  end-last = ap changes_end stored_node-last ∙ ending

  -- the nodes before it keep their changes
  changes-before : (n : ℕ) → n < length ts → between (changes_start ts n) (changes_end (stored_node ts n)) (changes ++ more) ≡ between (changes_start ts n) (changes_end (stored_node ts n)) changes
  changes-before n h =
      let start = stored.ends.parts.starts n h in
      let end = stored.ends.parts.ends n h in
      ap (take (changes_end (stored_node ts n) - changes_start ts n)) (drop-append-le (changes_start ts n) changes more (omega (arith, start, end)))
      ∙ take-append-le (changes_end (stored_node ts n) - changes_start ts n) (drop (changes_start ts n) changes) more (omega (arith, length-drop (changes_start ts n) changes, start, end))

  node-before : (n : ℕ) → n < length ts → shown_node (ts ++ x ∷ []) (changes ++ more) n ≡ shown_node ts changes n
  node-before n h =
      ap (λ p. record { parent = p; changes = between (changes_start (ts ++ x ∷ []) n) (changes_end (stored_node (ts ++ x ∷ []) n)) (changes ++ more) }) (stored_parent-same (λ (k : ℕ). (stored_node (ts ++ x ∷ []) k).parent) (λ (k : ℕ). (stored_node ts k).parent) n (ap (λ (t : StoredNode). t.parent) (stored_node-before n h)))
      ∙ ap (λ s. record { parent = stored_parent (λ (k : ℕ). (stored_node ts k).parent) n; changes = between s (changes_end (stored_node (ts ++ x ∷ []) n)) (changes ++ more) }) (start-before n (omega arith))
      ∙ ap (λ (t : StoredNode). record { parent = stored_parent (λ (k : ℕ). (stored_node ts k).parent) n; changes = between (changes_start ts n) (changes_end t) (changes ++ more) }) (stored_node-before n h)
      ∙ ap (λ cs. record { parent = stored_parent (λ (k : ℕ). (stored_node ts k).parent) n; changes = cs }) (changes-before n h)

  count_nodes : length (shown_nodes ts changes) ≡ length ts
  count_nodes = length-shown ts changes

  parent-last : stored_parent (λ (k : ℕ). (stored_node (ts ++ x ∷ []) k).parent) (length ts) ≡ parent
  parent-last =
      elim (cases_Option parent) [
        | inl e ↦
            let none : length ts ≡ 0 = sym count_nodes ∙ may_have-none (parent_of (shown_deltas shape ts changes)) (node_count (shown_deltas shape ts changes)) parent next e in
            stored_parent-zero (λ (k : ℕ). (stored_node (ts ++ x ∷ []) k).parent) (length ts) none ∙ sym e
        | inr p ↦
            let above = may_have-some (parent_of (shown_deltas shape ts changes)) (node_count (shown_deltas shape ts changes)) parent p.0 next p.1 in
            stored_parent-suc (λ (k : ℕ). (stored_node (ts ++ x ∷ []) k).parent) (length ts) (omega (arith, above.0, count_nodes))
            ∙ ap (λ (t : StoredNode). Some t.parent) stored_node-last
            ∙ ap (λ i. Some i) (same_parent p.0 p.1)
            ∙ sym p.1
      ]

  -- its own changes are those that were added
  changes-last : between (changes_start (ts ++ x ∷ []) (length ts)) (changes_end (stored_node (ts ++ x ∷ []) (length ts))) (changes ++ more) ≡ more
  changes-last =
      let start : changes_start (ts ++ x ∷ []) (length ts) ≡ length changes = start-before (length ts) (omega arith) ∙ stored.ends.whole in
      let end : changes_end (stored_node (ts ++ x ∷ []) (length ts)) ≡ length changes + length more = end-last ∙ length-append changes more in
      ap (λ s. between s (changes_end (stored_node (ts ++ x ∷ []) (length ts))) (changes ++ more)) start
      ∙ ap (take (changes_end (stored_node (ts ++ x ∷ []) (length ts)) - length changes)) (drop_at changes more (length changes) refl)
      ∙ take_all (changes_end (stored_node (ts ++ x ∷ []) (length ts)) - length changes) more (omega (arith, end))

  node-last : shown_node (ts ++ x ∷ []) (changes ++ more) (length ts) ≡ record { parent = parent; changes = more }
  node-last =
      ap (λ p. record { parent = p; changes = between (changes_start (ts ++ x ∷ []) (length ts)) (changes_end (stored_node (ts ++ x ∷ []) (length ts))) (changes ++ more) }) parent-last
      ∙ ap (λ cs. record { parent = parent; changes = cs }) changes-last

  nodes-push : shown_nodes (ts ++ x ∷ []) (changes ++ more) ≡ shown_nodes ts changes ++ record { parent = parent; changes = more } ∷ []
  nodes-push =
      ap (λ k. map (shown_node (ts ++ x ∷ []) (changes ++ more)) (range_with_len 0 k)) (length_push ts x)
      ∙ map-range_with_len_more (shown_node (ts ++ x ∷ []) (changes ++ more)) 0 (length ts) (length ts) (omega arith)
      ∙ ap (λ ns. ns ++ shown_node (ts ++ x ∷ []) (changes ++ more) (length ts) ∷ [])
      (map_same (shown_node (ts ++ x ∷ []) (changes ++ more)) (shown_node ts changes) 0 (length ts) (λ k low high. node-before k (omega arith)))
      ∙ ap (λ d. shown_nodes ts changes ++ d ∷ []) node-last

  pub shown_deltas-push : shown_deltas shape (ts ++ x ∷ []) (changes ++ more) ≡ with_node (shown_deltas shape ts changes) parent more
  shown_deltas-push = ap (λ ns. record { shape = shape; nodes = ns }) nodes-push

  -- ---- its place in the list

  module _ (of : AreChangesOf (position_where (shown_deltas shape ts changes) parent) more) (small : point_count shape ≤ MAX_POINTS) where
    pub count-more : length more ≤ MAX_POINTS
    count-more = omega (arith, AreChangesOf-count (position_where (shown_deltas shape ts changes) parent) more of, length-position_where (shown_deltas shape ts changes) parent, small)

    AreChangeEnds-push : AreChangeEnds (ts ++ x ∷ []) (changes ++ more)
    AreChangeEnds-push = record {
      parts =
          AreParts-more stored.ends.parts (end_of_changes (ts ++ x ∷ [])) (length (ts ++ x ∷ [])) (length (changes ++ more))
          (length_push ts x) (omega (arith, length-append changes more)) end-before end-last;
      whole =
          let count : length (ts ++ x ∷ []) ≡ suc (length ts) = omega (arith, length_push ts x) in
          ap (changes_start (ts ++ x ∷ [])) count ∙ end-last;
      most = omega (arith, length_push ts x, length-append changes more, stored.ends.most, count-more);
    }

    pub IsStored-push : length ts < 65536 → IsStored shape (ts ++ x ∷ []) (changes ++ more)
    IsStored-push room = record {
      deltas =
          subst (λ (d : Deltas). AreDeltas d) (sym shown_deltas-push)
          (AreDeltas-more (shown_deltas shape ts changes) parent more stored.deltas next (omega (arith, count_nodes)) of);
      ends = AreChangeEnds-push;
    }

-- ---- the next node, as `push` stores it

module _ (shape : Shape) (ts : List StoredNode) (changes more : List Change) (deltas : Deltas) (parent : Option ℕ) (shown : shown_deltas shape ts changes ≡ deltas) (stored : IsStored shape ts changes) (room : node_count deltas < 65536) (next : IsNextParent deltas parent) (of : AreChangesOf (position_where deltas parent) more) where
  next_shown : IsNextParent (shown_deltas shape ts changes) parent
  next_shown = subst (λ (d : Deltas). IsNextParent d parent) (sym shown) next

  changes_of_shown : AreChangesOf (position_where (shown_deltas shape ts changes) parent) more
  changes_of_shown = subst (λ (d : Deltas). AreChangesOf (position_where d parent) more) (sym shown) of

  room_shown : length ts < 65536
  room_shown = omega (arith, count_shown shape ts changes deltas shown stored)

  few_more : length more ≤ MAX_POINTS
  few_more = omega (arith, AreChangesOf-count (position_where deltas parent) more of, length-position_where deltas parent, ap (λ (d : Deltas). point_count d.shape) shown, point_count-le-most shape)

  -- the number of all changes fits its type
  pub count_fits : length changes + length more < 4294967296
  count_fits = omega (arith, stored.ends.most, few_more, room_shown)

  -- the number of the parent fits its type
  pub parent_fits : (o : Option ℕ) → parent ≡ o → unwrap_or o 0 < 65536
  parent_fits None e = omega arith
  parent_fits (Some m) e = omega (arith, parent-there deltas parent more (deltas_shown shape ts changes deltas shown stored) next m e)

  module _ (us : List StoredNode) (ds : List Change) (x : StoredNode) (nodes : us ≡ ts ++ x ∷ []) (all : ds ≡ changes ++ more) (its_parent : x.parent ≡ unwrap_or parent 0) (its_end : changes_end x ≡ length ds) where
    parent_same : (m : ℕ) → parent ≡ Some m → x.parent ≡ m
    parent_same m e = its_parent ∙ ap (λ o. unwrap_or o 0) e

    end_same : changes_end x ≡ length (changes ++ more)
    end_same = its_end ∙ ap length all

    pub stored_push : IsStored shape us ds
    stored_push =
        subst (λ (ns : List StoredNode). IsStored shape ns ds) (sym nodes)
        (subst (λ (cs : List Change). IsStored shape (ts ++ x ∷ []) cs) (sym all)
        (IsStored-push shape ts changes more x parent stored next_shown parent_same end_same changes_of_shown (point_count-le-most shape) room_shown))

    pub shown_push : shown_deltas shape us ds ≡ with_node deltas parent more
    shown_push =
        ap (λ ns. shown_deltas shape ns ds) nodes
        ∙ ap (λ cs. shown_deltas shape (ts ++ x ∷ []) cs) all
        ∙ shown_deltas-push shape ts changes more x parent stored next_shown parent_same end_same
        ∙ ap (λ (d : Deltas). with_node d parent more) shown

-- ---- where the changes of a node begin

pub start_fits : (ts : List StoredNode) (changes : List Change) (n : ℕ) → AreChangeEnds ts changes → length ts ≤ 65536 → n < length ts → (changes_start ts n ≤ length changes) × (length changes ≤ 65536 * MAX_POINTS)
start_fits ts changes n ends few h = (omega (arith, ends.parts.starts n h, ends.parts.ends n h), omega (arith, ends.most))
