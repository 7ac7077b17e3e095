-- A tree has one list of changes.
use Rattle.std.proofs.Common.{◌≡◌, ℕ, ◌<◌, List, [], Option, Some, None, refl, sym, ap, ◌∙◌, arith}
use Rattle.std.specs.Prelude.{IfSome}
use Rattle.std.proofs.lemmas.List.{ext_get_or}
use Rattle.kb_geometry.specs.declared.stone.Change.{Change}
use Rattle.kb_geometry.specs.Capture.{Position, empty_board}
use Rattle.game_tree.specs.Tree as tree
use Rattle.capture_board.specs.Changes.{LeadFrom}
use Rattle.capture_board.specs.Deltas.{AreDeltas, Deltas, NodeChanges, changes_of, node_at, node_count, parent_of, position_at, position_where}
use Rattle.capture_board.proofs.DeltaPaths.{position_at-step}
use Rattle.capture_board.proofs.NetChanges.{LeadFrom-unique}
use Rattle.node_position.specs.Positions.{AreDeltasOf}
use Rattle.node_position.proofs.Following.{parent_before}

-- a node's changes lead from the position at its parent to the one at the node
leads_here : (changes : Deltas) → AreDeltas changes → (n : ℕ) → n < node_count changes
    → LeadFrom (position_where changes (parent_of changes n)) (changes_of changes n) (position_at changes n)
leads_here changes good n below = record {
  changes_of = good.changes n below;
  made = sym (position_at-step changes good n);
}

same_node : (p q : Option ℕ) (cs ds : List Change) → p ≡ q → cs ≡ ds
    → ◌≡◌ {A = NodeChanges} (record { parent = p; changes = cs }) (record { parent = q; changes = ds })
same_node p q cs ds e f = rw (e, f) refl

same_deltas : (one other : Deltas) → one.shape ≡ other.shape → one.nodes ≡ other.nodes → one ≡ other
same_deltas one other e f = λ i. record { shape = e i; nodes = f i }

module _ (game : tree.Tree) (positions : List Position) (one other : Deltas) (is_tree : tree.IsTree game)
    (good : AreDeltas one) (fine : AreDeltas other)
    (are : AreDeltasOf game positions one) (too : AreDeltasOf game positions other) where
  same_at : (n : ℕ) → n < tree.node_count game → position_at one n ≡ position_at other n
  same_at n below = are.each_position n below ∙ sym (too.each_position n below)

  same_where : (o : Option ℕ) → IfSome o (λ m. m < tree.node_count game)
      → position_where one o ≡ position_where other o
  same_where None lt = ap empty_board (are.same_shape ∙ sym too.same_shape)
  same_where (Some m) lt = same_at m lt

  within : (o : Option ℕ) (n : ℕ) → n < tree.node_count game → IfSome o (λ m. m < n)
      → IfSome o (λ m. m < tree.node_count game)
  within None n below before = tt
  within (Some m) n below before = omega arith

  same_changes : (n : ℕ) → n < tree.node_count game → changes_of one n ≡ changes_of other n
  same_changes n below =
      let parent = tree.parent_of game n in
      let first = leads_here one good n (omega (arith, are.each_node)) in
      let second = leads_here other fine n (omega (arith, too.each_node)) in
      let above = same_where parent (within parent n below (parent_before game is_tree n below)) in
      LeadFrom-unique (position_where other parent) (position_at other n) (changes_of one n) (changes_of other n)
      (rw (are.parents n below, above, same_at n below) at first) (rw (too.parents n below) at second)

  same_entry : (n : ℕ) → n < node_count one → node_at one n ≡ node_at other n
  same_entry n lt =
      let below : n < tree.node_count game = omega (arith, are.each_node) in
      same_node (parent_of one n) (parent_of other n) (changes_of one n) (changes_of other n)
      (are.parents n below ∙ sym (too.parents n below)) (same_changes n below)

  pub changes-unique : one ≡ other
  changes-unique =
      let none : NodeChanges = record { parent = None; changes = [] } in
      same_deltas one other (are.same_shape ∙ sym too.same_shape)
      (ext_get_or none one.nodes other.nodes (are.each_node ∙ sym too.each_node) same_entry)
