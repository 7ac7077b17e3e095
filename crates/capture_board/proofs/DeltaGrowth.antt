-- The changes of a game with one node more.
use Rattle.std.proofs.Common.{◌≡◌, ℕ, ◌+◌, ◌<◌, List, Option, Some, None, refl, sym, ap, subst, arith, inl, inr}
use Rattle.std.proofs.lemmas.Bool.{cases_lt}
use Rattle.std.proofs.lemmas.List.{get_or_append_left, get_or_push, length_push}
use Rattle.std.specs.Prelude.{IfSome}
use Rattle.node_paths.specs.Parents.{MayHaveParent}
use Rattle.node_paths.proofs.Ancestors.{may_have-some, parent-lt}
use Rattle.node_paths.proofs.MoreParents.{AreParents-more}
use Rattle.kb_geometry.specs.declared.stone.Change.{Change}
use Rattle.capture_board.specs.Changes.{AreChangesOf}
use Rattle.capture_board.specs.Deltas.{Deltas, NodeChanges, AreDeltas, IsNextParent, changes_of, node_at, node_count, parent_of, position_at, position_where, with_node}
use Rattle.capture_board.proofs.DeltaPaths.{parent-past, position_at-same, position_where-same}

module _ (deltas : Deltas) (parent : Option ℕ) (changes : List Change) where
  pub node_count-more : node_count (with_node deltas parent changes) ≡ node_count deltas + 1
  node_count-more = length_push deltas.nodes _

  pub node_at-before : (n : ℕ) → n < node_count deltas → node_at deltas n ≡ node_at (with_node deltas parent changes) n
  node_at-before n h = sym (get_or_append_left deltas.nodes _ _ n h)

  pub node_at-last : node_at (with_node deltas parent changes) (node_count deltas) ≡ record { parent = parent; changes = changes }
  node_at-last = get_or_push deltas.nodes _ _ (node_count deltas) refl

  pub parent-before : (n : ℕ) → n < node_count deltas → parent_of deltas n ≡ parent_of (with_node deltas parent changes) n
  parent-before n h = ap (λ (d : NodeChanges). d.parent) (node_at-before n h)

  pub parent-last : parent_of (with_node deltas parent changes) (node_count deltas) ≡ parent
  parent-last = ap (λ (d : NodeChanges). d.parent) node_at-last

  pub changes-before : (n : ℕ) → n < node_count deltas → changes_of deltas n ≡ changes_of (with_node deltas parent changes) n
  changes-before n h = ap (λ (d : NodeChanges). d.changes) (node_at-before n h)

  pub changes-last : changes_of (with_node deltas parent changes) (node_count deltas) ≡ changes
  changes-last = ap (λ (d : NodeChanges). d.changes) node_at-last

  module _ (are : AreDeltas deltas) where
    -- the positions at the nodes before it stay
    pub position_at-before : (n : ℕ) → n < node_count deltas → position_at deltas n ≡ position_at (with_node deltas parent changes) n
    position_at-before n h = position_at-same deltas (with_node deltas parent changes) (node_count deltas) are refl node_at-before n h

    pub position_where-before : (o : Option ℕ) → IfSome o (λ n. n < node_count deltas) → position_where deltas o ≡ position_where (with_node deltas parent changes) o
    position_where-before o h = position_where-same deltas (with_node deltas parent changes) (node_count deltas) are refl node_at-before o h

    module _ (next : IsNextParent deltas parent) where
      pub parent-there : (m : ℕ) → parent ≡ Some m → m < node_count deltas
      parent-there m e = (may_have-some (parent_of deltas) (node_count deltas) parent m next e).0

      next_in_range : (o : Option ℕ) → parent ≡ o → IfSome o (λ n. n < node_count deltas)
      next_in_range None e = tt
      next_in_range (Some m) e = parent-there m e

      next_last : MayHaveParent (parent_of deltas) (node_count deltas) (parent_of (with_node deltas parent changes) (node_count deltas))
      next_last = subst (λ (o : Option ℕ). MayHaveParent (parent_of deltas) (node_count deltas) o) (sym parent-last) next

      parent-within : (n : ℕ) → n < node_count deltas → (o : Option ℕ) → parent_of deltas n ≡ o → IfSome o (λ m. m < node_count deltas)
      parent-within n h None e = tt
      parent-within n h (Some m) e = omega (arith, parent-lt are.parents n m e)

      changes-kept : (n : ℕ) → n < node_count deltas → AreChangesOf (position_where (with_node deltas parent changes) (parent_of (with_node deltas parent changes) n)) (changes_of (with_node deltas parent changes) n)
      changes-kept n h =
          subst (λ (d : NodeChanges). AreChangesOf (position_where (with_node deltas parent changes) d.parent) d.changes) (node_at-before n h)
          (subst (λ q. AreChangesOf q (changes_of deltas n)) (position_where-before (parent_of deltas n) (parent-within n h (parent_of deltas n) refl))
          (are.changes n h))

      -- it is such a list again
      pub AreDeltas-more : node_count deltas < 65536 → AreChangesOf (position_where deltas parent) changes → AreDeltas (with_node deltas parent changes)
      AreDeltas-more room of = record {
        most = omega (arith, node_count-more);
        parents =
            AreParents-more (parent_of (with_node deltas parent changes)) (node_count (with_node deltas parent changes)) are.parents
            next_last node_count-more parent-before (parent-past (with_node deltas parent changes));
        changes = λ n h. elim (cases_lt n (node_count deltas)) [
          | inl l ↦ changes-kept n l
          | inr l ↦
              let here : node_count deltas ≡ n = omega (arith, node_count-more) in
              subst (λ (i : ℕ). AreChangesOf (position_where (with_node deltas parent changes) (parent_of (with_node deltas parent changes) i)) (changes_of (with_node deltas parent changes) i)) here
              (subst (λ (d : NodeChanges). AreChangesOf (position_where (with_node deltas parent changes) d.parent) d.changes) (sym node_at-last)
              (subst (λ q. AreChangesOf q changes) (position_where-before parent (next_in_range parent refl)) of))
        ];
      }
