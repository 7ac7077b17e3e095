-- The positions along the paths from a node up to the root.
use Rattle.std.proofs.Common.{◌≡◌, ℕ, ◌<◌, ◌≤◌, List, [], ◌∷◌, length, All, Option, Some, None, sym, ◌∙◌, ap, inl, inr}
use Rattle.std.proofs.lemmas.List.{get_or_past, length-replicate}
use Rattle.std.proofs.lemmas.List.Elements.{All-head, All-tail}
use Rattle.std.specs.Prelude.{IfSome}
use Rattle.node_paths.specs.Paths.{path_to}
use Rattle.node_paths.proofs.Ancestors.{cases_Option}
use Rattle.node_paths.proofs.PathLists.{path_to-below, path_to-parent, path_to-root, path_to-same}
use Rattle.kb_geometry.specs.declared.stone.Cell.TheVariants as cell
use Rattle.kb_geometry.specs.Board.{point_count}
use Rattle.kb_geometry.specs.Capture.{empty_board}
use Rattle.capture_board.specs.Changes.{with_changes}
use Rattle.capture_board.specs.Deltas.{Deltas, NodeChanges, AreDeltas, changes_of, node_at, node_count, parent_of, position_along, position_at, position_where}
use Rattle.capture_board.proofs.MadeChanges.{length-with_changes}

-- behind the last node none has a parent
pub parent-past : (deltas : Deltas) (n : ℕ) → node_count deltas ≤ n → parent_of deltas n ≡ None
parent-past deltas n h = ap (λ (d : NodeChanges). d.parent) (get_or_past deltas.nodes n _ h)

-- ---- two lists of changes whose nodes below a number are the same

module _ (t u : Deltas) (count : ℕ) (are : AreDeltas t) (same_shape : t.shape ≡ u.shape) (agree : (n : ℕ) → n < count → node_at t n ≡ node_at u n) where
  same_parent : (n : ℕ) → n < count → parent_of t n ≡ parent_of u n
  same_parent n h = ap (λ (d : NodeChanges). d.parent) (agree n h)

  same_changes : (n : ℕ) → n < count → changes_of t n ≡ changes_of u n
  same_changes n h = ap (λ (d : NodeChanges). d.changes) (agree n h)

  -- they show the same position at each of them
  along-same : (path : List ℕ) → All (λ k. k < count) path → position_along t path ≡ position_along u path
  along-same [] below = ap empty_board same_shape
  along-same (n ∷ up) below =
      ap (λ q. with_changes q (changes_of t n)) (along-same up (All-tail (λ k. k < count) n up below))
      ∙ ap (with_changes (position_along u up)) (same_changes n (All-head (λ k. k < count) n up below))

  pub position_at-same : (n : ℕ) → n < count → position_at t n ≡ position_at u n
  position_at-same n h =
      along-same (path_to (parent_of t) n) (path_to-below are.parents count n h)
      ∙ ap (position_along u) (path_to-same (parent_of u) count are.parents same_parent n h)

  pub position_where-same : (o : Option ℕ) → IfSome o (λ n. n < count) → position_where t o ≡ position_where u o
  position_where-same None h = ap empty_board same_shape
  position_where-same (Some n) h = position_at-same n h

-- ---- the position at a node

-- the position at a node is that at its parent, or the empty board at the root, with the changes of the node
pub position_at-step : (deltas : Deltas) → AreDeltas deltas → (n : ℕ) → position_at deltas n ≡ with_changes (position_where deltas (parent_of deltas n)) (changes_of deltas n)
position_at-step deltas are n =
    elim (cases_Option (parent_of deltas n)) [
      | inl e ↦
          ap (position_along deltas) (path_to-root are.parents n e)
          ∙ sym (ap (λ o. with_changes (position_where deltas o) (changes_of deltas n)) e)
      | inr p ↦
          ap (position_along deltas) (path_to-parent are.parents n p.0 p.1)
          ∙ sym (ap (λ o. with_changes (position_where deltas o) (changes_of deltas n)) p.1)
    ]

length-along : (deltas : Deltas) (path : _) → length (position_along deltas path) ≡ point_count deltas.shape
length-along deltas [] = length-replicate (point_count deltas.shape) cell.Empty
length-along deltas (n ∷ up) = length-with_changes (position_along deltas up) (changes_of deltas n) ∙ length-along deltas up

-- each position has a cell for each point
pub length-position_at : (deltas : Deltas) (n : ℕ) → length (position_at deltas n) ≡ point_count deltas.shape
length-position_at deltas n = length-along deltas (path_to (parent_of deltas) n)

pub length-position_where : (deltas : Deltas) (here : Option ℕ) → length (position_where deltas here) ≡ point_count deltas.shape
length-position_where deltas None = length-replicate (point_count deltas.shape) cell.Empty
length-position_where deltas (Some n) = length-position_at deltas n
