-- A walk that keeps the images of the position where it stands: it enters a node, leaves it, or goes back to a node above.
use Rattle.std.proofs.Common.{◌≡◌, ◌≢◌, ℕ, ◌<◌, List, All, length, Option, Some, None, refl, sym, ap, ◌∙◌, subst, arith}
use Rattle.std.proofs.lemmas.List.Elements.{All-weaker}
use Rattle.std.specs.Prelude.{IfSome}
use Rattle.node_paths.proofs.Ancestors.{parent-lt}
use Rattle.kb_geometry.specs.declared.shape.Shape.{Shape}
use Rattle.kb_geometry.specs.declared.stone.Change.{Change}
use Rattle.kb_geometry.specs.Board.{point_count}
use Rattle.kb_geometry.specs.Capture.{Position}
use Rattle.capture_board.specs.Changes.{AreChangesOf, with_changes}
use Rattle.capture_board.specs.Deltas.{AreDeltas, Deltas, changes_of, node_count, parent_of, position_where}
use Rattle.capture_board.specs.StoredWalking.{with_old_cells}
use Rattle.capture_board.specs.Walking.{MayLeaveTo, StandsIn, WalkerState, parent_here}
use Rattle.capture_board.proofs.DeltaPaths.{length-position_where, position_at-step}
use Rattle.capture_board.proofs.MadeChanges.{with_old_cells-back}
use Rattle.capture_board.proofs.WalkerSteps.{IsLeaving-more}
use Rattle.opening_tree.specs.Frames.{AreImages}
use Rattle.opening_tree.specs.Turned.{StandsTurned, TurnedState, TurnedWalk}

-- a walk that stands here and keeps these images
abbrev pub walk_at : Option ℕ → TurnedState → TurnedWalk
walk_at here turned = record { shape = turned.shape; here = here; images = turned.images }

-- what changes of a position become in its images
abbrev pub IsTurnedBy : (Position → Position) → TurnedState → TurnedState → Type 0
IsTurnedBy change before after = (position : Position) → length position ≡ point_count before.shape → AreImages before.shape position before.images → AreImages before.shape (change position) after.images

module _ (deltas : Deltas) (are : AreDeltas deltas) (here : Option ℕ) (turned : TurnedState) (walk : TurnedWalk) (view : walk_at here turned ≡ walk) (stands : StandsTurned deltas walk) where
  here_is : here ≡ walk.here
  here_is = ap (λ (w : TurnedWalk). w.here) view

  shape_is : turned.shape ≡ deltas.shape
  shape_is = ap (λ (w : TurnedWalk). w.shape) view ∙ stands.same_shape

  shown : AreImages turned.shape (position_where deltas here) turned.images
  shown =
      let own : StandsTurned deltas (walk_at here turned) = subst (StandsTurned deltas) (sym view) stands in
      own.are_images

  count : (o : Option ℕ) → length (position_where deltas o) ≡ point_count turned.shape
  count o = length-position_where deltas o ∙ sym (ap point_count shape_is)

  -- the changes of a node are on the board
  pub turned_on_board : (n : ℕ) (cs : List Change) → AreChangesOf (position_where deltas (parent_of deltas n)) cs → All (λ (c : Change). c.point < point_count turned.shape) cs
  turned_on_board n cs changes =
      let many = count (parent_of deltas n) in
      All-weaker (λ (c : Change). c.point < length (position_where deltas (parent_of deltas n))) (λ (c : Change). c.point < point_count turned.shape) (λ c h. omega (arith, many, h)) cs changes.on_board

  -- the node where it stands is there
  pub turned_node_here : (n : ℕ) → here ≡ Some n → n < node_count deltas
  turned_node_here n e = subst (λ (o : Option ℕ). IfSome o (λ m. m < node_count deltas)) (sym here_is ∙ e) stands.in_range

  parent_there : (n : ℕ) → n < node_count deltas → (o : Option ℕ) → o ≡ parent_of deltas n → IfSome o (λ m. m < node_count deltas)
  parent_there n within None e = tt
  parent_there n within (Some m) e = omega (arith, within, parent-lt are.parents n m (sym e))

  module _ (next : TurnedState) (same : next.shape ≡ turned.shape) (cs : List Change) (n : ℕ) (within : n < node_count deltas) (of_node : cs ≡ changes_of deltas n) where
    pub turned_entered : parent_of deltas n ≡ walk.here → IsTurnedBy (λ p. with_changes p cs) turned next → StandsTurned deltas (walk_at (Some n) next)
    turned_entered child made =
        let now : with_changes (position_where deltas here) cs ≡ position_where deltas (Some n) =
        ap (with_changes (position_where deltas here)) of_node ∙ ap (λ o. with_changes (position_where deltas o) (changes_of deltas n)) (here_is ∙ sym child) ∙ sym (position_at-step deltas are n) in
        record {
          same_shape = same ∙ shape_is;
          in_range = within;
          are_images =
              subst (λ (s : Shape). AreImages s (position_where deltas (Some n)) next.images) (sym same)
              (subst (λ (p : Position). AreImages turned.shape p next.images) now (made (position_where deltas here) (count here) shown));
        }

    pub turned_left : here ≡ Some n → IsTurnedBy (λ p. with_old_cells p cs) turned next → (o : Option ℕ) → o ≡ parent_of deltas n → StandsTurned deltas (walk_at o next)
    turned_left at_node taken o e =
        let back : with_old_cells (position_where deltas here) cs ≡ position_where deltas o =
        ap (with_old_cells (position_where deltas here)) of_node
        ∙ ap (λ q. with_old_cells q (changes_of deltas n)) (ap (position_where deltas) at_node ∙ position_at-step deltas are n)
        ∙ with_old_cells-back (position_where deltas (parent_of deltas n)) (changes_of deltas n) (are.changes n within)
        ∙ ap (position_where deltas) (sym e) in
        record {
          same_shape = same ∙ shape_is;
          in_range = parent_there n within o e;
          are_images =
              subst (λ (s : Shape). AreImages s (position_where deltas o) next.images) (sym same)
              (subst (λ (p : Position). AreImages turned.shape p next.images) back (taken (position_where deltas here) (count here) shown));
        }

-- ---- on the way back

pub record IsLeavingTurned (deltas : Deltas) (above : Option ℕ) (shape : Shape) (walk : TurnedWalk) : Type 0 where
  pub same : walk.shape ≡ shape
  pub stands : StandsTurned deltas walk
  pub on_path : MayLeaveTo deltas walk.here above

-- a walker that stands there too
walker_there : Deltas → Option ℕ → WalkerState
walker_there deltas here = record { shape = deltas.shape; here = here; position = position_where deltas here }

stands_there : (deltas : Deltas) (walk : TurnedWalk) → StandsTurned deltas walk → StandsIn deltas (walker_there deltas walk.here)
unfolding walker_there
stands_there deltas walk stands = record { same_shape = refl; in_range = stands.in_range; shown = refl }

pub IsLeavingTurned-more : (deltas : Deltas) (above : Option ℕ) (shape : Shape) (walk next : TurnedWalk) → IsLeavingTurned deltas above shape walk → walk.here ≢ above → next.here ≡ parent_here deltas walk.here → next.shape ≡ walk.shape → StandsTurned deltas next → IsLeavingTurned deltas above shape next
unfolding walker_there
IsLeavingTurned-more deltas above shape walk next leaving ne e same stands = record {
  same = same ∙ leaving.same;
  stands = stands;
  on_path = (IsLeaving-more deltas above (walker_there deltas walk.here) (walker_there deltas next.here) (record { stands = stands_there deltas walk leaving.stands; on_path = leaving.on_path }) ne e (stands_there deltas next stands)).on_path;
}
