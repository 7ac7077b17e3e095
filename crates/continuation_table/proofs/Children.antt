-- Whether a placement that holds at a node still does at a child.
use Rattle.std.proofs.Common.{◌≡◌, ℕ, ◌<◌, ◌↔◌, List, length, Option, Some, sym, ap, subst, ◌∙◌, arith}
use Rattle.std.specs.Prelude.{All}
use Rattle.std.proofs.lemmas.List.Elements.{All-weaker}
use Rattle.kb_geometry.specs.declared.shape.Shape.{Shape}
use Rattle.kb_geometry.specs.declared.stone.Change.{Change}
use Rattle.kb_geometry.specs.Board.{point_count}
use Rattle.kb_geometry.specs.Capture.{Position}
use Rattle.capture_board.specs.Changes.{AreChangesOf, with_changes}
use Rattle.capture_board.specs.Deltas.{AreDeltas, Deltas, changes_of, parent_of, position_at, position_where}
use Rattle.capture_board.proofs.DeltaPaths.{length-position_where, position_at-step}
use Rattle.pattern_images.specs.Holds.{Holds}
use Rattle.pattern_images.specs.ImageList.{IsPlacedOn}
use Rattle.pattern_images.specs.Placements.{Placement}
use Rattle.pattern_occurrences.specs.Occurrences.{HoldsAt}
use Rattle.continuation_table.specs.Descending.{AreAllowed}
use Rattle.continuation_table.proofs.Losses.{holds-allowed}

module _ (deltas : Deltas) (shape : Shape) (same : shape ≡ deltas.shape) (child : ℕ) (list : List Change) (good : AreDeltas deltas) (value : list ≡ changes_of deltas child) (are : AreChangesOf (position_where deltas (parent_of deltas child)) list) where
  -- a node changes points of the board
  pub on_board-child : All (λ (c : Change). c.point < point_count shape) list
  on_board-child =
      All-weaker (λ (c : Change). c.point < length (position_where deltas (parent_of deltas child))) (λ (c : Change). c.point < point_count shape)
      (λ c lt. omega (arith, length-position_where deltas (parent_of deltas child), ap point_count same)) list are.on_board

  module _ (here : ℕ) (at_parent : parent_of deltas child ≡ Some here) where
    shapes : deltas.shape ≡ shape
    shapes = sym same

    are_here : AreChangesOf (position_at deltas here) list
    are_here = subst (λ (o : Option ℕ). AreChangesOf (position_where deltas o) list) at_parent are

    step : position_at deltas child ≡ with_changes (position_at deltas here) list
    step =
        position_at-step deltas good child
        ∙ ap (λ (o : Option ℕ). with_changes (position_where deltas o) (changes_of deltas child)) at_parent
        ∙ ap (with_changes (position_at deltas here)) (sym value)

    -- it still holds just where it allows the new cells of the child's changes
    pub holds-child : (placement : Placement) → IsPlacedOn shape placement → HoldsAt deltas placement here →
        AreAllowed shape placement list ↔ HoldsAt deltas placement child
    holds-child placement placed holds =
        let there : Holds shape (position_at deltas here) placement =
        subst (λ (s : Shape). Holds s (position_at deltas here) placement) shapes holds in
        let both = holds-allowed shape placement placed (position_at deltas here) list are_here there in (
          λ allowed.
              subst (λ (s : Shape). Holds s (position_at deltas child) placement) (sym shapes)
              (subst (λ (q : Position). Holds shape q placement) (sym step) (both.0 allowed)),
          λ still. both.1
              (subst (λ (q : Position). Holds shape q placement) step
              (subst (λ (s : Shape). Holds s (position_at deltas child) placement) shapes still)),
        )
