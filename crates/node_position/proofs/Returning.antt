-- Going back from a node to one above it, change by change.
use Rattle.std.proofs.Common.{◌≡◌, ℕ, ◌<◌, Bool, false, not, eqb, List, Option, Some, None, refl, sym, ap, ◌∙◌, arith}
use Rattle.std.proofs.lemmas.Bool.{eqb-true, not-false}
use Rattle.std.specs.Option.{option_eq}
use Rattle.std.specs.Prelude.{IfSome}
use Rattle.node_paths.proofs.Ancestors.{parent-lt}
use Rattle.kb_geometry.specs.declared.stone.Change.{Change}
use Rattle.capture_board.specs.Board.{ShapedPosition}
use Rattle.capture_board.specs.Changes.{LeadFrom, MayBeUndone}
use Rattle.capture_board.specs.Deltas.{AreDeltas, Deltas, changes_of, node_count, parent_of, position_where}
use Rattle.capture_board.proofs.DeltaPaths.{position_at-step}
use Rattle.capture_board.proofs.NetChanges.{LeadFrom-may_be_undone}
use Rattle.node_position.specs.Standing.{Shows}

module _ (changes : Deltas) (good : AreDeltas changes) (n : ℕ) (here : Option ℕ) (is : here ≡ Some n) (board : ShapedPosition) (shows : Shows changes here board) where
  -- the node is there
  there : n < node_count changes
  there = rw is at shows.in_range

  -- its changes lead from the position at its parent to what the board shows
  pub leads_here : LeadFrom (position_where changes (parent_of changes n)) (changes_of changes n) board.position
  leads_here = record {
    changes_of = good.changes n there;
    made = sym (shows.shown ∙ ap (position_where changes) is ∙ position_at-step changes good n);
  }

  pub undoable : (cs : List Change) → cs ≡ changes_of changes n → MayBeUndone board.position cs
  undoable cs of = rw of (LeadFrom-may_be_undone (position_where changes (parent_of changes n)) (changes_of changes n) board.position leads_here)

  in_range : (o : Option ℕ) → o ≡ parent_of changes n → IfSome o (λ m. m < node_count changes)
  in_range None e = tt
  in_range (Some m) e = omega (arith, there, parent-lt good.parents n m (sym e))

  -- without them it shows the position at the parent
  pub Shows-parent : (back : ShapedPosition) → back.shape ≡ board.shape → back.position ≡ position_where changes (parent_of changes n) → (o : Option ℕ) → o ≡ parent_of changes n → Shows changes o back
  Shows-parent back same restored o e = record {
    same_shape = same ∙ shows.same_shape;
    in_range = in_range o e;
    shown = restored ∙ ap (position_where changes) (sym e);
  }

-- the loop's test has found that it is there
pub same_place : (a b : Option ℕ) (r : Bool) → r ≡ not (option_eq eqb a b) → r ≡ false → a ≡ b
same_place None None r e t = refl
same_place None (Some b) r e t = cc
same_place (Some a) None r e t = cc
same_place (Some a) (Some b) r e t = ap (λ n. Some n) (eqb-true a b (not-false (eqb a b) (sym e ∙ t)))
