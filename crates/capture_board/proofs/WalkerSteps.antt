-- A walker that enters a node, leaves it, or goes back to a node above.
use Prim.Native.Nat.{zero}
use Rattle.std.proofs.Common.{suc, ◌-◌, ◌≡◌, ◌≢◌, ℕ, ◌+◌, ◌<◌, Bool, true, eqb, List, length, All, Option, Some, None, refl, sym, ◌∙◌, ap, subst, arith}
use Rattle.std.proofs.lemmas.Bool.{both_ways, eq-eqb, false≢true, not-true}
use Rattle.std.proofs.lemmas.List.Elements.{All-weaker}
use Rattle.std.specs.Option.{IsSomeAnd, option_eq, option_map_or}
use Rattle.std.specs.Prelude.{IfSome, IsSome, not}
use Rattle.node_paths.specs.Parents.{IsOnPathTo}
use Rattle.node_paths.proofs.Ancestors.{IsOnPathTo-step, later-parent, parent-lt, root-parent}
use Rattle.kb_geometry.specs.declared.stone.Change.{Change}
use Rattle.kb_geometry.specs.Board.{point_count}
use Rattle.capture_board.specs.Board.{ShapedPosition}
use Rattle.capture_board.specs.Changes.{AreChangesOf, with_changes}
use Rattle.capture_board.specs.Deltas.{Deltas, AreDeltas, changes_of, node_count, parent_of, position_where, with_node}
use Rattle.capture_board.specs.StoredWalking.{with_old_cells}
use Rattle.capture_board.specs.Walking.{WalkerState, MayLeaveTo, StandsIn, node_before, parent_here}
use Rattle.capture_board.proofs.CellSetLemmas.{board_with}
use Rattle.capture_board.proofs.DeltaGrowth.{node_count-more, position_where-before}
use Rattle.capture_board.proofs.DeltaPaths.{length-position_where, position_at-step}
use Rattle.capture_board.proofs.MadeChanges.{with_old_cells-back}

-- a walker that stands here and shows this board
abbrev pub walker_at : Option ℕ → ShapedPosition → WalkerState
walker_at here board = record { shape = board.shape; here = here; position = board.position }

module _ (deltas : Deltas) (are : AreDeltas deltas) (here : Option ℕ) (board : ShapedPosition) (walker : WalkerState) (view : walker_at here board ≡ walker) (stands : StandsIn deltas walker) where
  here_is : here ≡ walker.here
  here_is = ap (λ (w : WalkerState). w.here) view

  shape_is : board.shape ≡ deltas.shape
  shape_is = ap (λ (w : WalkerState). w.shape) view ∙ stands.same_shape

  shown : board.position ≡ position_where deltas walker.here
  shown = ap (λ (w : WalkerState). w.position) view ∙ stands.shown

  -- the changes of a node are on the board
  pub on_board : (n : ℕ) (cs : List Change) → AreChangesOf (position_where deltas (parent_of deltas n)) cs → All (λ (c : Change). c.point < point_count board.shape) cs
  on_board n cs changes =
      let count : length (position_where deltas (parent_of deltas n)) ≡ point_count board.shape = length-position_where deltas (parent_of deltas n) ∙ sym (ap point_count shape_is) in
      All-weaker (λ (c : Change). c.point < length (position_where deltas (parent_of deltas n))) (λ (c : Change). c.point < point_count board.shape) (λ c h. omega (arith, count)) cs changes.on_board

  -- the node where it stands is there
  pub node_here : (n : ℕ) → here ≡ Some n → n < node_count deltas
  node_here n e = subst (λ (o : Option ℕ). IfSome o (λ m. m < node_count deltas)) (sym here_is ∙ e) stands.in_range

  parent_in_range : (n : ℕ) → n < node_count deltas → (o : Option ℕ) → o ≡ parent_of deltas n → IfSome o (λ m. m < node_count deltas)
  parent_in_range n within None e = tt
  parent_in_range n within (Some m) e = omega (arith, parent-lt are.parents n m (sym e))

  module _ (next : ShapedPosition) (cs : List Change) (n : ℕ) (within : n < node_count deltas) (of_node : cs ≡ changes_of deltas n) where
    pub entered : parent_of deltas n ≡ walker.here → next ≡ board_with board.shape (with_changes board.position cs) → StandsIn deltas (walker_at (Some n) next)
    entered child made = record {
      same_shape = ap (λ (b : ShapedPosition). b.shape) made ∙ shape_is;
      in_range = within;
      shown =
          ap (λ (b : ShapedPosition). b.position) made
          ∙ ap (with_changes board.position) of_node
          ∙ ap (λ q. with_changes q (changes_of deltas n)) (shown ∙ ap (position_where deltas) (sym child))
          ∙ sym (position_at-step deltas are n);
    }

    pub left : here ≡ Some n → next ≡ board_with board.shape (with_old_cells board.position cs) → (o : Option ℕ) → o ≡ parent_of deltas n → StandsIn deltas (walker_at o next)
    left at_node taken o e = record {
      same_shape = ap (λ (b : ShapedPosition). b.shape) taken ∙ shape_is;
      in_range = parent_in_range n within o e;
      shown =
          ap (λ (b : ShapedPosition). b.position) taken
          ∙ ap (with_old_cells board.position) of_node
          ∙ ap (λ q. with_old_cells q (changes_of deltas n)) (shown ∙ ap (position_where deltas) (sym here_is ∙ at_node) ∙ position_at-step deltas are n)
          ∙ with_old_cells-back (position_where deltas (parent_of deltas n)) (changes_of deltas n) (are.changes n within)
          ∙ ap (position_where deltas) (sym e);
    }

-- the number of the node where a walk stands, plus 1; 0 above the root
abbrev pub height : Option ℕ → ℕ
height here = option_map_or (λ n. n + 1) here 0

-- on the way back to a node above, or to above the root
pub record IsLeaving (deltas : Deltas) (above : Option ℕ) (walker : WalkerState) : Type 0 where
  pub stands : StandsIn deltas walker
  pub on_path : MayLeaveTo deltas walker.here above

may_leave_more : (deltas : Deltas) (here above : Option ℕ) → MayLeaveTo deltas here above → here ≢ above → MayLeaveTo deltas (parent_here deltas here) above
may_leave_more deltas here None may ne = tt
may_leave_more deltas None (Some a) may ne = absurd may
may_leave_more deltas (Some n) (Some a) may ne =
    let step = IsOnPathTo-step (parent_of deltas) may (λ e. ne (ap (λ i. Some i) (sym e))) in
    subst (λ (o : Option ℕ). IsSomeAnd o (λ m. IsOnPathTo (parent_of deltas) a m)) (sym step.1) step.2

pub IsLeaving-more : (deltas : Deltas) (above : Option ℕ) (walker next : WalkerState) → IsLeaving deltas above walker → walker.here ≢ above → next.here ≡ parent_here deltas walker.here → StandsIn deltas next → IsLeaving deltas above next
IsLeaving-more deltas above walker next leaving ne e stands = record {
  stands = stands;
  on_path = subst (λ (o : Option ℕ). MayLeaveTo deltas o above) (sym e) (may_leave_more deltas walker.here above leaving.on_path ne);
}

-- as long as it isn't there yet, it stands at a node
pub leaves_node : (deltas : Deltas) (here above : Option ℕ) → MayLeaveTo deltas here above → here ≢ above → IsSome here
leaves_node deltas None None may ne = absurd (ne refl)
leaves_node deltas None (Some a) may ne = absurd may
leaves_node deltas (Some n) above may ne = refl

pub height_falls : (here next : Option ℕ) → IsSome here → IfSome next (λ m. IsSomeAnd here (λ n. m < n)) → height next < height here
height_falls None next is before = absurd (false≢true is)
height_falls (Some n) None is before = omega arith
height_falls (Some n) (Some m) is before = omega arith

same_option : (a : Option ℕ) → option_eq eqb a a ≡ true
same_option None = refl
same_option (Some n) = eq-eqb n n refl

-- the test of the loop
pub other_place : (one here above : Option ℕ) (r : Bool) → one ≡ here → r ≡ not (option_eq eqb one above) → r ≡ true → here ≢ above
other_place one here above r e is t f =
    both_ways (option_eq eqb one above) (not-true (option_eq eqb one above) (sym is ∙ t)) (ap (option_eq eqb one) (sym f ∙ sym e) ∙ same_option one)

-- ---- in order of the text

-- from the node before, a walk can go back to the parent of the next one
pub MayLeaveTo-next : (deltas : Deltas) → AreDeltas deltas → (n : ℕ) (here : Option ℕ) → n < node_count deltas → here ≡ node_before n → MayLeaveTo deltas here (parent_of deltas n)
MayLeaveTo-next deltas are zero here h e = subst (λ (o : Option ℕ). MayLeaveTo deltas here o) (sym (root-parent are.parents)) tt
MayLeaveTo-next deltas are (suc n) here h e =
    let p = later-parent are.parents (suc n) (omega arith) h in
    let before : suc n - 1 ≡ n = omega arith in
    subst (λ (o : Option ℕ). MayLeaveTo deltas here o) (sym p.1)
    (subst (λ (o : Option ℕ). IsSomeAnd o (λ m. IsOnPathTo (parent_of deltas) p.0 m)) (sym e) (subst (λ (i : ℕ). IsOnPathTo (parent_of deltas) p.0 i) before p.3))

-- ---- one node more

-- a walker stands as before when a node is pushed
still_there : (deltas : Deltas) (parent : Option ℕ) (changes : List Change) (o : Option ℕ) → IfSome o (λ n. n < node_count deltas) → IfSome o (λ n. n < node_count (with_node deltas parent changes))
still_there deltas parent changes None h = tt
still_there deltas parent changes (Some n) h = omega (arith, node_count-more deltas parent changes)

pub StandsIn-more : (deltas : Deltas) (parent : Option ℕ) (changes : List Change) → AreDeltas deltas → (walker : WalkerState) → StandsIn deltas walker → StandsIn (with_node deltas parent changes) walker
StandsIn-more deltas parent changes are walker stands = record {
  same_shape = stands.same_shape;
  in_range = still_there deltas parent changes walker.here stands.in_range;
  shown = stands.shown ∙ position_where-before deltas parent changes are walker.here stands.in_range;
}
