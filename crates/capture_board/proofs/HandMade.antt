-- Nodes that are pushed by hand: what the tests check before they push one.
use Rattle.std.proofs.Common.{◌≡◌, ◌≢◌, ℕ, ◌+◌, ◌-◌, ◌<◌, ◌≤◌, suc, List, [], ◌∷◌, ◌++◌, length, get_or, take, All, Option, Some, None, refl, sym, ◌∙◌, ap, subst, arith}
use Prim.Native.Nat.{zero}
use Rattle.std.proofs.lemmas.List.{take_more}
use Rattle.std.proofs.lemmas.List.Elements.{All-nil, All-push, All-weaker}
use Rattle.std.proofs.lemmas.List.Quantifiers.{all_pairs_push}
use Rattle.std.specs.Prelude.{IfSome}
use Rattle.node_paths.specs.Parents.{IsOnPathTo, itself, higher}
use Rattle.node_paths.proofs.Ancestors.{IsOnPathTo-trans}
use Rattle.kb_geometry.specs.declared.stone.Cell.{Cell}
use Rattle.kb_geometry.specs.declared.stone.Change.{Change}
use Rattle.kb_geometry.specs.Board.{point_count}
use Rattle.kb_geometry.specs.Capture.{Position, cell_at}
use Rattle.capture_board.specs.Changes.{AreChangesOf}
use Rattle.capture_board.specs.Deltas.{Deltas, IsNextParent, node_count, parent_of}
use Rattle.capture_board.specs.Walking.{WalkerState, StandsIn, node_before, parent_here}
use Rattle.capture_board.proofs.DeltaPaths.{length-position_where}

-- ---- from the last node up to the next one's parent

-- the walker stands at the last node, above it, or above the root
pub record IsGoingUp (deltas : Deltas) (walker : WalkerState) : Type 0 where
  pub stands : StandsIn deltas walker
  pub on_path : IfSome walker.here (λ n. IsOnPathTo (parent_of deltas) n (node_count deltas - 1))

module _ (deltas : Deltas) (walker : WalkerState) where
  last_on_path : (count : ℕ) → node_count deltas ≡ count → IfSome (node_before count) (λ n. IsOnPathTo (parent_of deltas) n (node_count deltas - 1))
  last_on_path zero e = tt
  last_on_path (suc n) e =
      let last : n ≡ node_count deltas - 1 = omega (arith, e) in
      subst (λ (i : ℕ). IsOnPathTo (parent_of deltas) n i) last itself

  pub IsGoingUp-start : StandsIn deltas walker → walker.here ≡ node_before (node_count deltas) → IsGoingUp deltas walker
  IsGoingUp-start stands last = record {
    stands = stands;
    on_path = subst (λ (o : Option ℕ). IfSome o (λ n. IsOnPathTo (parent_of deltas) n (node_count deltas - 1))) (sym last) (last_on_path (node_count deltas) refl);
  }

  pub nowhere : walker.here ≡ node_before (node_count deltas) → node_count deltas ≡ 0 → walker.here ≡ None
  nowhere last none = last ∙ ap node_before none

  module _ (going : IsGoingUp deltas walker) (n : ℕ) (here : walker.here ≡ Some n) where
    path_here : IsOnPathTo (parent_of deltas) n (node_count deltas - 1)
    path_here = subst (λ (o : Option ℕ). IfSome o (λ m. IsOnPathTo (parent_of deltas) m (node_count deltas - 1))) here going.on_path

    pub found_parent : (above : ℕ) → n ≡ above → IsNextParent deltas (Some above)
    found_parent above e =
        let within : n < node_count deltas = subst (λ (o : Option ℕ). IfSome o (λ m. m < node_count deltas)) here going.stands.in_range in
        (omega arith, subst (λ (i : ℕ). IsOnPathTo (parent_of deltas) i (node_count deltas - 1)) e path_here)

    parent_on_path : (o : Option ℕ) → parent_of deltas n ≡ o → IfSome o (λ m. IsOnPathTo (parent_of deltas) m (node_count deltas - 1))
    parent_on_path None e = tt
    parent_on_path (Some m) e = IsOnPathTo-trans (parent_of deltas) (higher e itself) path_here

    pub IsGoingUp-more : (next : WalkerState) → next.here ≡ parent_here deltas walker.here → StandsIn deltas next → IsGoingUp deltas next
    IsGoingUp-more next e stands = record {
      stands = stands;
      on_path = subst (λ (o : Option ℕ). IfSome o (λ m. IsOnPathTo (parent_of deltas) m (node_count deltas - 1))) (sym (e ∙ ap (parent_here deltas) here)) (parent_on_path (parent_of deltas n) refl);
    }

-- ---- changes, one after another

-- these are changes of the position, on points below a number
pub record AreChangesBelow (position : Position) (changes : List Change) (from : ℕ) : Type 0 where
  pub changes_of : AreChangesOf position changes
  pub below : All (λ (c : Change). c.point < from) changes

pub AreChangesBelow-none : (position : Position) (from : ℕ) → AreChangesBelow position [] from
AreChangesBelow-none position from = record {
  changes_of = record {
    on_board = All-nil (λ (c : Change). c.point < length position);
    ascending = λ i j d low high. absurd (omega arith);
    old = All-nil (λ (c : Change). c.old ≡ cell_at position c.point);
    differ = All-nil (λ (c : Change). c.old ≢ c.new);
  };
  below = All-nil (λ (c : Change). c.point < from);
}

pub AreChangesBelow-more : (position : Position) (cs : List Change) (from : ℕ) (c : Change) → AreChangesBelow position cs from → from ≤ c.point → c.point < length position → c.old ≡ cell_at position c.point → c.old ≢ c.new → AreChangesBelow position (cs ++ c ∷ []) (c.point + 1)
AreChangesBelow-more position cs from c are low high old differ = record {
  changes_of = record {
    on_board = All-push (λ (d : Change). d.point < length position) cs c are.changes_of.on_board high;
    ascending = all_pairs_push (λ (a b : Change). a.point < b.point) cs c are.changes_of.ascending (λ k d h. omega (arith, are.below k d h));
    old = All-push (λ (d : Change). d.old ≡ cell_at position d.point) cs c are.changes_of.old old;
    differ = All-push (λ (d : Change). d.old ≢ d.new) cs c are.changes_of.differ differ;
  };
  below = All-push (λ (d : Change). d.point < c.point + 1) cs c (All-weaker (λ (d : Change). d.point < from) (λ (d : Change). d.point < c.point + 1) (λ d h. omega arith) cs are.below) (omega arith);
}

-- one more of a list, of which the first ones were looked at: it is on none of the points below, its old cell stands
-- there, and its new cell is another
module _ (deltas : Deltas) (walker : WalkerState) (stands : StandsIn deltas walker) (cs : List Change) (i from : ℕ) (d : Change) (h : i < length cs) where
  pub AreChangesBelow-next : (count : ℕ) (here : Cell) → count ≡ point_count deltas.shape → AreChangesBelow walker.position (take i cs) from → from ≤ (get_or cs i d).point → (get_or cs i d).point < count → here ≡ cell_at walker.position (get_or cs i d).point → here ≡ (get_or cs i d).old → (get_or cs i d).old ≢ (get_or cs i d).new → AreChangesBelow walker.position (take (i + 1) cs) ((get_or cs i d).point + 1)
  AreChangesBelow-next count here e are low high shown same differ =
      let whole : length walker.position ≡ count = ap length stands.shown ∙ length-position_where deltas walker.here ∙ sym e in
      subst (λ (ds : List Change). AreChangesBelow walker.position ds ((get_or cs i d).point + 1)) (sym (take_more cs i d h))
      (AreChangesBelow-more walker.position (take i cs) from (get_or cs i d) are low (omega (arith, whole)) (sym same ∙ shown) differ)
