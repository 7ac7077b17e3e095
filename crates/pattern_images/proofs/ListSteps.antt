-- One label more at a point: its result is listed if there is one and no lesser label gives the same placement.
use Rattle.std.proofs.Common.{◌≡◌, ℕ, ◌+◌, ◌<◌, inl, inr, Option, Some, None, List, [], ◌∷◌, ◌++◌, length, get_or, take, map, refl, sym, ap, ◌∙◌, subst, arith}
use Rattle.std.specs.Prelude.{Any}
use Rattle.std.proofs.lemmas.Bool.{cases_lt}
use Rattle.std.proofs.lemmas.List.{get_or-take, get_or_default, length-take-le}
use Rattle.kb_geometry.proofs.Lists.{Any-weaker}
use Rattle.kb_geometry.specs.declared.shape.Shape.{Shape}
use Rattle.kb_geometry.specs.declared.shape.Point.{Point}
use Rattle.kb_geometry.specs.Board.{IsInside}
use Rattle.kb_geometry.specs.Symmetry.{number_of_label}
use Rattle.pattern_images.specs.declared.listing.StoredPlace.{StoredPlace}
use Rattle.pattern_images.specs.declared.query.Query.{Query}
use Rattle.pattern_images.specs.declared.turn.Turn.{Turn}
use Rattle.pattern_images.specs.Grid.{Grid}
use Rattle.pattern_images.specs.ImageList.{grid_at}
use Rattle.pattern_images.specs.Listing.{GivesAt, IsListedTo, placement_in}
use Rattle.pattern_images.specs.Placements.{Placement, IsResult, IsSame}
use Rattle.pattern_images.specs.Turns.{AreTurns, IsTurn, IsTurnOf}
use Rattle.pattern_images.proofs.Listed.{IsAt, IsListedTo-push, IsListedTo-skip}

-- a turn that gives the cells at the point
given_turn : (class : ℕ) (p : Point) (o : Option Turn) → GivesAt class p o → (turn : Turn) × (o ≡ Some turn) × (turn.class ≡ class) × IsInside turn.corners p
given_turn class p None none = absurd none
given_turn class p (Some turn) gives = (turn, refl, gives.0, gives.1)

module _ (query : Query) (shape : Shape) (grids : List Grid) (turns : List (Option Turn)) (are : AreTurns query shape grids turns) where
  no_turn : (label : ℕ) → label < length turns → get_or turns label None ≡ None → (p : Placement) → p.label ≡ label → ¬ IsResult query shape p
  no_turn label below is = subst (IsTurn query shape grids label) is (are.each label below)

  turn_at : (label : ℕ) (turn : Turn) → label < length turns → get_or turns label None ≡ Some turn → IsTurnOf query shape grids label turn
  turn_at label turn below is = subst (IsTurn query shape grids label) is (are.each label below)

  module _ (p : Point) (number : ℕ) (below : number < length turns) (stored : List StoredPlace) (listed : IsListedTo query shape grids p.y p.x number stored) where
    -- the label is none of the query's
    pub no_turn-listed : get_or turns number None ≡ None → IsListedTo query shape grids p.y p.x (number + 1) stored
    no_turn-listed is = IsListedTo-skip query shape grids p.y p.x number stored listed (λ r result at. absurd (no_turn number below is r at.2 result))

    module _ (turn : Turn) (is : get_or turns number None ≡ Some turn) where
      its : IsTurnOf query shape grids number turn
      its = turn_at number turn below is

      inside_at : (r : Placement) → IsResult query shape r → IsAt r p.y p.x number → IsInside turn.corners p × (r.grid ≡ grid_at grids turn.class)
      inside_at r result at =
          let found = (its.results r at.2).0 result in
          (subst (λ (y : ℕ). IsInside turn.corners (record { x = p.x; y = y })) at.0 (subst (λ (x : ℕ). IsInside turn.corners (record { x = x; y = r.y })) at.1 found.0), found.1)

      -- the label gives nothing at the point
      pub outside-listed : ¬ IsInside turn.corners p → IsListedTo query shape grids p.y p.x (number + 1) stored
      outside-listed outside = IsListedTo-skip query shape grids p.y p.x number stored listed (λ r result at. absurd (outside (inside_at r result at).0))

      -- a lesser label gives the same placement, which is listed already
      pub given-listed : Any (GivesAt turn.class p) (take number turns) → IsListedTo query shape grids p.y p.x (number + 1) stored
      given-listed (k, o, k_in, k_is, gives) =
          let lesser : k < number = omega (arith, length-take-le number turns) in
          let (other, o_is, class, inside) = given_turn turn.class p o gives in
          let at : get_or turns k None ≡ Some other = get_or_default turns k None o (omega arith) ∙ sym (get_or-take number turns k o lesser) ∙ k_is ∙ o_is in
          let other_is : IsTurnOf query shape grids k other = turn_at k other (omega arith) at in
          IsListedTo-skip query shape grids p.y p.x number stored listed
          (λ r result here.
          let r' : Placement = record { label = k; x = p.x; y = p.y; grid = r.grid } in
          let result' : IsResult query shape r' = (other_is.results r' refl).1 (inside, (inside_at r result here).1 ∙ ap (grid_at grids) (sym class)) in
          Any-weaker (IsSame r') (IsSame r) (λ q same. record { column = here.1 ∙ same.column; row = here.0 ∙ same.row; grid = same.grid }) (map (placement_in grids) stored)
          (listed.complete r' result' (inr (refl, inr (refl, lesser)))))

      -- the same placement under a lesser label is one that a lesser turn gives
      lesser_given : (r : Placement) → IsResult query shape r → r.label < number → p.x ≡ r.x → p.y ≡ r.y → grid_at grids turn.class ≡ r.grid →
          (o : Option Turn) → get_or turns r.label None ≡ o → Any (GivesAt turn.class p) (take number turns)
      lesser_given r result lesser column row grid None at = absurd (no_turn r.label (omega arith) at r refl result)
      lesser_given r result lesser column row grid (Some other) at =
          let other_is : IsTurnOf query shape grids r.label other = turn_at r.label other (omega arith) at in
          let found = (other_is.results r refl).0 result in
          let class : other.class ≡ turn.class = are.distinct other.class turn.class other_is.class its.class (sym (grid ∙ found.1)) in
          let inside : IsInside other.corners p =
          subst (λ (y : ℕ). IsInside other.corners (record { x = p.x; y = y })) (sym row) (subst (λ (x : ℕ). IsInside other.corners (record { x = x; y = r.y })) (sym column) found.0) in
          let front : get_or (take number turns) r.label (Some other) ≡ Some other = get_or-take number turns r.label (Some other) lesser ∙ get_or_default turns r.label (Some other) None (omega arith) ∙ at in
          (r.label, Some other, omega (arith, length-take-le number turns), front, (class, inside))

      -- no lesser label gives it, so it comes behind the others
      pub new-listed : IsInside turn.corners p → ¬ Any (GivesAt turn.class p) (take number turns) →
          IsListedTo query shape grids p.y p.x (number + 1) (stored ++ record { x = p.x; y = p.y; label = turn.label; class = turn.class } ∷ [])
      new-listed inside new =
          let s : StoredPlace = record { x = p.x; y = p.y; label = turn.label; class = turn.class } in
          let placed : Placement = placement_in grids s in
          let result : IsResult query shape placed = (its.results placed its.label).1 (inside, refl) in
          let only : (r : Placement) → IsResult query shape r → IsAt r p.y p.x (number_of_label turn.label) → r.grid ≡ grid_at grids turn.class =
          λ r r_is at. (inside_at r r_is (at.0, at.1, at.2 ∙ its.label)).1 in
          subst (λ (n : ℕ). IsListedTo query shape grids p.y p.x (n + 1) (stored ++ s ∷ [])) its.label
          (IsListedTo-push query shape grids s stored (subst (λ (n : ℕ). IsListedTo query shape grids p.y p.x n stored) (sym its.label) listed) its.class result only
          (λ r r_is same. elim (cases_lt r.label (number_of_label turn.label)) [
            | inl lesser ↦ absurd (new (lesser_given r r_is (omega (arith, its.label)) same.column same.row same.grid (get_or turns r.label None) refl))
            | inr le ↦ le
          ]))
