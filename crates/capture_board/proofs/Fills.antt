-- A list of points that grows from a start over neighbours until it is the group.
use Rattle.std.proofs.Common.{◌≡◌, ◌≢◌, ℕ, ◌+◌, ◌<◌, ◌≤◌, ◌⊎◌, ◌↔◌, inl, inr, List, [], length, get_or, Option, Some, None, refl, ◌∙◌, arith, below_more}
use Rattle.std.specs.Prelude.{Contains}
use Rattle.std.proofs.lemmas.List.{get_or_default}
use Rattle.std.proofs.lemmas.List.Elements.{Contains-get_or}
use Rattle.kb_geometry.specs.declared.shape.Shape.{Shape}
use Rattle.kb_geometry.specs.declared.stone.Cell.{Cell}
use Rattle.kb_geometry.specs.declared.stone.Cell.TheVariants as cell
use Rattle.kb_geometry.specs.Board.{AreNeighbours}
use Rattle.kb_geometry.specs.Capture.{Position, stay, go, IsInGroup, HasLiberty, cell_at}
use Rattle.capture_board.specs.PointSet.{Extends, IsWithPoint}
use Rattle.capture_board.proofs.PointSets.{IsWithPoint-has, IsWithPoint-only, IsWithPoint-keeps, IsWithPoint-extends, Extends-refl, Extends-trans, Extends-keeps}
use Rattle.capture_board.proofs.Walks.{group_from_closed, surrounded_from_closed}

-- after holds before and, of the first count entries of around, the points with the cell, none of which is empty
pub record Reached (shape : Shape) (position : Position) (stone : Cell) (point : ℕ) (around : List (Option ℕ)) (before after : List ℕ) (count : ℕ) : Type 0 where
  pub extends : Extends before after
  pub only : (q : ℕ) → Contains after q → Contains before q ⊎ (AreNeighbours shape point q × (cell_at position q ≡ stone))
  pub solid : (k : ℕ) → k < count → (q : ℕ) → get_or around k None ≡ Some q → cell_at position q ≢ cell.Empty
  pub added : (k : ℕ) → k < count → (q : ℕ) → get_or around k None ≡ Some q → cell_at position q ≡ stone → Contains after q

module _ (shape : Shape) (position : Position) (stone : Cell) (point : ℕ) (around : List (Option ℕ)) (before : List ℕ) where
  pub Reached-none : Reached shape position stone point around before before 0
  Reached-none = record {
    extends = Extends-refl before;
    only = λ q h. inl h;
    solid = λ k lt. absurd (omega arith);
    added = λ k lt. absurd (omega arith);
  }

  module _ (after : List ℕ) (n : ℕ) (so_far : Reached shape position stone point around before after n) where
    pub Reached-skip : get_or around n None ≡ None → Reached shape position stone point around before after (n + 1)
    Reached-skip none = record {
      extends = so_far.extends;
      only = so_far.only;
      solid = below_more _ _ so_far.solid (λ q e. cc);
      added = below_more _ _ so_far.added (λ q e. cc);
    }

    pub Reached-other : (r : ℕ) → get_or around n None ≡ Some r → cell_at position r ≢ cell.Empty → cell_at position r ≢ stone → Reached shape position stone point around before after (n + 1)
    Reached-other r here full other = record {
      extends = so_far.extends;
      only = so_far.only;
      solid = below_more _ _ so_far.solid (λ q e s. let same : r ≡ q = cc in full (rw same s));
      added = below_more _ _ so_far.added (λ q e s. let same : r ≡ q = cc in absurd (other (rw same s)));
    }

    only_grown : (r : ℕ) → AreNeighbours shape point r → cell_at position r ≡ stone → (q : ℕ) → Contains after q ⊎ (r ≡ q) → Contains before q ⊎ (AreNeighbours shape point q × (cell_at position q ≡ stone))
    only_grown r near same q (inl old) = so_far.only q old
    only_grown r near same q (inr eq) = inr (rw (← eq) (near, same))

    pub Reached-added : (r : ℕ) → get_or around n None ≡ Some r → cell_at position r ≢ cell.Empty → cell_at position r ≡ stone → AreNeighbours shape point r → (grown : List ℕ) → IsWithPoint after r grown → Reached shape position stone point around before grown (n + 1)
    Reached-added r here full same near grown with = record {
      extends = Extends-trans before after grown so_far.extends (IsWithPoint-extends after r grown with);
      only = λ q h. only_grown r near same q (IsWithPoint-only after r grown with q h);
      solid = below_more _ _ so_far.solid (λ q e s. let eq : r ≡ q = cc in full (rw eq s));
      added = below_more _ _ (λ k lt q e s. IsWithPoint-keeps after r grown with q (so_far.added k lt q e s)) (λ q e s. let eq : r ≡ q = cc in rw (← eq) (IsWithPoint-has after r grown with));
    }

    -- none of the points around is empty, and those with the cell are in the list
    pub Reached-all : (length around ≡ n) → ((q : ℕ) → Contains around (Some q) ↔ AreNeighbours shape point q) → (q : ℕ) → AreNeighbours shape point q → (cell_at position q ≢ cell.Empty) × (cell_at position q ≡ stone → Contains after q)
    Reached-all whole are q near =
        let m = (are q).1 near in
        let e : get_or around m.0 None ≡ Some q = get_or_default around m.0 None (Some q) m.1 ∙ m.2 in
        (so_far.solid m.0 (omega (arith, m.1)) q e, so_far.added m.0 (omega (arith, m.1)) q e)

-- a list of members of the group of start, with all neighbours of its first count entries that have the cell, none of which is empty
pub record Filled (shape : Shape) (position : Position) (start : ℕ) (group : List ℕ) (count : ℕ) : Type 0 where
  pub counted : count ≤ length group
  pub within : (q : ℕ) → Contains group q → IsInGroup shape position start q
  pub has_start : Contains group start
  pub solid : (k : ℕ) → k < count → (q : ℕ) → AreNeighbours shape (get_or group k 0) q → cell_at position q ≢ cell.Empty
  pub added : (k : ℕ) → k < count → (q : ℕ) → AreNeighbours shape (get_or group k 0) q → cell_at position q ≡ cell_at position start → Contains group q

module _ (shape : Shape) (position : Position) (start : ℕ) where
  start_within : (q : ℕ) → Contains [] q ⊎ (start ≡ q) → IsInGroup shape position start q
  start_within q (inl h) = absurd (omega (arith, h.1))
  start_within q (inr e) = rw (← e) (stay refl)

  pub Filled-start : (group : List ℕ) → IsWithPoint [] start group → Filled shape position start group 0
  Filled-start group with = record {
    counted = omega arith;
    within = λ q h. start_within q (IsWithPoint-only [] start group with q h);
    has_start = IsWithPoint-has [] start group with;
    solid = λ k lt. absurd (omega arith);
    added = λ k lt. absurd (omega arith);
  }

  module _ (group : List ℕ) (n : ℕ) (so_far : Filled shape position start group n) where
    pub Filled-member : n < length group → IsInGroup shape position start (get_or group n 0)
    Filled-member lt = so_far.within (get_or group n 0) (Contains-get_or group n 0 lt)

    pub Filled-liberty : n < length group → (q : ℕ) → AreNeighbours shape (get_or group n 0) q → cell_at position q ≡ cell.Empty → HasLiberty shape position start
    Filled-liberty lt q near e = record { member = get_or group n 0; liberty = q; in_group = Filled-member lt; neighbour = near; empty = e }

    within_more : n < length group → (q : ℕ) → Contains group q ⊎ (AreNeighbours shape (get_or group n 0) q × (cell_at position q ≡ cell_at position start)) → IsInGroup shape position start q
    within_more lt q (inl old) = so_far.within q old
    within_more lt q (inr new) = go (Filled-member lt) new.0 new.1

    pub Filled-more : n < length group → (grown : List ℕ) → Extends group grown
        → ((q : ℕ) → Contains grown q → Contains group q ⊎ (AreNeighbours shape (get_or group n 0) q × (cell_at position q ≡ cell_at position start)))
        → ((q : ℕ) → AreNeighbours shape (get_or group n 0) q → cell_at position q ≢ cell.Empty)
        → ((q : ℕ) → AreNeighbours shape (get_or group n 0) q → cell_at position q ≡ cell_at position start → Contains grown q)
        → Filled shape position start grown (n + 1)
    Filled-more lt grown extends only solid added = record {
      counted = omega arith;
      within = λ q h. within_more lt q (only q h);
      has_start = Extends-keeps group grown extends start so_far.has_start;
      solid = below_more _ _ (λ k below q near. so_far.solid k below q (rw (extends.same k (omega arith)) at near)) (λ q near. solid q (rw (extends.same n lt) at near));
      added = below_more _ _ (λ k below q near e. Extends-keeps group grown extends q (so_far.added k below q (rw (extends.same k (omega arith)) at near) e)) (λ q near e. added q (rw (extends.same n lt) at near) e);
    }

    neighbour_in : length group ≤ n → (p q : ℕ) → Contains group p → AreNeighbours shape p q → cell_at position q ≡ cell_at position start → Contains group q
    neighbour_in all p q m near e =
        let here : get_or group m.0 0 ≡ p = get_or_default group m.0 0 p m.1 ∙ m.2 in
        so_far.added m.0 (omega (arith, m.1)) q (rw here near) e

    neighbour_solid : length group ≤ n → (p q : ℕ) → Contains group p → AreNeighbours shape p q → cell_at position q ≢ cell.Empty
    neighbour_solid all p q m near =
        let here : get_or group m.0 0 ≡ p = get_or_default group m.0 0 p m.1 ∙ m.2 in
        so_far.solid m.0 (omega (arith, m.1)) q (rw here near)

    -- each member's neighbours have been looked at: the list is the group, which has no liberty
    pub Filled-group : length group ≤ n → (q : ℕ) → Contains group q ↔ IsInGroup shape position start q
    Filled-group all = group_from_closed shape position start (Contains group) so_far.has_start so_far.within (neighbour_in all)

    pub Filled-surrounded : length group ≤ n → ¬ HasLiberty shape position start
    Filled-surrounded all = surrounded_from_closed shape position start (Contains group) so_far.has_start so_far.within (neighbour_in all) (neighbour_solid all)
