-- The points that changed, as one more cell is written, and their changes as a list.
use Rattle.std.proofs.Common.{◌≡◌, ◌≢◌, ℕ, zero, suc, ◌+◌, ◌-◌, ◌<◌, ◌≤◌, ◌⊎◌, ◌↔◌, inl, inr, List, [], ◌∷◌, ◌++◌, length, get_or, set, take, refl, sym, ap, ◌∙◌, arith}
use Rattle.std.specs.Prelude.{All, AllPairs, Contains}
use Rattle.std.proofs.lemmas.List.{length-set, get_or-set_same, get_or-set_other, get_or_past, get_or_append_left, get_or-take, get_or_default, length-take-le, length_push}
use Rattle.std.proofs.lemmas.Bool.{cases_eq, cases_lt}
use Rattle.kb_geometry.specs.declared.stone.Cell.{Cell}
use Rattle.kb_geometry.specs.declared.stone.Cell.TheVariants as cell
use Rattle.kb_geometry.specs.declared.stone.Change.{Change}
use Rattle.kb_geometry.specs.Capture.{Position, cell_at}
use Rattle.capture_board.specs.declared.change_list.changed_points.ChangedPoints.{ChangedPoints}
use Rattle.capture_board.specs.Changes.{LeadFrom}
use Rattle.capture_board.specs.ChangedPoints.{AreChangedPoints, AreListed, AreListedBelow, IsCut}
use Rattle.std.proofs.lemmas.List.Elements.{All-nil, All-push, All-weaker}
use Rattle.std.proofs.lemmas.List.Quantifiers.{Any-push, all_pairs_push}
use Rattle.capture_board.proofs.Cells.{cases_cell}
use Rattle.capture_board.proofs.NetChanges.{IsChangedOn, at_change, change_of, LeadFrom-by_points, LeadFrom-length, LeadFrom-new, LeadFrom-differs, LeadFrom-complete}

-- what holds at the point, and at each other one, holds at each
at_or_other : (P : ℕ → Type 0) (p q : ℕ) → P p → ((q : ℕ) → q ≢ p → P q) → (q ≡ p) ⊎ (q ≢ p) → P q
at_or_other P p q here there (inl same) = rw same here
at_or_other P p q here there (inr other) = there q other

-- it holds of each point if it holds of one and of each other
by_point : (P : ℕ → Type 0) (p : ℕ) → P p → ((q : ℕ) → q ≢ p → P q) → (q : ℕ) → P q
by_point P p here there q = at_or_other P p q here there (cases_eq q p)

module _ (base now : Position) (changed : ChangedPoints) (are : AreChangedPoints base now changed) where
  -- a changed point lies on the board
  pub changed-lt : (p : ℕ) → Contains changed.points p → p < length now
  changed-lt p h = elim (cases_lt p (length now)) [
    | inl lt ↦ lt
    | inr le ↦ absurd ((are.differ p).0 h (get_or_past base p cell.Empty (omega (arith, are.same_length)) ∙ sym (get_or_past now p cell.Empty le)))
  ]

  -- a point that hasn't changed has the cell from before
  unchanged : (p : ℕ) → ¬ Contains changed.points p → cell_at base p ≡ cell_at now p
  unchanged p none = elim (cases_cell (cell_at base p) (cell_at now p)) [ inl same ↦ same | inr other ↦ absurd (none ((are.differ p).1 other)) ]

  module _ (p : ℕ) (new : Cell) (fits : p < length now) (points : List ℕ) where
    here_is : cell_at (set now p new) p ≡ new
    here_is = get_or-set_same now p new cell.Empty fits

    -- a point that gets its cell back has not changed
    pub AreChangedPoints-back : Contains changed.points p → cell_at changed.before p ≡ new → ((m : ℕ) → Contains points m ↔ (Contains changed.points m × (m ≢ p))) → AreChangedPoints base (set now p new) (record { points = points; before = changed.before })
    AreChangedPoints-back was back are_points = record {
      same_length = length-set now p new ∙ are.same_length;
      differ = by_point (λ (q : ℕ). Contains points q ↔ (cell_at base q ≢ cell_at (set now p new) q)) p
          (λ h. absurd (((are_points p).0 h).1 refl), λ other. absurd (other (sym (are.before p was) ∙ (back ∙ sym here_is))))
          (λ q q_other. let kept = get_or-set_other now p q new cell.Empty q_other in
          (λ h e. (are.differ q).0 ((are_points q).0 h).0 (e ∙ kept), λ other. (are_points q).1 ((are.differ q).1 (λ e. other (e ∙ sym kept)), q_other)));
      before = λ q h. are.before q ((are_points q).0 h).0;
    }

    -- a point that hadn't changed is one more
    pub AreChangedPoints-more : p < length changed.before → ¬ Contains changed.points p → cell_at now p ≢ new → ((m : ℕ) → Contains points m ↔ (Contains changed.points m ⊎ (m ≡ p))) → AreChangedPoints base (set now p new) (record { points = points; before = set changed.before p (cell_at now p) })
    AreChangedPoints-more room none another are_points = record {
      same_length = length-set now p new ∙ are.same_length;
      differ = by_point (λ (q : ℕ). Contains points q ↔ (cell_at base q ≢ cell_at (set now p new) q)) p
          (λ h e. another (sym (unchanged p none) ∙ (e ∙ here_is)), λ other. (are_points p).1 (inr refl))
          (λ q q_other. let kept = get_or-set_other now p q new cell.Empty q_other in
          (λ h e. (are.differ q).0 (old_member q q_other ((are_points q).0 h)) (e ∙ kept), λ other. (are_points q).1 (inl ((are.differ q).1 (λ e. other (e ∙ sym kept))))));
      before = by_point (λ (q : ℕ). Contains points q → cell_at (set changed.before p (cell_at now p)) q ≡ cell_at base q) p
          (λ h. get_or-set_same changed.before p (cell_at now p) cell.Empty room ∙ sym (unchanged p none))
          (λ q q_other h. get_or-set_other changed.before p q (cell_at now p) cell.Empty q_other ∙ are.before q (old_member q q_other ((are_points q).0 h)));
    }
      where
        old_member : (q : ℕ) → q ≢ p → Contains changed.points q ⊎ (q ≡ p) → Contains changed.points q
        old_member q q_other (inl h) = h
        old_member q q_other (inr same) = absurd (q_other same)

module _ (changed : ChangedPoints) (cells : Position) where
  pub AreListedBelow-none : AreListedBelow changed cells [] 0
  AreListedBelow-none = record {
    few = omega arith;
    below = All-nil (λ (c : Change). c.point < 0);
    ascending = λ i j d before lt. absurd (omega arith);
    member = All-nil (λ (c : Change). Contains changed.points c.point);
    old = All-nil (λ (c : Change). c.old ≡ cell_at changed.before c.point);
    new = All-nil (λ (c : Change). c.new ≡ cell_at cells c.point);
    complete = λ p lt. absurd (omega arith);
  }

  module _ (changes : List Change) (end : ℕ) (so_far : AreListedBelow changed cells changes end) where
    -- the change of the next point
    abbrev next_change : ℕ → Change
    next_change p = record { point = p; old = cell_at changed.before p; new = cell_at cells p }

    on_earlier : (p q : ℕ) → IsChangedOn q changes → IsChangedOn q (changes ++ next_change p ∷ [])
    on_earlier p q h = (h.0, h.1, omega (arith, h.2, length_push changes (next_change p)), get_or_append_left changes (next_change p ∷ []) h.1 h.0 h.2 ∙ h.3, h.4)

    on_next : (p : ℕ) → end ≤ p → ((k : ℕ) → Contains changed.points k → end ≤ k → p ≤ k) → (q : ℕ) → q < p + 1 → Contains changed.points q → (q < end) ⊎ (end ≤ q) → IsChangedOn q (changes ++ next_change p ∷ [])
    on_next p from least q lt h (inl earlier) = on_earlier p q (so_far.complete q earlier h)
    on_next p from least q lt h (inr later) =
        let most = least q h later in
        let here : p ≡ q = omega arith in
        Any-push (λ (c : Change). c.point ≡ q) changes (next_change p) here

    pub AreListedBelow-more : (p : ℕ) → Contains changed.points p → end ≤ p → ((k : ℕ) → Contains changed.points k → end ≤ k → p ≤ k) → AreListedBelow changed cells (changes ++ next_change p ∷ []) (p + 1)
    AreListedBelow-more p h from least = record {
      few = omega (arith, so_far.few, length_push changes (next_change p));
      below = All-push (λ (c : Change). c.point < p + 1) changes (next_change p) (All-weaker (λ (c : Change). c.point < end) (λ (c : Change). c.point < p + 1) (λ c lt. omega arith) changes so_far.below) (omega arith);
      ascending = all_pairs_push (λ (c d : Change). c.point < d.point) changes (next_change p) so_far.ascending (λ k d lt. omega (arith, so_far.below k d lt));
      member = All-push (λ (c : Change). Contains changed.points c.point) changes (next_change p) so_far.member h;
      old = All-push (λ (c : Change). c.old ≡ cell_at changed.before c.point) changes (next_change p) so_far.old refl;
      new = All-push (λ (c : Change). c.new ≡ cell_at cells c.point) changes (next_change p) so_far.new refl;
      complete = λ q lt member. on_next p from least q lt member (cases_lt q end);
    }

    -- no further point has changed
    module _ (last : (p : ℕ) → Contains changed.points p → p < end) where
      pub AreListedBelow-listed : AreListed changed changes
      AreListedBelow-listed = record {
        points = λ p. (λ h. so_far.complete p (last p h) h, λ h. rw (← h.4) (at_change (λ (c : Change). Contains changed.points c.point) changes so_far.member h.0 h.1 h.2 h.3));
        old = so_far.old;
      }

      module _ (base : Position) (are : AreChangedPoints base cells changed) where
        old_at_base : (c : Change) → Contains changed.points c.point → c.old ≡ cell_at changed.before c.point → c.old ≡ cell_at base c.point
        old_at_base c h e = e ∙ are.before c.point h

        pub AreListedBelow-lead : LeadFrom base changes cells
        AreListedBelow-lead =
            let old : All (λ (c : Change). c.old ≡ cell_at base c.point) changes = λ k d lt. old_at_base (get_or changes k d) (so_far.member k d lt) (so_far.old k d lt) in
            LeadFrom-by_points base changes cells
            record {
              on_board = λ k d lt. let fits = changed-lt base cells changed are (get_or changes k d).point (so_far.member k d lt) in omega (arith, are.same_length);
              ascending = so_far.ascending;
              old = old;
              differ = λ k d lt e. (are.differ (get_or changes k d).point).0 (so_far.member k d lt) (sym (old k d lt) ∙ (e ∙ so_far.new k d lt));
            }
            are.same_length
            (λ k d lt. sym (so_far.new k d lt))
            (λ p none. sym (unchanged base cells changed are p (λ h. let c = so_far.complete p (last p h) h in at_change (λ (d : Change). d.point ≢ p) changes none c.0 c.1 c.2 c.3 c.4)))

-- where the changes lead from a position, the points are those that changed since it
pub AreListed-changed : (base now : Position) (changed : ChangedPoints) (changes : List Change) → AreListed changed changes → LeadFrom base changes now → AreChangedPoints base now changed
AreListed-changed base now changed changes listed lead = record {
  same_length = LeadFrom-length base changes now lead;
  differ = λ p. (
    λ h. LeadFrom-differs base changes now lead p ((listed.points p).0 h),
    λ other. let h = LeadFrom-complete base changes now lead p other in (listed.points p).1 (h.0, change_of base now p, h.1, h.2, refl),
  );
  before = λ p h.
      let c = (listed.points p).0 h in
      rw (← c.4) (sym (at_change (λ (d : Change). d.old ≡ cell_at changed.before d.point) changes listed.old c.0 c.1 c.2 c.3) ∙ at_change (λ (d : Change). d.old ≡ cell_at base d.point) changes lead.changes_of.old c.0 c.1 c.2 c.3);
}

-- ---- the changes below a number, kept where later ones are written
-- points that ascend are few below a number
few_below : (changes : List Change) (end : ℕ) → AllPairs (λ (c d : Change). c.point < d.point) changes → All (λ (c : Change). c.point < end) changes → (d : Change) (k : ℕ) → k < length changes → k ≤ (get_or changes k d).point
few_below changes end ascending below d zero lt = omega arith
few_below changes end ascending below d (suc k) lt =
    let earlier = few_below changes end ascending below d k (omega arith) in
    let less = ascending k (suc k) d (omega arith) lt in
    omega arith

length_below : (changes : List Change) (end : ℕ) → AllPairs (λ (c d : Change). c.point < d.point) changes → All (λ (c : Change). c.point < end) changes → (d : Change) (n : ℕ) → length changes ≡ n → n ≤ end
length_below changes end ascending below d zero e = omega arith
length_below changes end ascending below d (suc n) e =
    let most = few_below changes end ascending below d n (omega arith) in
    let less = below n d (omega arith) in
    omega arith

module _ (changes kept : List Change) (end : ℕ) (cut : IsCut end changes kept) where
  kept_at : (k : ℕ) (d : Change) → k < length kept → get_or kept k d ≡ get_or changes k d
  kept_at k d lt = ap (λ (cs : List Change). get_or cs k d) cut.front ∙ get_or-take (length kept) changes k d lt

  All-kept : (P : Change → Type 0) → All P changes → All P kept
  All-kept P h k d lt = rw (kept_at k d lt) (h k d (omega (arith, cut.no_longer)))

  ascending_kept : AllPairs (λ (c d : Change). c.point < d.point) changes → AllPairs (λ (c d : Change). c.point < d.point) kept
  ascending_kept h i j d before lt = rw (kept_at i d (omega arith), kept_at j d lt) (h i j d before (omega (arith, cut.no_longer)))

  changed_on_kept : (p : ℕ) → p < end → IsChangedOn p changes → IsChangedOn p kept
  changed_on_kept p low h = elim (cases_lt h.0 (length kept)) [
    | inl lt ↦ (h.0, h.1, lt, kept_at h.0 h.1 lt ∙ h.3, h.4)
    | inr le ↦
        let late = cut.rest h.0 h.1 le h.2 in
        let point : (get_or changes h.0 h.1).point ≡ p = ap (λ (c : Change). c.point) h.3 ∙ h.4 in
        absurd (omega arith)
  ]

-- where the cells below a number stay, so do the changes there
module _ (base now after : Position) (changes kept : List Change) (changed : ChangedPoints) (end : ℕ) (lead : LeadFrom base changes now) (are : AreChangedPoints base after changed) (same : (q : ℕ) → q < end → cell_at after q ≡ cell_at now q) (cut : IsCut end changes kept) where
  member_kept : (p : ℕ) → p < end → IsChangedOn p changes → Contains changed.points p
  member_kept p low h = (are.differ p).1 (λ e. LeadFrom-differs base changes now lead p h (e ∙ same p low))

  on_kept : (k : ℕ) (d : Change) → k < length kept → IsChangedOn (get_or kept k d).point changes
  on_kept k d lt = (k, get_or kept k d, omega (arith, cut.no_longer), sym (kept_at changes kept end cut k (get_or kept k d) lt) ∙ get_or_default kept k (get_or kept k d) d lt, refl)

  pub AreListedBelow-kept : AreListedBelow changed after kept end
  AreListedBelow-kept =
      let ascending = ascending_kept changes kept end cut lead.changes_of.ascending in
      let member : All (λ (c : Change). Contains changed.points c.point) kept = λ k d lt. member_kept (get_or kept k d).point (cut.below k d lt) (on_kept k d lt) in
      let old = All-kept changes kept end cut (λ (c : Change). c.old ≡ cell_at base c.point) lead.changes_of.old in
      let new = All-kept changes kept end cut (λ (c : Change). cell_at now c.point ≡ c.new) (LeadFrom-new base changes now lead) in
      record {
        few = length_below kept end ascending cut.below (record { point = 0; old = cell.Empty; new = cell.Empty }) (length kept) refl;
        below = cut.below;
        ascending = ascending;
        member = member;
        old = λ k d lt. old k d lt ∙ sym (are.before (get_or kept k d).point (member k d lt));
        new = λ k d lt. sym (new k d lt) ∙ sym (same (get_or kept k d).point (cut.below k d lt));
        complete = λ p low h.
            let other = (are.differ p).0 h in
            let c = LeadFrom-complete base changes now lead p (λ e. other (e ∙ sym (same p low))) in
            changed_on_kept changes kept end cut p low (c.0, change_of base now p, c.1, c.2, refl);
      }

-- where a list is cut before the last change on a lower point
pub IsCut-at : (changes : List Change) (end len : ℕ) (d : Change) → AllPairs (λ (c e : Change). c.point < e.point) changes → 0 < len → len ≤ length changes → (get_or changes (len - 1) d).point < end → ((k : ℕ) (e : Change) → len ≤ k → k < length changes → end ≤ (get_or changes k e).point) → IsCut end changes (take len changes)
IsCut-at changes end len d ascending some fits last rest =
    let same = length-take-le len changes fits in
    record {
      no_longer = omega arith;
      front = rw same refl;
      below = λ k e lt. rw (get_or-take len changes k e (omega arith)) (earlier_below k e (omega arith) (cases_lt k (len - 1)));
      rest = λ k e from lt. rest k e (omega arith) lt;
    }
  where
    earlier_below : (k : ℕ) (e : Change) → k < len → (k < len - 1) ⊎ (len - 1 ≤ k) → (get_or changes k e).point < end
    earlier_below k e lt (inl before) =
        let less = ascending k (len - 1) e before (omega arith) in
        let at = ap (λ (c : Change). c.point) (get_or_default changes (len - 1) e d (omega arith)) in
        omega arith
    earlier_below k e lt (inr at_last) =
        let here : k ≡ len - 1 = omega arith in
        let at = ap (λ (c : Change). c.point) (get_or_default changes (len - 1) e d (omega arith)) in
        rw here (omega arith)
