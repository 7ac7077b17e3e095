-- A set of points by a list of its members and a mark for each point: its start, its room and one more point.
use Rattle.std.proofs.Common.{◌≡◌, ◌≢◌, ℕ, ◌+◌, ◌<◌, ◌≤◌, ◌⊎◌, ◌↔◌, inl, inr, Bool, true, false, cond, List, [], ◌∷◌, ◌++◌, length, get_or, set, take, replicate, refl, sym, ap, ◌∙◌, arith, below_more}
use Rattle.std.specs.Prelude.{count_by, All, Contains}
use Rattle.std.proofs.lemmas.List.{take_more_set, get_or-replicate, length-replicate, get_or_past, get_or-set_same, get_or-set_other, length-set, get_or_append_left, length_push, get_or_default, length-take, get_or-take, ext_get_or}
use Rattle.std.proofs.lemmas.List.Folds.{sum_by-replicate}
use Rattle.std.proofs.lemmas.List.Sums.{sum_by-set, count_by-le-length}
use Rattle.std.proofs.lemmas.List.Elements.{Contains-get_or, Contains-append_left, Contains-push, Contains-push_cases}
use Rattle.std.proofs.lemmas.Bool.{false≢true, cases_lt, cases_eq, cases_Bool}
use Rattle.capture_board.specs.PointSet.{IsPointSet, IsWithPoint, IsUnmarked, Extends}

no_mark : (m q : ℕ) → get_or (replicate m false) q false ≡ false
no_mark m q = elim (cases_lt q m) [ inl h ↦ get_or-replicate m q false false h | inr h ↦ get_or_past (replicate m false) q false (simp length-replicate (omega arith)) ]

-- no point is marked
pub IsPointSet-none : (n m : ℕ) → IsPointSet (replicate n 0) 0 (replicate m false)
IsPointSet-none n m = record {
  fits = omega arith;
  counted = sum_by-replicate (λ b. cond b 1 0) m false ∙ omega arith;
  marked = λ q e. absurd (false≢true (sym (no_mark m q) ∙ e));
  members = λ q h. absurd (omega (arith, h.1));
}

-- where no mark stands, there are none
none_counted : (has : List Bool) → ((q : ℕ) → get_or has q false ≡ false) → count_by (λ b. b) has ≡ 0
none_counted has none =
    let all : has ≡ replicate (length has) false = ext_get_or false has (replicate (length has) false) (sym (length-replicate (length has) false)) (λ i lt. none i ∙ sym (no_mark (length has) i)) in
    ap (λ marks. count_by (λ b. b) marks) all ∙ (sum_by-replicate (λ b. cond b 1 0) (length has) false ∙ omega arith)

module _ (points : List ℕ) (len : ℕ) (has : List Bool) (before : IsPointSet points len has) where
  counted_more : (q : ℕ) → q < length has → get_or has q false ≡ false → count_by (λ b. b) (set has q true) ≡ len + 1
  counted_more q lt e =
      let h = sum_by-set (λ b. cond b 1 0) has q true false lt in
      let was = rw e at h in
      omega (arith, was, before.counted)

  -- a point that is not marked finds room
  pub IsPointSet-room : (q : ℕ) → q < length has → get_or has q false ≡ false → len + 1 ≤ length has
  IsPointSet-room q lt e =
      let most = count_by-le-length (λ b. b) (set has q true) in
      let same = length-set has q true in
      omega (arith, counted_more q lt e, most, same)

  pub taken_more : (q : ℕ) → len < length points → take (len + 1) (set points len q) ≡ take len points ++ q ∷ []
  taken_more q lt = take_more_set points len q lt

  marked_more : (q : ℕ) → (r : ℕ) → get_or (set has q true) r false ≡ true → (r ≡ q) ⊎ (r ≢ q) → Contains (take len points ++ q ∷ []) r
  marked_more q r m (inl same) = rw same (Contains-push (take len points) q)
  marked_more q r m (inr other) = Contains-append_left (take len points) (q ∷ []) r (before.marked r (sym (get_or-set_other has q r true false other) ∙ m))

  members_more : (q : ℕ) → q < length has → (r : ℕ) → Contains (take len points) r ⊎ (q ≡ r) → get_or (set has q true) r false ≡ true
  members_more q lt r (inr same) = rw (← same) (get_or-set_same has q true false lt)
  members_more q lt r (inl old) = elim (cases_eq r q) [ inl same ↦ rw same (get_or-set_same has q true false lt) | inr other ↦ get_or-set_other has q r true false other ∙ before.members r old ]

  pub IsPointSet-more : (q : ℕ) → q < length has → len < length points → get_or has q false ≡ false → IsPointSet (set points len q) (len + 1) (set has q true)
  IsPointSet-more q lt room e = record {
    fits = simp length-set (omega arith);
    counted = counted_more q lt e;
    marked = λ r m. rw (taken_more q room) (marked_more q r m (cases_eq r q));
    members = λ r h. members_more q lt r (Contains-push_cases (take len points) q r (rw (taken_more q room) at h));
  }

  pub IsWithPoint-more : (q : ℕ) → q < length has → len < length points → get_or has q false ≡ false → IsWithPoint (take len points) q (take (len + 1) (set points len q))
  IsWithPoint-more q lt room e = inr (λ h. false≢true (sym e ∙ before.members q h), taken_more q room)

  marked-lt : (q : ℕ) → get_or has q false ≡ true → q < length has
  marked-lt q e = elim (cases_lt q (length has)) [ inl lt ↦ lt | inr le ↦ absurd (false≢true (sym (get_or_past has q false le) ∙ e)) ]

  -- a member is the number of a mark
  pub IsPointSet-member_lt : (q : ℕ) → Contains (take len points) q → q < length has
  IsPointSet-member_lt q h = marked-lt q (before.members q h)

  pub IsPointSet-below : (k : ℕ) → k < length (take len points) → get_or points k 0 < length has
  IsPointSet-below k lt =
      let below : k < len = omega (arith, length-take len points) in
      let m = Contains-get_or (take len points) k 0 lt in
      rw (← get_or-take len points k 0 below) (marked-lt (get_or (take len points) k 0) (before.members (get_or (take len points) k 0) m))

  no_mark_left : (after : List Bool) → IsUnmarked (take len points) has after → (q : ℕ) → (get_or has q false ≡ true) ⊎ (get_or has q false ≡ false) → get_or after q false ≡ false
  no_mark_left after cleared q (inl was) = cleared.gone q (before.marked q was)
  no_mark_left after cleared q (inr none) = cleared.kept q (λ h. false≢true (sym none ∙ before.members q h)) ∙ none

  -- the marks of all members taken away
  pub IsPointSet-cleared : (after : List Bool) → IsUnmarked (take len points) has after → IsPointSet points 0 after
  IsPointSet-cleared after cleared =
      let none : (q : ℕ) → get_or after q false ≡ false = λ q. no_mark_left after cleared q (cases_Bool (get_or has q false)) in
      record {
        fits = omega arith;
        counted = none_counted after none;
        marked = λ q e. absurd (false≢true (sym (none q) ∙ e));
        members = λ q h. absurd (omega (arith, h.1));
      }

module _ (xs : List ℕ) (q : ℕ) (ys : List ℕ) where
  pub IsWithPoint-has : IsWithPoint xs q ys → Contains ys q
  IsWithPoint-has (inl h) = rw h.1 h.0
  IsWithPoint-has (inr h) = rw h.1 (Contains-push xs q)

  pub IsWithPoint-only : IsWithPoint xs q ys → (r : ℕ) → Contains ys r → Contains xs r ⊎ (q ≡ r)
  IsWithPoint-only (inl h) r m = inl (rw h.1 at m)
  IsWithPoint-only (inr h) r m = Contains-push_cases xs q r (rw h.1 at m)

  pub IsWithPoint-keeps : IsWithPoint xs q ys → (r : ℕ) → Contains xs r → Contains ys r
  IsWithPoint-keeps (inl h) r m = rw h.1 m
  IsWithPoint-keeps (inr h) r m = rw h.1 (Contains-append_left xs (q ∷ []) r m)

  pub IsWithPoint-at : IsWithPoint xs q ys → (k : ℕ) → k < length xs → get_or ys k 0 ≡ get_or xs k 0
  IsWithPoint-at (inl h) k lt = rw h.1 refl
  IsWithPoint-at (inr h) k lt = rw h.1 (get_or_append_left xs (q ∷ []) 0 k lt)

  pub IsWithPoint-length : IsWithPoint xs q ys → length xs ≤ length ys
  IsWithPoint-length (inl h) = rw h.1 (omega arith)
  IsWithPoint-length (inr h) = rw h.1 (omega (arith, length_push xs q))

  pub IsWithPoint-extends : IsWithPoint xs q ys → Extends xs ys
  IsWithPoint-extends h = record { no_shorter = IsWithPoint-length h; same = IsWithPoint-at h }

pub Extends-refl : (xs : List ℕ) → Extends xs xs
Extends-refl xs = record { no_shorter = omega arith; same = λ k lt. refl }

pub Extends-trans : (xs ys zs : List ℕ) → Extends xs ys → Extends ys zs → Extends xs zs
Extends-trans xs ys zs h k = record { no_shorter = omega arith; same = λ i lt. k.same i (omega arith) ∙ h.same i lt }

pub Extends-keeps : (xs ys : List ℕ) → Extends xs ys → (q : ℕ) → Contains xs q → Contains ys q
Extends-keeps xs ys h q m = (m.0, omega (arith, m.1), get_or_default ys m.0 q 0 (omega (arith, m.1)) ∙ (h.same m.0 m.1 ∙ (get_or_default xs m.0 0 q m.1 ∙ m.2)))

-- what holds of each member holds at each place
pub All-from_contains : (P : ℕ → Type 0) (xs : List ℕ) → ((q : ℕ) → Contains xs q → P q) → All P xs
All-from_contains P xs h k d lt = h (get_or xs k d) (Contains-get_or xs k d lt)

-- a set to which the first points of another one have been added
pub record AreInserted (before others after : List ℕ) (count : ℕ) : Type 0 where
  pub only : (q : ℕ) → Contains after q → Contains before q ⊎ Contains others q
  pub kept : (q : ℕ) → Contains before q → Contains after q
  pub added : (k : ℕ) → k < count → Contains after (get_or others k 0)

module _ (before others : List ℕ) where
  pub AreInserted-none : AreInserted before others before 0
  AreInserted-none = record { only = λ q h. inl h; kept = λ q h. h; added = λ k lt. absurd (omega arith) }

  module _ (after : List ℕ) (n : ℕ) (so_far : AreInserted before others after n) where
    joined_only : n < length others → (q : ℕ) → Contains after q ⊎ (get_or others n 0 ≡ q) → Contains before q ⊎ Contains others q
    joined_only lt q (inl h) = so_far.only q h
    joined_only lt q (inr e) = inr (rw (← e) (Contains-get_or others n 0 lt))

    pub AreInserted-more : n < length others → (grown : List ℕ) → IsWithPoint after (get_or others n 0) grown → AreInserted before others grown (n + 1)
    AreInserted-more lt grown with = record {
      only = λ q h. joined_only lt q (IsWithPoint-only after (get_or others n 0) grown with q h);
      kept = λ q h. IsWithPoint-keeps after (get_or others n 0) grown with q (so_far.kept q h);
      added = below_more _ _ (λ k below. IsWithPoint-keeps after (get_or others n 0) grown with (get_or others k 0) (so_far.added k below)) (IsWithPoint-has after (get_or others n 0) grown with);
    }

    joined_all : length others ≤ n → (q : ℕ) → Contains before q ⊎ Contains others q → Contains after q
    joined_all all q (inl h) = so_far.kept q h
    joined_all all q (inr m) =
        let here : get_or others m.0 0 ≡ q = get_or_default others m.0 0 q m.1 ∙ m.2 in
        rw (← here) (so_far.added m.0 (omega (arith, m.1)))

    pub AreInserted-all : length others ≤ n → (q : ℕ) → Contains after q ↔ (Contains before q ⊎ Contains others q)
    AreInserted-all all q = (so_far.only q, joined_all all q)
