-- Placements in order, and the number of one.
use Rattle.std.proofs.Common.{◌≡◌, ℕ, ◌<◌, ◌≤◌, inl, inr, List, length, sym, subst, arith}
use Rattle.std.specs.Prelude.{AllPairs}
use Rattle.std.proofs.lemmas.Bool.{cases_eq, cases_lt}
use Rattle.pattern_images.specs.declared.hit.Place.{Place}
use Rattle.pattern_images.specs.ImageList.{IsPlaceOf, placement_at}
use Rattle.pattern_images.specs.Placements.{IsBefore, Placement}
use Rattle.pattern_images.proofs.OneList.{before_opposed}
use Rattle.continuation_table.specs.Places.{IsPlaceBefore}

-- places are in the order of their placements
places_in_order : (a b : Placement) (p q : Place) → IsPlaceOf a p → IsPlaceOf b q → IsPlaceBefore p q → IsBefore a b
places_in_order a b p q is too (inl row) = inl (omega (arith, is.row, too.row))
places_in_order a b p q is too (inr (row, inl column)) = inr (omega (arith, is.row, too.row), inl (omega (arith, is.column, too.column)))
places_in_order a b p q is too (inr (row, inr (column, label))) = inr (omega (arith, is.row, too.row), inr (omega (arith, is.column, too.column), omega (arith, is.label, too.label)))

placements_in_order : (a b : Placement) (p q : Place) → IsPlaceOf a p → IsPlaceOf b q → IsBefore a b → IsPlaceBefore p q
placements_in_order a b p q is too (inl row) = inl (omega (arith, is.row, too.row))
placements_in_order a b p q is too (inr (row, inl column)) = inr (omega (arith, is.row, too.row), inl (omega (arith, is.column, too.column)))
placements_in_order a b p q is too (inr (row, inr (column, label))) = inr (omega (arith, is.row, too.row), inr (omega (arith, is.column, too.column), omega (arith, is.label, too.label)))

module _ (placements : List Placement) (ordered : AllPairs IsBefore placements) (middle : ℕ) (in_range : middle < length placements) (at place : Place) (is_at : IsPlaceOf (placement_at placements middle) at) (i : ℕ) (lt : i < length placements) (is : IsPlaceOf (placement_at placements i) place) where
  abbrev one : Placement
  one = placement_at placements middle

  abbrev other : Placement
  other = placement_at placements i

  -- a placement with a later place comes later
  pub later_number : IsPlaceBefore at place → middle < i
  later_number before =
      let first : IsBefore one other = places_in_order one other at place is_at is before in
      elim (cases_lt middle i) [
        | inl h ↦ h
        | inr le ↦ elim (cases_eq i middle) [
          | inl same ↦ absurd (before_opposed one other first (subst (λ (k : ℕ). IsBefore (placement_at placements k) one) (sym same) (subst (λ (k : ℕ). IsBefore one (placement_at placements k)) same first)))
          | inr ne ↦ absurd (before_opposed one other first (ordered i middle _ (omega arith) in_range))
        ]
      ]

  -- and one whose place is no later doesn't
  pub no_later_number : ¬ IsPlaceBefore at place → i ≤ middle
  no_later_number not =
      elim (cases_lt middle i) [
        | inl h ↦ absurd (not (placements_in_order one other at place is_at is (ordered middle i _ h lt)))
        | inr le ↦ le
      ]

-- ---- the first places come before a place

place_trans : (a b c : Place) → IsPlaceBefore a b → IsPlaceBefore b c → IsPlaceBefore a c
place_trans a b c (inl row) (inl below) = inl (omega (arith, row, below))
place_trans a b c (inl row) (inr (same, rest)) = inl (omega (arith, row, same))
place_trans a b c (inr (same, rest)) (inl below) = inl (omega (arith, same, below))
place_trans a b c (inr (same, inl column)) (inr (too, inl right)) = inr (omega (arith, same, too), inl (omega (arith, column, right)))
place_trans a b c (inr (same, inl column)) (inr (too, inr (there, label))) = inr (omega (arith, same, too), inl (omega (arith, column, there)))
place_trans a b c (inr (same, inr (here, label))) (inr (too, inl right)) = inr (omega (arith, same, too), inl (omega (arith, here, right)))
place_trans a b c (inr (same, inr (here, label))) (inr (too, inr (there, more))) = inr (omega (arith, same, too), inr (omega (arith, here, there), omega (arith, label, more)))

-- two places of one placement come before the same ones
place_same : (a : Placement) (p q place : Place) → IsPlaceOf a p → IsPlaceOf a q → IsPlaceBefore q place → IsPlaceBefore p place
place_same a p q place is too (inl row) = inl (omega (arith, is.row, too.row, row))
place_same a p q place is too (inr (row, inl column)) = inr (omega (arith, is.row, too.row, row), inl (omega (arith, is.column, too.column, column)))
place_same a p q place is too (inr (row, inr (column, label))) = inr (omega (arith, is.row, too.row, row), inr (omega (arith, is.column, too.column, column), omega (arith, is.label, too.label, label)))

module _ (placements : List Placement) (ordered : AllPairs IsBefore placements) (middle : ℕ) (in_range : middle < length placements) (at place : Place) (is_at : IsPlaceOf (placement_at placements middle) at) (i : ℕ) (lt : i < length placements) (other : Place) (is : IsPlaceOf (placement_at placements i) other) where
  of_middle : i ≡ middle → IsPlaceOf (placement_at placements middle) other
  of_middle same = subst (λ (k : ℕ). IsPlaceOf (placement_at placements k) other) same is

  -- a placement up to the one in the middle has a place before one that the middle's comes before
  pub earlier_place : IsPlaceBefore at place → i ≤ middle → IsPlaceBefore other place
  earlier_place before le = elim (cases_eq i middle) [
    | inl same ↦ place_same (placement_at placements middle) other at place (of_middle same) is_at before
    | inr ne ↦
        let first = placements_in_order (placement_at placements i) (placement_at placements middle) other at is is_at (ordered i middle _ (omega (arith, le, ne)) in_range) in
        place_trans other at place first before
  ]

  -- and one from the middle on has none before a place that the middle's doesn't come before
  pub no_earlier_place : ¬ IsPlaceBefore at place → middle ≤ i → ¬ IsPlaceBefore other place
  no_earlier_place not le before = elim (cases_eq i middle) [
    | inl same ↦ not (place_same (placement_at placements middle) at other place is_at (of_middle same) before)
    | inr ne ↦
        let first = placements_in_order (placement_at placements middle) (placement_at placements i) at other is_at is (ordered middle i _ (omega (arith, le, ne)) lt) in
        not (place_trans at other place first before)
  ]
