-- A placement begins to hold at the nodes at which its wants begin to be met.
use Rattle.std.proofs.Common.{◌≡◌, ◌↔◌, ◌⊎◌, ℕ, ◌+◌, ◌<◌, ◌≤◌, inl, inr, Some, None, Option, Bool, true, false, not, List, [], ◌++◌, length, refl, sym, ap, ◌∙◌, arith, subst}
use Rattle.std.specs.Prelude.{Contains, IfSome, map}
use Rattle.std.specs.Option.{option_map_or}
use Rattle.std.proofs.lemmas.Bool.{and_from, and_parts, cases_lt, false≢true, false_from_ne_true}
use Rattle.capture_board.specs.Deltas.{AreDeltas, Deltas, node_count, parent_of, position_at}
use Rattle.node_paths.proofs.Ancestors.{parent-lt}
use Rattle.pattern_images.specs.ImageList.{IsPlacedOn, placement_at}
use Rattle.pattern_images.specs.Placements.{Placement}
use Rattle.pattern_occurrences.specs.declared.occurrence.Occurrence.{Occurrence}
use Rattle.pattern_occurrences.specs.Occurrences.{HoldsAt, begins_at, holds_at, occurrences_in}
use Rattle.pattern_occurrences.proofs.HoldsLaw.{holds-decides}
use Rattle.pattern_occurrences.proofs.OccurrenceLaw.{occurrences-are}
use Rattle.ready_images.specs.Wants.{AreWantsOf, base_of}
use Rattle.ready_images.specs.declared.want.Want.{Want}
use Rattle.capture_index.specs.NodePositions.{NodePositions, count_in, positions_of}
use Rattle.capture_index.specs.Stretches.{AreApart, AreWantedAt, BeginsIn, IsIn}
use Rattle.capture_index.specs.declared.stretch.Stretch.{Stretch}
use Rattle.capture_index.proofs.WantsOfPlacements.{parent_seen-at, wanted-holds}
use Rattle.run_matcher.specs.Begins.{BeginAt, IsKnownIn, StaysIn}
use Rattle.run_matcher.specs.GoingOn.{GoesOnToHold, occurrences_of}
use Rattle.run_matcher.specs.Keys.{begun_list, end_number, key_of}
use Rattle.run_matcher.specs.PlacementOccurrences.{IsOccurrenceBelow, IsOccurrenceOf}
use Rattle.run_matcher.specs.declared.begun.Begun.{Begun}
use Rattle.run_matcher.specs.declared.begun.HoldsTo.{HoldsTo}
use Rattle.run_matcher.proofs.BegunNodes.{AreParentsThere, begun, count-seen, parents-there}
use Rattle.run_matcher.proofs.HoldingOn.{IsSought, met-holds}
use Rattle.run_matcher.proofs.KeyLists.{begun-added, keys-added, told-again}

-- ---- what the test of a placement tells
module _ (deltas : Deltas) (placement : Placement) where
  at_node : (n : ℕ) → (holds_at deltas placement n ≡ true) ↔ HoldsAt deltas placement n
  at_node n = holds-decides deltas.shape (position_at deltas n) placement

  abbrev not_there : Option ℕ → Bool
  not_there p = not (option_map_or (holds_at deltas placement) p false)

  told_before : (p : Option ℕ) → not_there p ≡ true → IfSome p (λ m. ¬ HoldsAt deltas placement m)
  told_before None t = tt
  told_before (Some m) t = λ held. false≢true (sym (ap not ((at_node m).1 held)) ∙ t)

  tells_before : (p : Option ℕ) → IfSome p (λ m. ¬ HoldsAt deltas placement m) → not_there p ≡ true
  tells_before None none = refl
  tells_before (Some m) none = ap not (false_from_ne_true (holds_at deltas placement m) (λ t. none ((at_node m).0 t)))

  pub begins-told : (n : ℕ) → (begins_at deltas placement n ≡ true) ↔ (HoldsAt deltas placement n × IfSome (parent_of deltas n) (λ m. ¬ HoldsAt deltas placement m))
  begins-told n = (
    λ t. let parts = and_parts (holds_at deltas placement n) (not_there (parent_of deltas n)) t in ((at_node n).0 parts.0, told_before (parent_of deltas n) parts.1),
    λ h. and_from (holds_at deltas placement n) (not_there (parent_of deltas n)) ((at_node n).1 h.0) (tells_before (parent_of deltas n) h.1),
  )

-- ---- the nodes at which its wants begin to be met
module _ (deltas : Deltas) (are : AreDeltas deltas) (placement : Placement) (placed : IsPlacedOn deltas.shape placement) (wants : List Want) (are_wants : AreWantsOf deltas.shape placement.grid wants) where
  abbrev base : ℕ
  base = base_of deltas.shape placement

  abbrev seen : NodePositions
  seen = positions_of deltas

  -- the wants of a placement are met at a node where it holds
  same : (n : ℕ) → n < node_count deltas → AreWantedAt seen base wants n ↔ HoldsAt deltas placement n
  same n lt = wanted-holds deltas placement placed wants are_wants n lt

  to_held : (p : Option ℕ) → ((m : ℕ) → p ≡ Some m → m < node_count deltas) → IfSome p (λ m. ¬ AreWantedAt seen base wants m) → IfSome p (λ m. ¬ HoldsAt deltas placement m)
  to_held None there none = tt
  to_held (Some m) there none = λ held. none ((same m (there m refl)).1 held)

  to_met : (p : Option ℕ) → ((m : ℕ) → p ≡ Some m → m < node_count deltas) → IfSome p (λ m. ¬ HoldsAt deltas placement m) → IfSome p (λ m. ¬ AreWantedAt seen base wants m)
  to_met None there none = tt
  to_met (Some m) there none = λ met. none ((same m (there m refl)).0 met)

  pub begins-wanted : (n : ℕ) → BeginAt seen base wants n ↔ ((n < node_count deltas) × (begins_at deltas placement n ≡ true))
  begins-wanted n =
      let there : n < node_count deltas → (m : ℕ) → parent_of deltas n ≡ Some m → m < node_count deltas = λ lt m e. omega (arith, lt, parent-lt are.parents n m e) in (
        λ b.
            let lt : n < node_count deltas = omega (arith, b.in_range, count-seen deltas) in
            let before = subst (λ (p : Option ℕ). IfSome p (λ m. ¬ AreWantedAt seen base wants m)) (parent_seen-at deltas n lt) b.before in
            (lt, (begins-told deltas placement n).1 ((same n lt).0 b.here, to_held (parent_of deltas n) (there lt) before)),
        λ h.
            let lt : n < node_count deltas = h.0 in
            let parts = (begins-told deltas placement n).0 h.1 in
            record {
              in_range = omega (arith, lt, count-seen deltas);
              here = (same n lt).1 parts.0;
              before = subst (λ (p : Option ℕ). IfSome p (λ m. ¬ AreWantedAt seen base wants m)) (sym (parent_seen-at deltas n lt)) (to_met (parent_of deltas n) (there lt) parts.1);
            },
      )

-- ---- what is gathered

-- the keys of what begins in stretches
module _ (seen' : NodePositions) (stretches : List Stretch) (i : ℕ) (holds : HoldsTo) (nodes old new : List ℕ) (before : List Begun) (small : i < 65536) (few : end_number holds ≤ 65536) (begun : (x : ℕ) → Contains nodes x ↔ BeginsIn seen' stretches x) (added : new ≡ old ++ map (key_of i (end_number holds)) nodes) (shown : begun_list old ≡ before) where
  pub begins-added : (o : Occurrence) → Contains (occurrences_of (begun_list new)) o ↔ (Contains (occurrences_of before) o ⊎ ((o.placement ≡ i) × BeginsIn seen' stretches o.node))
  begins-added o =
      let keys = keys-added i (end_number holds) nodes old new small few added o in (
        λ h. elim (keys.0 h) [
          | inl was ↦ inl (subst (λ (bs : List Begun). Contains (occurrences_of bs) o) shown was)
          | inr (e, node) ↦ inr (e, (begun o.node).0 node)
        ],
        λ h. keys.1 (elim h [
          | inl was ↦ inl (subst (λ (bs : List Begun). Contains (occurrences_of bs) o) (sym shown) was)
          | inr (e, begins) ↦ inr (e, (begun o.node).1 begins)
        ]),
      )

  pub known-added : ((n : ℕ) → IsIn stretches n → StaysIn stretches n holds) → (b : Begun) → Contains (begun_list new) b → Contains before b ⊎ IsKnownIn stretches i b
  known-added inside b h = elim (begun-added i (end_number holds) nodes old new small few added b h) [
    | inl was ↦ inl (subst (λ (bs : List Begun). Contains bs b) shown was)
    | inr (e, node, is) ↦
        let first = (begun b.occurrence.node).0 node in
        inr (record { same = e; on = λ end k known from below. inside b.occurrence.node first.inside end k (told-again holds end (sym is ∙ known)) from below })
  ]

-- nothing begins where there is no stretch
pub none-begins : (seen' : NodePositions) (stretches : List Stretch) (i : ℕ) (gathered : List Occurrence) → length stretches ≡ 0 → (o : Occurrence) → Contains gathered o ↔ (Contains gathered o ⊎ ((o.placement ≡ i) × BeginsIn seen' stretches o.node))
none-begins seen' stretches i gathered empty o = (
  λ h. inl h,
  λ h. elim h [
    | inl was ↦ was
    | inr (e, begins) ↦ let inside = begins.inside in absurd (omega (arith, inside.2, empty))
  ],
)

-- one placement more, which holds in these stretches
module _ (seen' : NodePositions) (placements : List Placement) (i base : ℕ) (wants : List Want) (stretches : List Stretch) (sought : IsSought seen'.shape (placement_at placements i) base wants) (apart : AreApart 0 (count_in seen') stretches)
    (held : (n : ℕ) → n < count_in seen' → IsIn stretches n ↔ AreWantedAt seen' base wants n) where
  pub gathered-more : (before after : List Occurrence) → ((o : Occurrence) → Contains after o ↔ (Contains before o ⊎ ((o.placement ≡ i) × BeginsIn seen' stretches o.node))) →
      (deltas : Deltas) → AreDeltas deltas → seen' ≡ positions_of deltas → (o : Occurrence) → Contains after o ↔ (Contains before o ⊎ IsOccurrenceOf deltas placements i o)
  gathered-more before after added deltas are is o =
      let placement = placement_at placements i in
      let same_shape : seen'.shape ≡ deltas.shape = ap (λ (s : NodePositions). s.shape) is in
      let told = begins-wanted deltas are placement (subst (λ s. IsPlacedOn s placement) same_shape sought.placed) wants (subst (λ s. AreWantsOf s placement.grid wants) same_shape sought.wanted) o.node in
      let here : base ≡ base_of deltas.shape placement = sought.from ∙ ap (λ s. base_of s placement) same_shape in
      let there = begun seen' stretches apart base wants held (subst AreParentsThere (sym is) (parents-there deltas are)) o.node in
      let at_base = subst (λ (b : ℕ). BeginsIn seen' stretches o.node ↔ BeginAt seen' b wants o.node) here there in
      let begins : BeginsIn seen' stretches o.node ↔ BeginAt (positions_of deltas) (base_of deltas.shape placement) wants o.node = subst (λ (s : NodePositions). BeginsIn seen' stretches o.node ↔ BeginAt s (base_of deltas.shape placement) wants o.node) is at_base in (
        λ h. elim ((added o).0 h) [
          | inl was ↦ inl was
          | inr (e, b) ↦ let at_node = told.0 (begins.0 b) in inr (e, at_node.0, at_node.1)
        ],
        λ h. (added o).1 (elim h [
          | inl was ↦ inl was
          | inr (e, node, t) ↦ inr (e, begins.1 (told.1 (node, t)))
        ]),
      )

  -- and as far as is known it goes on to hold
  pub known-holds : (deltas : Deltas) → seen' ≡ positions_of deltas → (b : Begun) → IsKnownIn stretches i b → GoesOnToHold deltas placements b
  known-holds deltas is b known end k told from below =
      let inside = known.on end k told from below in
      let (j, d, lt, at) = inside in
      let each = apart.each j d lt in
      let k_in : k < count_in seen' = omega (arith, each.2, at.1) in
      subst (λ (number : ℕ). HoldsAt deltas (placement_at placements number) k) (sym known.same)
      (met-holds seen' (placement_at placements i) base wants sought deltas is k k_in ((held k k_in).0 inside))

-- all placements: what is gathered is what occurs
pub gathered-all : (deltas : Deltas) (placements : List Placement) (o : Occurrence) → IsOccurrenceBelow deltas placements (length placements) o ↔ Contains (occurrences_in deltas placements) o
gathered-all deltas placements o =
    let law = occurrences-are deltas placements o in
    let told = begins-told deltas (placement_at placements o.placement) o.node in (
      λ h. law.1 (let parts = told.0 h.2 in record { node_there = h.1; placement_there = h.0; holds_there = parts.0; not_before = parts.1 }),
      λ h. let occurs = law.0 h in (occurs.placement_there, occurs.node_there, told.1 (occurs.holds_there, occurs.not_before)),
    )

pub below-none : (deltas : Deltas) (placements : List Placement) (gathered : List Occurrence) → gathered ≡ [] → (o : Occurrence) → Contains gathered o ↔ IsOccurrenceBelow deltas placements 0 o
below-none deltas placements gathered none o = (λ h. absurd (omega (arith, h.1, ap length none)), λ h. absurd (omega (arith, h.0)))

pub below-more : (deltas : Deltas) (placements : List Placement) (i : ℕ) (o : Occurrence) (Now New : Type 0) → Now ↔ IsOccurrenceBelow deltas placements i o → New ↔ (Now ⊎ IsOccurrenceOf deltas placements i o) → New ↔ IsOccurrenceBelow deltas placements (i + 1) o
below-more deltas placements i o Now New before step = (
  λ h. elim (step.0 h) [
    | inl now ↦ let b = before.0 now in (omega (arith, b.0), b.1, b.2)
    | inr (e, node, begins) ↦ (omega (arith, e), node, subst (λ (k : ℕ). begins_at deltas (placement_at placements k) o.node ≡ true) (sym e) begins)
  ],
  λ h. step.1 (elim (cases_lt o.placement i) [
    | inl less ↦ inl (before.1 (less, h.1, h.2))
    | inr last ↦
        let e : o.placement ≡ i = omega (arith, h.0) in
        inr (e, h.1, subst (λ (k : ℕ). begins_at deltas (placement_at placements k) o.node ≡ true) e h.2)
  ]),
)
