-- The list of occurrences has exactly each node and placement where the placement begins to hold, in order.
use Prim.Native.Nat.{zero}
use Rattle.std.proofs.Common.{◌≡◌, ℕ, suc, ◌+◌, ◌<◌, ◌≤◌, ◌↔◌, inl, inr, Bool, true, false, cond, not, List, [], ◌∷◌, ◌++◌, length, get_or, map, filter, Option, Some, None, refl, sym, ap, ◌∙◌, arith, subst, Contains}
use Rattle.std.specs.Prelude.{All, AllPairs, IfSome}
use Rattle.std.specs.List.{flat_map, range_with_len}
use Rattle.std.specs.Option.{option_map_or}
use Rattle.std.proofs.lemmas.Bool.{and_from, and_parts, cases_Bool, false≢true, false_from_ne_true}
use Rattle.std.proofs.lemmas.List.Elements.{All-append, All-contains, All-filter, All-head, All-map, All-tail, All-weaker, Contains-append_left, Contains-append_right, filter_passes}
use Rattle.std.proofs.lemmas.List.FromFn.{get_or-range_with_len, length-range_with_len}
use Rattle.std.proofs.lemmas.List.Kept.{AllPairs-cons, AllPairs-filter}
use Rattle.capture_board.specs.Deltas.{Deltas, node_count, parent_of, position_at}
use Rattle.kb_geometry.proofs.Lists.{All-flat_map, AllPairs-head, AllPairs-tail, Contains-cases, Contains-first, Contains-later, all_less, range_bounds}
use Rattle.pattern_images.specs.ImageList.{placement_at}
use Rattle.pattern_images.specs.Placements.{Placement}
use Rattle.pattern_occurrences.specs.declared.occurrence.Occurrence.{Occurrence}
use Rattle.pattern_occurrences.specs.Occurrences.{HoldsAt, Occurs, StandsBefore, begins_at, holds_at, occurrences_at, occurrences_in}
use Rattle.pattern_occurrences.proofs.HoldsLaw.{holds-decides}

-- ---- what lists contain
module _ {X : Type 0} where
  Contains-filter : (p : X → Bool) (xs : List X) (x : X) → Contains xs x → p x ≡ true → Contains (filter p xs) x
  Contains-filter p [] x h t = absurd (omega (arith, h.1))
  Contains-filter p (y ∷ xs) x h t =
      elim (cases_Bool (p y)) [
        | inl kept ↦ subst (λ (b : Bool). Contains (cond b (y ∷ filter p xs) (filter p xs)) x) (sym kept) (elim (Contains-cases y x xs h) [
          | inl here ↦ subst (λ (z : X). Contains (y ∷ filter p xs) z) here (Contains-first y (filter p xs))
          | inr later ↦ Contains-later y x (filter p xs) (Contains-filter p xs x later t)
        ])
        | inr dropped ↦ subst (λ (b : Bool). Contains (cond b (y ∷ filter p xs) (filter p xs)) x) (sym dropped) (elim (Contains-cases y x xs h) [
          | inl here ↦ absurd (false≢true (sym dropped ∙ ap p here ∙ t))
          | inr later ↦ Contains-filter p xs x later t
        ])
      ]

Contains-map : {X Y : Type 0} (f : X → Y) (xs : List X) (x : X) → Contains xs x → Contains (map f xs) (f x)
Contains-map f [] x h = absurd (omega (arith, h.1))
Contains-map f (y ∷ xs) x h =
    elim (Contains-cases y x xs h) [
      | inl here ↦ subst (λ z. Contains (f y ∷ map f xs) (f z)) here (Contains-first (f y) (map f xs))
      | inr later ↦ Contains-later (f y) (f x) (map f xs) (Contains-map f xs x later)
    ]

Contains-flat_map : {X Y : Type 0} (f : X → List Y) (xs : List X) (x : X) (y : Y) → Contains xs x → Contains (f x) y → Contains (flat_map f xs) y
Contains-flat_map f [] x y h at = absurd (omega (arith, h.1))
Contains-flat_map f (z ∷ xs) x y h at =
    elim (Contains-cases z x xs h) [
      | inl here ↦ Contains-append_left (f z) (flat_map f xs) y (subst (λ w. Contains (f w) y) (sym here) at)
      | inr later ↦ Contains-append_right (f z) (flat_map f xs) y (Contains-flat_map f xs x y later at)
    ]

Contains-range : (n k : ℕ) → k < n → Contains (range_with_len 0 n) k
Contains-range n k lt = (k, omega (arith, length-range_with_len 0 n), get_or-range_with_len 0 n k k lt ∙ omega arith)

AllPairs-nil : {X : Type 0} (R : X → X → Type 0) → AllPairs R []
AllPairs-nil R = λ i j d before lt. absurd (omega arith)

range_ascends : (a n : ℕ) → AllPairs (λ x y. x < y) (range_with_len a n)
range_ascends a zero = AllPairs-nil (λ x y. x < y)
range_ascends a (suc n) =
    AllPairs-cons (λ x y. x < y) a (range_with_len (a + 1) n)
    (All-weaker (λ k. (a + 1 ≤ k) × (k < a + 1 + n)) (λ k. a < k) (λ k h. let low = h.0 in omega arith) (range_with_len (a + 1) n) (range_bounds (a + 1) n))
    (range_ascends (a + 1) n)

AllPairs-map : {X Y : Type 0} (R : Y → Y → Type 0) (f : X → Y) (xs : List X) → AllPairs (λ a b. R (f a) (f b)) xs → AllPairs R (map f xs)
AllPairs-map R f [] pairs = AllPairs-nil R
AllPairs-map R f (x ∷ xs) pairs =
    AllPairs-cons R (f x) (map f xs) (All-map (R (f x)) f xs (AllPairs-head (λ a b. R (f a) (f b)) x xs pairs))
    (AllPairs-map R f xs (AllPairs-tail (λ a b. R (f a) (f b)) x xs pairs))

AllPairs-append : {X : Type 0} (R : X → X → Type 0) (xs ys : List X) → AllPairs R xs → AllPairs R ys → All (λ x. All (R x) ys) xs → AllPairs R (xs ++ ys)
AllPairs-append R [] ys one other across = other
AllPairs-append R (x ∷ xs) ys one other across =
    AllPairs-cons R x (xs ++ ys) (All-append (R x) xs ys (AllPairs-head R x xs one) (All-head (λ z. All (R z) ys) x xs across))
    (AllPairs-append R xs ys (AllPairs-tail R x xs one) other (All-tail (λ z. All (R z) ys) x xs across))

-- ---- the occurrences
module _ (changes : Deltas) (placements : List Placement) where
  abbrev placed : ℕ → Placement
  placed i = placement_at placements i

  abbrev test : ℕ → ℕ → Bool
  test n i = begins_at changes (placed i) n

  -- the test tells whether the placement begins to hold
  not_at_parent : (i : ℕ) (parent : Option ℕ) → not (option_map_or (holds_at changes (placed i)) parent false) ≡ true → IfSome parent (λ m. ¬ HoldsAt changes (placed i) m)
  not_at_parent i None t = tt
  not_at_parent i (Some m) t = λ held. false≢true (sym (ap not ((holds-decides changes.shape (position_at changes m) (placed i)).1 held)) ∙ t)

  at_no_parent : (i : ℕ) (parent : Option ℕ) → IfSome parent (λ m. ¬ HoldsAt changes (placed i) m) → not (option_map_or (holds_at changes (placed i)) parent false) ≡ true
  at_no_parent i None none = refl
  at_no_parent i (Some m) none =
      ap not (false_from_ne_true (holds_at changes (placed i) m) (λ t. none ((holds-decides changes.shape (position_at changes m) (placed i)).0 t)))

  occurs : (n i : ℕ) → n < node_count changes → i < length placements → test n i ≡ true → Occurs changes placements (record { node = n; placement = i })
  occurs n i node placement t =
      let parts = and_parts (holds_at changes (placed i) n) (not (option_map_or (holds_at changes (placed i)) (parent_of changes n) false)) t in
      record {
        node_there = node;
        placement_there = placement;
        holds_there = (holds-decides changes.shape (position_at changes n) (placed i)).0 parts.0;
        not_before = not_at_parent i (parent_of changes n) parts.1;
      }

  occur_at : (n : ℕ) → n < node_count changes → All (Occurs changes placements) (occurrences_at changes placements n)
  occur_at n node =
      let kept = filter (test n) (range_with_len 0 (length placements)) in
      let passed = filter_passes (test n) (range_with_len 0 (length placements)) in
      let less = All-filter (test n) (λ i. i < length placements) (range_with_len 0 (length placements)) (all_less (length placements)) in
      All-map (Occurs changes placements) (λ i. record { node = n; placement = i }) kept (λ k d lt. occurs n (get_or kept k d) node (less k d lt) (passed k d lt))

  -- each one occurs
  pub all_occur : All (Occurs changes placements) (occurrences_in changes placements)
  all_occur =
      All-flat_map (Occurs changes placements) (occurrences_at changes placements) (range_with_len 0 (node_count changes))
      (λ k d lt. occur_at (get_or (range_with_len 0 (node_count changes)) k d) (all_less (node_count changes) k d lt))

  listed : (o : Occurrence) → Occurs changes placements o → Contains (occurrences_in changes placements) o
  listed o is =
      let holds = (holds-decides changes.shape (position_at changes o.node) (placed o.placement)).1 is.holds_there in
      let before = not (option_map_or (holds_at changes (placed o.placement)) (parent_of changes o.node) false) in
      let t = and_from (holds_at changes (placed o.placement) o.node) before holds (at_no_parent o.placement (parent_of changes o.node) is.not_before) in
      let kept = Contains-filter (test o.node) (range_with_len 0 (length placements)) o.placement (Contains-range (length placements) o.placement is.placement_there) t in
      Contains-flat_map (occurrences_at changes placements) (range_with_len 0 (node_count changes)) o.node o (Contains-range (node_count changes) o.node is.node_there)
      (Contains-map (λ i. let p : Occurrence = record { node = o.node; placement = i } in p) (filter (test o.node) (range_with_len 0 (length placements))) o.placement kept)

  pub occurrences-are : (o : Occurrence) → Contains (occurrences_in changes placements) o ↔ Occurs changes placements o
  occurrences-are o = (All-contains (Occurs changes placements) (occurrences_in changes placements) o all_occur, listed o)

  -- each placement is there
  pub placements_are_there : All (λ (o : Occurrence). o.placement < length placements) (occurrences_in changes placements)
  placements_are_there =
      All-weaker (Occurs changes placements) (λ (o : Occurrence). o.placement < length placements) (λ o is. is.placement_there) (occurrences_in changes placements) all_occur

  -- ---- their order
  abbrev at : ℕ → List Occurrence
  at = occurrences_at changes placements

  pub at_node : (n : ℕ) → All (λ o. o.node ≡ n) (at n)
  at_node n =
      All-map (λ (o : Occurrence). o.node ≡ n) (λ i. record { node = n; placement = i }) (filter (test n) (range_with_len 0 (length placements))) (λ k d lt. refl)

  ordered_at : (n : ℕ) → AllPairs StandsBefore (at n)
  ordered_at n =
      let kept = filter (test n) (range_with_len 0 (length placements)) in
      AllPairs-map StandsBefore (λ i. record { node = n; placement = i }) kept
      (λ i j d before lt. inr (refl, AllPairs-filter (λ x y. x < y) (test n) (range_with_len 0 (length placements)) (range_ascends 0 (length placements)) i j d before lt))

  from_node : (a n : ℕ) → All (λ o. a ≤ o.node) (flat_map at (range_with_len a n))
  from_node a n =
      All-flat_map (λ (o : Occurrence). a ≤ o.node) at (range_with_len a n)
      (λ k d lt. All-weaker (λ (o : Occurrence). o.node ≡ get_or (range_with_len a n) k d) (λ (o : Occurrence). a ≤ o.node)
      (λ o e. omega (arith, range_bounds a n k d lt)) (at (get_or (range_with_len a n) k d)) (at_node (get_or (range_with_len a n) k d)))

  ordered_from : (a n : ℕ) → AllPairs StandsBefore (flat_map at (range_with_len a n))
  ordered_from a zero = AllPairs-nil StandsBefore
  ordered_from a (suc n) =
      let rest = flat_map at (range_with_len (a + 1) n) in
      AllPairs-append StandsBefore (at a) rest (ordered_at a) (ordered_from (a + 1) n)
      (λ k d lt. All-weaker (λ (o : Occurrence). a + 1 ≤ o.node) (StandsBefore (get_or (at a) k d))
      (λ o le. inl (omega (arith, at_node a k d lt))) rest (from_node (a + 1) n))

  pub occurrences-ordered : AllPairs StandsBefore (occurrences_in changes placements)
  occurrences-ordered = ordered_from 0 (node_count changes)
