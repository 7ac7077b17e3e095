-- Places are listed one after another: what is listed before one place becomes what is listed before the next.
use Rattle.std.proofs.Common.{◌≡◌, ℕ, ◌+◌, ◌<◌, ◌≤◌, ◌⊎◌, inl, inr, List, [], ◌∷◌, ◌++◌, length, get_or, map, refl, sym, subst, arith}
use Rattle.std.specs.Prelude.{All, Any, AllPairs}
use Rattle.std.proofs.lemmas.Bool.{cases_lt}
use Rattle.std.proofs.lemmas.List.{map_push}
use Rattle.std.proofs.lemmas.List.Elements.{All-nil, All-push, All-weaker}
use Rattle.std.proofs.lemmas.List.Quantifiers.{Any-push, all_pairs_push}
use Rattle.kb_geometry.proofs.Lists.{Any-kept}
use Rattle.kb_geometry.specs.declared.shape.Shape.{Shape}
use Rattle.kb_geometry.specs.Symmetry.{number_of_label}
use Rattle.pattern_images.specs.declared.listing.StoredPlace.{StoredPlace}
use Rattle.pattern_images.specs.declared.query.Query.{Query}
use Rattle.pattern_images.specs.Grid.{Grid}
use Rattle.pattern_images.specs.ImageList.{grid_at}
use Rattle.pattern_images.specs.Listing.{IsEarlier, IsListedTo, placement_in}
use Rattle.pattern_images.specs.Placements.{Placement, IsBefore, IsResult, IsSame}

-- ---- the order

-- the placement is at this point under this label
abbrev pub IsAt : Placement → (y x label : ℕ) → Type 0
IsAt p y x label = (p.y ≡ y) × (p.x ≡ x) × (p.label ≡ label)

-- what is earlier than the next label is earlier than this one, or at it
earlier_cases : (p : Placement) (y x label : ℕ) → IsEarlier p y x (label + 1) → IsEarlier p y x label ⊎ IsAt p y x label
earlier_cases p y x label (inl above) = inl (inl above)
earlier_cases p y x label (inr (row, inl left)) = inl (inr (row, inl left))
earlier_cases p y x label (inr (row, inr (column, less))) =
    elim (cases_lt p.label label) [ inl lt ↦ inl (inr (row, inr (column, lt))) | inr le ↦ inr (row, column, omega arith) ]

earlier_more : (p : Placement) (y x label : ℕ) → IsEarlier p y x label → IsEarlier p y x (label + 1)
earlier_more p y x label (inl above) = inl above
earlier_more p y x label (inr (row, inl left)) = inr (row, inl left)
earlier_more p y x label (inr (row, inr (column, less))) = inr (row, inr (column, omega arith))

-- at one point the earlier one has the lesser label
earlier_label : (p : Placement) (y x label : ℕ) → IsEarlier p y x label → p.y ≡ y → p.x ≡ x → p.label < label
earlier_label p y x label (inl above) row column = omega arith
earlier_label p y x label (inr (_, inl left)) row column = omega arith
earlier_label p y x label (inr (_, inr (_, less))) row column = less

module _ (query : Query) (shape : Shape) (grids : List Grid) where
  -- the places so far
  abbrev all_of : List StoredPlace → List Placement
  all_of stored = map (placement_in grids) stored

  -- no result that is the same placement has a lesser label
  abbrev HasLeast : Placement → Type 0
  HasLeast p = (result : Placement) → IsResult query shape result → IsSame p result → p.label ≤ result.label

  pub IsListedTo-none : IsListedTo query shape grids 0 0 0 []
  IsListedTo-none = record {
    classes = All-nil (λ (s : StoredPlace). s.class < length grids);
    complete = λ result is earlier. absurd (nothing result earlier);
    sound = All-nil (IsResult query shape);
    earlier = All-nil (λ p. IsEarlier p 0 0 0);
    least = All-nil (λ p. (result : Placement) → IsResult query shape result → IsSame p result → p.label ≤ result.label);
    distinct = λ i j d less below. absurd (omega arith);
    ordered = λ i j d less below. absurd (omega arith);
  }
    where
      nothing : (p : Placement) → IsEarlier p 0 0 0 → ⊥
      nothing p (inl above) = omega arith
      nothing p (inr (row, inl left)) = omega arith
      nothing p (inr (row, inr (column, less))) = omega arith

  -- the same list, told of another place
  pub IsListedTo-move : (y x label y' x' label' : ℕ) (stored : List StoredPlace) → IsListedTo query shape grids y x label stored →
      ((result : Placement) → IsResult query shape result → IsEarlier result y' x' label' → IsEarlier result y x label) →
      ((p : Placement) → IsEarlier p y x label → IsEarlier p y' x' label') →
      IsListedTo query shape grids y' x' label' stored
  IsListedTo-move y x label y' x' label' stored listed back on = record {
    classes = listed.classes;
    complete = λ result is earlier. listed.complete result is (back result is earlier);
    sound = listed.sound;
    earlier = All-weaker (λ p. IsEarlier p y x label) (λ p. IsEarlier p y' x' label') on (all_of stored) listed.earlier;
    least = listed.least;
    distinct = listed.distinct;
    ordered = listed.ordered;
  }

  module _ (y x label : ℕ) (stored : List StoredPlace) (listed : IsListedTo query shape grids y x label stored) where
    -- each result at this place is listed already
    pub IsListedTo-skip : ((result : Placement) → IsResult query shape result → IsAt result y x label → Any (IsSame result) (map (placement_in grids) stored)) →
        IsListedTo query shape grids y x (label + 1) stored
    IsListedTo-skip there = record {
      classes = listed.classes;
      complete = λ result is earlier. elim (earlier_cases result y x label earlier) [ inl before ↦ listed.complete result is before | inr here ↦ there result is here ];
      sound = listed.sound;
      earlier = All-weaker (λ p. IsEarlier p y x label) (λ p. IsEarlier p y x (label + 1)) (λ p. earlier_more p y x label) (all_of stored) listed.earlier;
      least = listed.least;
      distinct = listed.distinct;
      ordered = listed.ordered;
    }

  -- the result at this place, which no lesser label gives, comes behind the others
  module _ (s : StoredPlace) (stored : List StoredPlace) (listed : IsListedTo query shape grids s.y s.x (number_of_label s.label) stored) where
    pub IsListedTo-push : s.class < length grids → IsResult query shape (placement_in grids s) →
        ((result : Placement) → IsResult query shape result → IsAt result s.y s.x (number_of_label s.label) → result.grid ≡ grid_at grids s.class) →
        ((result : Placement) → IsResult query shape result → IsSame (placement_in grids s) result → number_of_label s.label ≤ result.label) →
        IsListedTo query shape grids s.y s.x (number_of_label s.label + 1) (stored ++ s ∷ [])
    IsListedTo-push class result only least = record {
      classes = All-push (λ (t : StoredPlace). t.class < length grids) stored s listed.classes class;
      complete = λ r is earlier. over (Any (IsSame r))
          (elim (earlier_cases r s.y s.x (number_of_label s.label) earlier) [
            | inl before ↦ Any-kept (IsSame r) (all_of stored) (placement_in grids s) (listed.complete r is before)
            | inr here ↦ Any-push (IsSame r) (all_of stored) (placement_in grids s) (record { column = here.1; row = here.0; grid = only r is here })
          ]);
      sound = over (All (IsResult query shape)) (All-push (IsResult query shape) (all_of stored) (placement_in grids s) listed.sound result);
      earlier = over (All (λ q. IsEarlier q s.y s.x (number_of_label s.label + 1)))
          (All-push (λ q. IsEarlier q s.y s.x (number_of_label s.label + 1)) (all_of stored) (placement_in grids s)
          (All-weaker (λ q. IsEarlier q s.y s.x (number_of_label s.label)) (λ q. IsEarlier q s.y s.x (number_of_label s.label + 1)) (λ q. earlier_more q s.y s.x (number_of_label s.label)) (all_of stored) listed.earlier)
          (inr (refl, inr (refl, omega arith))));
      least = over (All HasLeast) (All-push HasLeast (all_of stored) (placement_in grids s) listed.least least);
      distinct = over (AllPairs (λ a b. ¬ IsSame a b)) (all_pairs_push (λ a b. ¬ IsSame a b) (all_of stored) (placement_in grids s) listed.distinct other);
      ordered = over (AllPairs IsBefore) (all_pairs_push IsBefore (all_of stored) (placement_in grids s) listed.ordered listed.earlier);
    }
      where
        over : (Q : List Placement → Type 0) → Q (all_of stored ++ (placement_in grids s) ∷ []) → Q (all_of (stored ++ s ∷ []))
        over Q = subst Q (sym (map_push (placement_in grids) stored s))

        other : (k : ℕ) (d : Placement) → k < length (all_of stored) → ¬ IsSame (get_or (all_of stored) k d) (placement_in grids s)
        other k d below same =
            let q : Placement = get_or (all_of stored) k d in
            let less : q.label < number_of_label s.label = earlier_label q s.y s.x (number_of_label s.label) (listed.earlier k d below) same.row same.column in
            let more : number_of_label s.label ≤ q.label = least q (listed.sound k d below) (record { column = sym same.column; row = sym same.row; grid = sym same.grid }) in
            omega arith
