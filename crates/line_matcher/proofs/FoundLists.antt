-- What was found so far, and the occurrences among the first placements.
use Prim.Native.Nat.{zero}
use Rattle.std.proofs.Common.{◌≡◌, ℕ, ◌+◌, ◌-◌, ◌<◌, ◌≤◌, suc, Bool, true, false, cond, List, [], ◌∷◌, ◌++◌, map, filter, refl, sym, ap, ◌∙◌, arith, append_assoc}
use Rattle.std.specs.List.{range_with_len}
use Rattle.std.proofs.lemmas.List.{append-nil, map-append, map-id}
use Rattle.std.proofs.lemmas.List.FromFn.{map-range_with_len_more}
use Rattle.std.proofs.lemmas.List.Elements.{filter-append, filter_agree}
use Rattle.pattern_images.specs.ImageList.{placement_at}
use Rattle.pattern_images.specs.Placements.{Placement}
use Rattle.pattern_occurrences.specs.declared.occurrence.Occurrence.{Occurrence}
use Rattle.line_matcher.specs.Begins.{AreOccurrencesAdded, occurrences_below}

-- ---- numbers up to a bound that pass a test
pub range_more : (a n : ℕ) → range_with_len a (n + 1) ≡ range_with_len a n ++ (a + n) ∷ []
range_more a n =
    sym (map-id (range_with_len a (n + 1))) ∙ map-range_with_len_more (λ (i : ℕ). i) a n (a + n) refl ∙ ap (λ (is : List ℕ). is ++ (a + n) ∷ []) (map-id (range_with_len a n))

module _ (placements : List Placement) (test : Placement → Bool) (node : ℕ) where
  abbrev passes : ℕ → Bool
  passes i = test (placement_at placements i)

  abbrev at_node : ℕ → Occurrence
  at_node i = record { node = node; placement = i }

  more : (k : ℕ) → occurrences_below placements test node (k + 1) ≡ occurrences_below placements test node k ++ map at_node (filter passes (k ∷ []))
  more k =
      ap (λ (is : List ℕ). map at_node (filter passes is)) (range_more 0 k ∙ ap (λ (i : ℕ). range_with_len 0 k ++ i ∷ []) (omega arith))
      ∙ ap (map at_node) (filter-append passes (range_with_len 0 k) (k ∷ []))
      ∙ map-append at_node (filter passes (range_with_len 0 k)) (filter passes (k ∷ []))

  -- one more that passes
  pub occurrences_below-push : (k : ℕ) → passes k ≡ true → occurrences_below placements test node (k + 1) ≡ occurrences_below placements test node k ++ at_node k ∷ []
  occurrences_below-push k t = more k ∙ ap (λ (b : Bool). occurrences_below placements test node k ++ map at_node (cond b (k ∷ []) [])) t

  -- one more that doesn't pass
  pub occurrences_below-pass : (k : ℕ) → passes k ≡ false → occurrences_below placements test node (k + 1) ≡ occurrences_below placements test node k
  occurrences_below-pass k f = more k ∙ ap (λ (b : Bool). occurrences_below placements test node k ++ map at_node (cond b (k ∷ []) [])) f ∙ append-nil (occurrences_below placements test node k)

  pass_by : (k n : ℕ) → ((i : ℕ) → k ≤ i → i < k + n → passes i ≡ false) → occurrences_below placements test node (k + n) ≡ occurrences_below placements test node k
  pass_by k zero none = ap (occurrences_below placements test node) (omega arith)
  pass_by k (suc n) none =
      let step : k + suc n ≡ k + n + 1 = omega arith in
      ap (occurrences_below placements test node) step
      ∙ occurrences_below-pass (k + n) (none (k + n) (omega arith) (omega arith))
      ∙ pass_by k n (λ i low high. none i low (omega arith))

  -- many that don't pass
  pub occurrences_below-skip : (k m : ℕ) → k ≤ m → ((i : ℕ) → k ≤ i → i < m → passes i ≡ false) → occurrences_below placements test node m ≡ occurrences_below placements test node k
  occurrences_below-skip k m le none =
      let e : m ≡ k + (m - k) = omega arith in
      ap (occurrences_below placements test node) e ∙ pass_by k (m - k) (λ i low high. none i low (omega arith))

-- ---- what was found
module _ (placements : List Placement) (test : Placement → Bool) (node : ℕ) where
  pub IsAdded-skip : (from to : ℕ) (found : List Occurrence) → from ≤ to → ((i : ℕ) → from ≤ i → i < to → test (placement_at placements i) ≡ false) → AreOccurrencesAdded placements test node from to found found
  IsAdded-skip from to found le none = record {
    grown = λ before is. is ∙ ap (λ (os : List Occurrence). before ++ os) (sym (occurrences_below-skip placements test node from to le none));
  }

  pub IsAdded-same : (from to : ℕ) (found : List Occurrence) → from ≡ to → AreOccurrencesAdded placements test node from to found found
  IsAdded-same from to found e = IsAdded-skip from to found (omega arith) (λ i low high. absurd (omega arith))

  pub IsAdded-trans : {from mid to : ℕ} {old between new : List Occurrence} → AreOccurrencesAdded placements test node from mid old between → AreOccurrencesAdded placements test node mid to between new → AreOccurrencesAdded placements test node from to old new
  IsAdded-trans one two = record { grown = λ before is. two.grown before (one.grown before is) }

  pub IsAdded-push : (i : ℕ) (old new : List Occurrence) → test (placement_at placements i) ≡ true → new ≡ old ++ record { node = node; placement = i } ∷ [] → AreOccurrencesAdded placements test node i (i + 1) old new
  IsAdded-push i old new t pushed = record {
    grown = λ before is.
        let o : Occurrence = record { node = node; placement = i } in
        let os = occurrences_below placements test node i in
        pushed
        ∙ ap (λ (found : List Occurrence). found ++ o ∷ []) is
        ∙ append_assoc before os (o ∷ [])
        ∙ ap (λ (ps : List Occurrence). before ++ ps) (sym (occurrences_below-push placements test node i t));
  }

  pub IsAdded-pass : (i : ℕ) (found : List Occurrence) → test (placement_at placements i) ≡ false → AreOccurrencesAdded placements test node i (i + 1) found found
  IsAdded-pass i found f = record {
    grown = λ before is. is ∙ ap (λ (os : List Occurrence). before ++ os) (sym (occurrences_below-pass placements test node i f));
  }

-- two tests that agree at each placement
pub occurrences_below-agree : (placements : List Placement) (test other : Placement → Bool) (node k : ℕ) → ((i : ℕ) → test (placement_at placements i) ≡ other (placement_at placements i)) →
    occurrences_below placements test node k ≡ occurrences_below placements other node k
occurrences_below-agree placements test other node k agree =
    ap (map (λ (i : ℕ). let o : Occurrence = record { node = node; placement = i } in o))
    (filter_agree (λ (i : ℕ). test (placement_at placements i)) (λ (i : ℕ). other (placement_at placements i)) agree (range_with_len 0 k))
