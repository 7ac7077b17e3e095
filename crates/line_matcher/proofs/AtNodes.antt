-- The occurrences at given nodes, gathered node by node in order of the text.
use Prim.Native.Nat.{zero}
use Rattle.std.proofs.Common.{◌≡◌, ℕ, ◌+◌, ◌-◌, ◌<◌, ◌≤◌, suc, inl, inr, Bool, true, false, cond, nat_eq, List, [], ◌∷◌, ◌++◌, length, slice_index, filter, refl, sym, ap, ◌∙◌, arith, subst, append_assoc, Contains}
use Rattle.std.specs.Prelude.{All}
use Rattle.std.specs.Cmp.{nat_eq_equiv}
use Rattle.std.specs.List.{flat_map, list_any, range_with_len}
use Rattle.std.specs.List.Sorted.{IsStrictlyIncreasing}
use Rattle.std.proofs.lemmas.Bool.{cases_lt, false_from_ne_true}
use Rattle.std.proofs.lemmas.List.{append-nil, flat_map_more, get_or_default}
use Rattle.std.proofs.lemmas.List.Elements.{All-head, All-tail, All-filter, filter-append}
use Rattle.std.proofs.lemmas.List.Kept.{AllPairs-from_increasing}
use Rattle.std.proofs.lemmas.Map.Views.{Contains-from_any, list_any-from_Contains, exact_unsigned_eq}
use Rattle.capture_board.specs.Deltas.{Deltas}
use Rattle.pattern_images.specs.Placements.{Placement}
use Rattle.pattern_occurrences.specs.declared.occurrence.Occurrence.{Occurrence}
use Rattle.pattern_occurrences.specs.Occurrences.{is_at_one_of, occurrences_at, occurrences_at_nodes, occurrences_in}
use Rattle.pattern_occurrences.proofs.GivenNodes.{filter-all}
use Rattle.pattern_occurrences.proofs.OccurrenceLaw.{at_node, placements_are_there}
use Rattle.line_matcher.specs.Nodes.{IsFoundAmong, IsFoundAtNode}
use Rattle.line_matcher.proofs.FoundLists.{range_more}

-- ---- a test that none passes
module _ {X : Type 0} (p : X → Bool) where
  filter-none : (xs : List X) → All (λ x. p x ≡ false) xs → filter p xs ≡ []
  filter-none [] none = refl
  filter-none (x ∷ xs) none =
      ap (λ (b : Bool). cond b (x ∷ filter p xs) (filter p xs)) (All-head (λ y. p y ≡ false) x xs none)
      ∙ filter-none xs (All-tail (λ y. p y ≡ false) x xs none)

-- ---- the occurrences at the given nodes
module _ (deltas : Deltas) (placements : List Placement) (given : List ℕ) where
  -- each placement is there
  pub placements_at_nodes : All (λ (o : Occurrence). o.placement < length placements) (occurrences_at_nodes deltas placements given)
  placements_at_nodes = All-filter (is_at_one_of given) (λ (o : Occurrence). o.placement < length placements) (occurrences_in deltas placements) (placements_are_there deltas placements)

  -- ---- at the first nodes of the game
  abbrev at : ℕ → List Occurrence
  at = occurrences_at deltas placements

  abbrev among : ℕ → List Occurrence
  among n = filter (is_at_one_of given) (flat_map at (range_with_len 0 n))

  among-more : (n : ℕ) → among (n + 1) ≡ among n ++ filter (is_at_one_of given) (at n)
  among-more n =
      let step : flat_map at (range_with_len 0 (n + 1)) ≡ flat_map at (range_with_len 0 n) ++ at n =
      ap (flat_map at) (range_more 0 n ∙ ap (λ (i : ℕ). range_with_len 0 n ++ i ∷ []) (omega arith)) ∙ sym (flat_map_more at [] (range_with_len 0 n) n) in
      ap (filter (is_at_one_of given)) step ∙ filter-append (is_at_one_of given) (flat_map at (range_with_len 0 n)) (at n)

  all_given : (n : ℕ) → Contains given n → filter (is_at_one_of given) (at n) ≡ at n
  all_given n there =
      filter-all (is_at_one_of given) (at n)
      (λ k d lt. subst (λ (m : ℕ). list_any (nat_eq m) given ≡ true) (sym (at_node deltas placements n k d lt)) (list_any-from_Contains nat_eq_equiv n given there))

  none_given : (n : ℕ) → (Contains given n → ⊥) → filter (is_at_one_of given) (at n) ≡ []
  none_given n not =
      filter-none (is_at_one_of given) (at n)
      (λ k d lt. subst (λ (m : ℕ). list_any (nat_eq m) given ≡ false) (sym (at_node deltas placements n k d lt))
      (false_from_ne_true (list_any (nat_eq n) given) (λ t. not (Contains-from_any exact_unsigned_eq n given t))))

  among-skip : (n k : ℕ) → ((i : ℕ) → n ≤ i → i < n + k → Contains given i → ⊥) → among (n + k) ≡ among n
  among-skip n zero none = ap among (omega arith)
  among-skip n (suc k) none =
      let step : n + suc k ≡ n + k + 1 = omega arith in
      ap among step
      ∙ among-more (n + k)
      ∙ ap (λ (os : List Occurrence). among (n + k) ++ os) (none_given (n + k) (none (n + k) (omega arith) (omega arith)))
      ∙ append-nil (among (n + k))
      ∙ among-skip n k (λ i low high. none i low (omega arith))

  pub IsFoundAmong-start : (found : List Occurrence) → IsFoundAmong deltas placements given 0 found found
  IsFoundAmong-start found = sym (append-nil found)

  -- no node from the one to the other is given
  pub IsFoundAmong-skip : (n m : ℕ) (old new : List Occurrence) → n ≤ m → ((i : ℕ) → n ≤ i → i < m → Contains given i → ⊥) → IsFoundAmong deltas placements given n old new → IsFoundAmong deltas placements given m old new
  IsFoundAmong-skip n m old new le none found =
      let e : n + (m - n) ≡ m = omega arith in
      found ∙ ap (λ (os : List Occurrence). old ++ os) (sym (among-skip n (m - n) (λ i low high. none i low (omega arith))) ∙ ap among e)

  -- the next node is given
  pub IsFoundAmong-more : (n : ℕ) (old between new : List Occurrence) → Contains given n → IsFoundAmong deltas placements given n old between → IsFoundAtNode deltas placements n between new → IsFoundAmong deltas placements given (n + 1) old new
  IsFoundAmong-more n old between new there found here =
      here
      ∙ ap (λ (os : List Occurrence). os ++ at n) found
      ∙ append_assoc old (among n) (at n)
      ∙ ap (λ (os : List Occurrence). old ++ os) (sym (among-more n ∙ ap (λ (os : List Occurrence). among n ++ os) (all_given n there)))

-- ---- which of the given nodes were passed

-- so many of the given nodes are among the nodes that were entered, and the others aren't
pub record IsEnteredTo (given : List ℕ) (count entered : ℕ) : Type 0 where
  pub passed : (k : ℕ) → k < count → slice_index given k < entered
  pub ahead : (k : ℕ) → count ≤ k → k < length given → entered ≤ slice_index given k

pub IsEnteredTo-start : (given : List ℕ) → IsEnteredTo given 0 0
IsEnteredTo-start given = record { passed = λ k lt. absurd (omega arith); ahead = λ k low lt. omega arith }

module _ (given : List ℕ) (ascends : IsStrictlyIncreasing given) (count entered : ℕ) (so_far : IsEnteredTo given count entered) where
  -- those behind the next one are greater
  behind : (k : ℕ) → count < k → k < length given → slice_index given count < slice_index given k
  behind k later lt = AllPairs-from_increasing given ascends count k 0 later lt

  pub IsEnteredTo-more : count < length given → IsEnteredTo given (count + 1) (slice_index given count + 1)
  IsEnteredTo-more there = record {
    passed = λ k lt. elim (cases_lt k count) [
      | inl before ↦ omega (arith, so_far.passed k before, so_far.ahead count (omega arith) there)
      | inr from ↦
          let here : count ≡ k = omega arith in
          omega (arith, ap (λ (i : ℕ). slice_index given i) here)
    ];
    ahead = λ k low lt. omega (arith, behind k (omega arith) lt);
  }

  -- none of the given nodes stands between those that were entered and the next one
  pub none_between : (i : ℕ) → entered ≤ i → (count < length given → i < slice_index given count) → Contains given i → ⊥
  none_between i low next (k, lt, is) =
      let at : slice_index given k ≡ i = get_or_default given k 0 i lt ∙ is in
      elim (cases_lt k count) [
        | inl before ↦ omega (arith, at, so_far.passed k before)
        | inr from ↦ elim (cases_lt count k) [
          | inl later ↦ omega (arith, at, behind k later lt, next (omega arith))
          | inr last ↦
              let here : count ≡ k = omega arith in
              omega (arith, at, ap (λ (j : ℕ). slice_index given j) here, next (omega arith))
        ]
      ]
