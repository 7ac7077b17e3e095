-- What is known of each occurrence in a game: its node and its placement are there, and the placement holds at the node.
use Rattle.std.proofs.Common.{◌≡◌, ℕ, ◌<◌, Bool, true, false, List, [], ◌∷◌, length, get_or, refl, arith}
use Rattle.std.specs.Prelude.{not, filter, All}
use Rattle.std.specs.List.{range_with_len}
use Rattle.std.specs.Option.{option_map_or}
use Rattle.std.proofs.lemmas.Bool.{and_parts}
use Rattle.std.proofs.lemmas.List.Elements.{All-filter, All-head, All-map, filter_passes}
use Rattle.kb_geometry.proofs.Lists.{All-flat_map, all_less}
use Rattle.capture_board.specs.Deltas.{Deltas, node_count, parent_of}
use Rattle.pattern_images.specs.ImageList.{placement_at}
use Rattle.pattern_images.specs.Placements.{Placement}
use Rattle.pattern_occurrences.specs.declared.occurrence.Occurrence.{Occurrence}
use Rattle.pattern_occurrences.specs.Occurrences.{HoldsAt, begins_at, holds_at, occurrences_at, occurrences_in}
use Rattle.pattern_occurrences.proofs.HoldsLaw.{holds-decides}
use Rattle.capture_board.specs.Deltas.{position_at}

module _ (changes : Deltas) (placements : List Placement) where
  -- the node and the placement are there, and the placement holds at the node
  pub record IsThere (o : Occurrence) : Type 0 where
    pub node : o.node < node_count changes
    pub placement : o.placement < length placements
    pub holds : HoldsAt changes (placement_at placements o.placement) o.node

  abbrev begins : ℕ → ℕ → Type 0
  begins n i = begins_at changes (placement_at placements i) n ≡ true

  there : (n i : ℕ) → n < node_count changes → i < length placements → begins n i → IsThere (record { node = n; placement = i })
  there n i in_range placement t =
      let placed = placement_at placements i in
      let parts = and_parts (holds_at changes placed n) (not (option_map_or (holds_at changes placed) (parent_of changes n) false)) t in
      record {
        node = in_range;
        placement = placement;
        holds = (holds-decides changes.shape (position_at changes n) placed).0 parts.0;
      }

  there_at : (n : ℕ) → n < node_count changes → All IsThere (occurrences_at changes placements n)
  there_at n in_range =
      let test : ℕ → Bool = λ i. begins_at changes (placement_at placements i) n in
      let kept = filter test (range_with_len 0 (length placements)) in
      let passed = filter_passes test (range_with_len 0 (length placements)) in
      let less = All-filter test (λ i. i < length placements) (range_with_len 0 (length placements)) (all_less (length placements)) in
      All-map IsThere (λ i. record { node = n; placement = i }) kept (λ k d lt. there n (get_or kept k d) in_range (less k d lt) (passed k d lt))

  pub occurrences_are_there : All IsThere (occurrences_in changes placements)
  occurrences_are_there =
      All-flat_map IsThere (occurrences_at changes placements) (range_with_len 0 (node_count changes))
      (λ k d lt. there_at (get_or (range_with_len 0 (node_count changes)) k d) (all_less (node_count changes) k d lt))

  -- with no placement there is no occurrence
  pub no_occurrences : length placements ≡ 0 → occurrences_in changes placements ≡ []
  no_occurrences none = nowhere (occurrences_in changes placements) occurrences_are_there
    where
      nowhere : (os : List Occurrence) → All IsThere os → os ≡ []
      nowhere [] all = refl
      nowhere (o ∷ os) all = let first = All-head IsThere o os all in absurd (omega (arith, first.placement))
