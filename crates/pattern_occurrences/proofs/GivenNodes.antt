-- Where each node with an occurrence is given, the occurrences at the given nodes are all.
use Rattle.std.proofs.Common.{◌≡◌, ℕ, Bool, true, cond, List, [], ◌∷◌, filter, refl, ap, ◌∙◌, Contains}
use Rattle.std.specs.Prelude.{All}
use Rattle.std.specs.Cmp.{nat_eq_equiv}
use Rattle.std.proofs.lemmas.List.Elements.{All-head, All-tail, All-weaker}
use Rattle.std.proofs.lemmas.Map.Views.{list_any-from_Contains}
use Rattle.capture_board.specs.Deltas.{Deltas}
use Rattle.pattern_images.specs.Placements.{Placement}
use Rattle.pattern_occurrences.specs.declared.occurrence.Occurrence.{Occurrence}
use Rattle.pattern_occurrences.specs.Occurrences.{Occurs, is_at_one_of, occurrences_at_nodes, occurrences_in}
use Rattle.pattern_occurrences.proofs.OccurrenceLaw.{all_occur}

-- a test that all pass
module _ {X : Type 0} (p : X → Bool) where
  pub filter-all : (xs : List X) → All (λ x. p x ≡ true) xs → filter p xs ≡ xs
  filter-all [] all = refl
  filter-all (x ∷ xs) all =
      ap (λ (b : Bool). cond b (x ∷ filter p xs) (filter p xs)) (All-head (λ y. p y ≡ true) x xs all)
      ∙ ap (λ (ys : List X). x ∷ ys) (filter-all xs (All-tail (λ y. p y ≡ true) x xs all))

module _ (deltas : Deltas) (placements : List Placement) (given : List ℕ) where
  -- where each node with an occurrence is given, nothing is left out
  pub all_at_nodes : ((o : Occurrence) → Occurs deltas placements o → Contains given o.node) → occurrences_at_nodes deltas placements given ≡ occurrences_in deltas placements
  all_at_nodes each =
      filter-all (is_at_one_of given) (occurrences_in deltas placements)
      (All-weaker (Occurs deltas placements) (λ (o : Occurrence). is_at_one_of given o ≡ true)
      (λ o is. list_any-from_Contains nat_eq_equiv o.node given (each o is)) (occurrences_in deltas placements) (all_occur deltas placements))
