-- Whether some placement of a list is kept.
use Rattle.std.proofs.Common.{ℕ, ◌<◌, ◌≤◌, List, length, sym, ◌∙◌, subst, arith}
use Rattle.std.proofs.lemmas.List.{get_or_default}
use Rattle.capture_board.specs.Deltas.{Deltas}
use Rattle.pattern_images.specs.ImageList.{no_placement, placement_at}
use Rattle.pattern_images.specs.Placements.{Placement}
use Rattle.candidate_sieve.specs.Kept.{IsKept, IsKeptBy}

module _ (deltas : Deltas) (placements : List Placement) where
  pub kept-by : (i : ℕ) → i < length placements → IsKeptBy deltas (placement_at placements i) → IsKept deltas placements
  kept-by i lt kept = (i, placement_at placements i, lt, get_or_default placements i (placement_at placements i) no_placement lt, kept)

  pub kept-at : IsKept deltas placements → (i : ℕ) × (i < length placements) × IsKeptBy deltas (placement_at placements i)
  kept-at (i, p, lt, is, kept) = (i, lt, subst (IsKeptBy deltas) (sym (get_or_default placements i no_placement p lt ∙ is)) kept)

  pub not-kept : (count : ℕ) → length placements ≤ count → ((i : ℕ) → i < count → IsKeptBy deltas (placement_at placements i) → ⊥) → IsKept deltas placements → ⊥
  not-kept count all none kept =
      let at = kept-at kept in
      none at.0 (omega (arith, at.1, all)) at.2
