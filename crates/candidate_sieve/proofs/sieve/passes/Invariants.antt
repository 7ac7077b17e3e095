use Rattle.std.proofs.Common.{◌≡◌, ℕ, ◌<◌}
use Rattle.capture_board.specs.Deltas.{Deltas, node_count}
use Rattle.pattern_images.specs.ImageList.{placement_at}
use Rattle.final_index.specs.Ever.{AreSetsOf}
use Rattle.corner_index.specs.Corners.{AreNumbersOfGame}
use Rattle.candidate_sieve.specs.Kept.{IsKeptBy}
use Rattle.candidate_sieve.proofs.sieve.passes.Given as goal

-- none of the placements so far is kept
abbrev pub invariant-loop-i : goal.invariant-loop-i
invariant-loop-i l = (deltas : Deltas) → 0 < node_count deltas → deltas.shape ≡ l.images.shape → AreSetsOf deltas l.ever → AreNumbersOfGame deltas l.corners → (i : ℕ) → i < l.i → IsKeptBy deltas (placement_at l.images.placements i) → ⊥
