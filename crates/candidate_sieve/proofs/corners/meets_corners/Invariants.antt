use Rattle.std.proofs.Common.{◌≡◌, ℕ, ◌<◌}
use Rattle.capture_board.specs.Deltas.{Deltas}
use Rattle.pattern_images.specs.ImageList.{placement_at}
use Rattle.corner_index.specs.Corners.{AreNumbersOfGame}
use Rattle.candidate_sieve.specs.Kept.{HadIfCovered}
use Rattle.candidate_sieve.proofs.corners.meets_corners.Given as goal

-- the corners so far had their cells in each game with these numbers
abbrev pub invariant-loop-corner : goal.invariant-loop-corner
invariant-loop-corner l = (deltas : Deltas) → deltas.shape ≡ l.images.shape → AreNumbersOfGame deltas l.corners → (corner : ℕ) → corner < l.corner → HadIfCovered deltas (placement_at l.images.placements l.i) corner
