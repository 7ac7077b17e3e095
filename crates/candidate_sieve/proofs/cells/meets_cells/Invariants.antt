use Rattle.std.proofs.Common.{ℕ, ◌<◌}
use Rattle.pattern_images.specs.ImageList.{placement_at}
use Rattle.candidate_sieve.proofs.CellsTold.{MeetsRowOf}
use Rattle.candidate_sieve.proofs.cells.meets_cells.Given as goal

-- the rows so far are met
abbrev pub invariant-loop-dy : goal.invariant-loop-dy
invariant-loop-dy l = (dy : ℕ) → dy < l.dy → MeetsRowOf l.images.shape l.ever (placement_at l.images.placements l.i) dy
