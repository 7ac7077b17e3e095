use Rattle.candidate_sieve.proofs.CellsTold.{meets-were, were-meets}
use Rattle.candidate_sieve.proofs.laws.a_placement_is_kept_by_its_cells_and_corners.Goals as goal

pub returns : goal.returns
returns c deltas sets placement some are placed = (
  λ kept. (were-meets deltas sets are placement placed kept.cells, kept.corners),
  λ h. record { cells = meets-were deltas sets are placement some h.0; corners = h.1 },
)
