use Rattle.std.proofs.Common.{◌≡◌, ◌↔◌}
use Rattle.std.specs.Prelude.{Contains}
use Rattle.capture_board.specs.Deltas.{AreDeltas, Deltas}
use Rattle.capture_index.specs.NodePositions.{positions_of}
use Rattle.pattern_occurrences.specs.declared.occurrence.Occurrence.{Occurrence}
use Rattle.run_matcher.specs.GoingOn.{occurrences_of}
use Rattle.run_matcher.specs.PlacementOccurrences.{IsOccurrenceBelow}
use Rattle.run_matcher.proofs.matching.match_runs.Given as goal

-- the placements so far
abbrev pub invariant-loop-number : goal.invariant-loop-number
invariant-loop-number l =
    (deltas : Deltas) → AreDeltas deltas → l.runs ≡ positions_of deltas → (o : Occurrence) → Contains (occurrences_of l.gathered) o ↔ IsOccurrenceBelow deltas l.ready.images.placements l.number o
