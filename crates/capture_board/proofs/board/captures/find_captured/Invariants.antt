use Rattle.std.proofs.Common.{◌≡◌, ℕ, ◌↔◌, [], Some}
use Rattle.std.specs.Prelude.{Contains}
use Rattle.kb_geometry.specs.Board.{AreNeighbours}
use Rattle.capture_board.specs.WholeGroups.{HasWholeGroups}
use Rattle.capture_board.proofs.Captures.{IsTaken}
use Rattle.capture_board.proofs.board.captures.find_captured.Given as goal

abbrev pub invariant-loop-next : goal.invariant-loop-next
invariant-loop-next l = record {
  no_group : l.sets.group ≡ [];
  whole_groups : HasWholeGroups l.shape l.cells l.sets.captured;
  taken : (point : ℕ) → ((n : ℕ) → Contains l.around (Some n) ↔ AreNeighbours l.shape point n) → IsTaken l.shape l.cells l.fn.side point l.around l.sets.captured l.next-index;
}
