use Rattle.std.proofs.Common.{◌≡◌}
use Rattle.kb_geometry.specs.Capture.{Position}
use Rattle.capture_board.specs.Changes.{LeadFrom}
use Rattle.board_cases.proofs.board_steps.board.Given as goal

abbrev pub invariant-loop-words : goal.invariant-loop-words
invariant-loop-words l = record {
  shape : l.board.shape ≡ l.shape;
  leads : (base : Position) × LeadFrom base l.changes l.board.position;
}
