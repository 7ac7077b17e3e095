use Rattle.std.proofs.Common.{◌≡◌, take}
use Rattle.kb_geometry.specs.Capture.{Position}
use Rattle.game_tree.specs.Position.{set_up_all}
use Rattle.capture_board.specs.Changes.{LeadFrom}
use Rattle.node_position.proofs.building.set_up.Given as goal

abbrev pub invariant-loop-setup : goal.invariant-loop-setup
invariant-loop-setup l = record {
  shape : l.board.shape ≡ l.fn.board.shape;
  position : l.board.position ≡ set_up_all l.fn.board.shape l.fn.board.position (take l.setup-index l.setups);
  changes : (base : Position) → LeadFrom base l.fn.changes l.fn.board.position → LeadFrom base l.changes l.board.position;
}
