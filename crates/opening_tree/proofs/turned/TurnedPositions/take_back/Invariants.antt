use Rattle.std.proofs.Common.{◌≡◌, length, take}
use Rattle.kb_geometry.specs.Board.{point_count}
use Rattle.kb_geometry.specs.Capture.{Position}
use Rattle.capture_board.specs.StoredWalking.{with_old_cells}
use Rattle.opening_tree.specs.Frames.{AreImages}
use Rattle.opening_tree.proofs.turned.TurnedPositions.take_back.Given as goal

abbrev pub invariant-loop-change : goal.invariant-loop-change
invariant-loop-change l = record {
  shape : l.self.shape ≡ l.fn.self.shape;
  images : (position : Position) → length position ≡ point_count l.fn.self.shape → AreImages l.fn.self.shape position l.fn.self.images → AreImages l.fn.self.shape (with_old_cells position (take l.change-index l.changes)) l.self.images;
}
