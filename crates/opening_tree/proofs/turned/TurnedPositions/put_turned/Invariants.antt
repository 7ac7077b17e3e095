use Rattle.std.proofs.Common.{◌≡◌, length}
use Rattle.kb_geometry.specs.Board.{point_count}
use Rattle.kb_geometry.specs.Capture.{Position}
use Rattle.opening_tree.specs.Frames.{AreImages}
use Rattle.opening_tree.proofs.TurnedSteps.{ArePutTo}
use Rattle.opening_tree.proofs.turned.TurnedPositions.put_turned.Given as goal

abbrev pub invariant-loop-number : goal.invariant-loop-number
invariant-loop-number l = record {
  shape : l.self.shape ≡ l.fn.self.shape;
  put : (position : Position) → length position ≡ point_count l.fn.self.shape → AreImages l.fn.self.shape position l.fn.self.images → ArePutTo l.fn.self.shape position l.point l.cell l.number l.self.images;
}
