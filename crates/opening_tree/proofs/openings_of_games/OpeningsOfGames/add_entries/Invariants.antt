use Rattle.std.proofs.Common.{◌≡◌, List}
use Rattle.kb_geometry.specs.Capture.{Position}
use Rattle.game_tree.specs.Position.{ArePositions}
use Rattle.capture_board.specs.Walking.{node_before}
use Rattle.opening_tree.specs.Entries.{Entry}
use Rattle.opening_tree.specs.GoneThrough.{IsGoneTo, IsReadyForGame}
use Rattle.opening_tree.specs.NextMoves.{NextAt}
use Rattle.opening_tree.specs.Turned.{StandsTurned}
use Rattle.opening_tree.proofs.openings_of_games.OpeningsOfGames.add_entries.Given as goal

abbrev pub invariant-loop-node : goal.invariant-loop-node
invariant-loop-node l = record {
  stands : StandsTurned l.deltas l.self.walker;
  here : l.self.walker.here ≡ node_before l.node;
  asked : l.self.asked ≡ l.fn.self.asked;
  board : l.self.walker.shape ≡ l.fn.game.tree.shape;
  width : l.self.openings.width ≡ l.fn.self.openings.width;
  gone : (positions : List Position) → ArePositions l.tree positions → (es : List Entry) (ns : List NextAt) →
      IsReadyForGame l.tree.shape es ns l.fn.self.openings.entries →
      IsGoneTo l.fn.self.asked.depth l.number l.tree positions l.node es ns l.self.openings.entries l.self.frames.items;
}
