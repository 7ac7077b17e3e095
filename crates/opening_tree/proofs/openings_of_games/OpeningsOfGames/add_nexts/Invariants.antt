use Rattle.std.proofs.Common.{◌≡◌, List}
use Rattle.kb_geometry.specs.Capture.{Position}
use Rattle.game_tree.specs.Position.{ArePositions}
use Rattle.opening_tree.specs.Entries.{Entry}
use Rattle.opening_tree.specs.GoneThrough.{AreNextsGone}
use Rattle.opening_tree.specs.NextMoves.{NextAt}
use Rattle.opening_tree.proofs.openings_of_games.OpeningsOfGames.add_nexts.Given as goal

abbrev pub invariant-loop-n : goal.invariant-loop-n
invariant-loop-n l = record {
  asked : l.self.asked ≡ l.fn.self.asked;
  width : l.self.openings.width ≡ l.fn.self.openings.width;
  walker : l.self.walker ≡ l.fn.self.walker;
  frames : l.self.frames ≡ l.fn.self.frames;
  gone : (positions : List Position) → ArePositions l.game.tree positions → (es : List Entry) (ns : List NextAt) →
      AreNextsGone l.fn.self.asked.depth l.game.tree positions 0 es ns l.fn.self.openings.entries l.fn.self.frames.items →
      AreNextsGone l.fn.self.asked.depth l.game.tree positions l.n es ns l.self.openings.entries l.fn.self.frames.items;
}
