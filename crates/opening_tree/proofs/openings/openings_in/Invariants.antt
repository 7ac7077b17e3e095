use Rattle.std.proofs.Common.{◌≡◌, map, take}
use Rattle.kb_geometry.specs.Board.{point_count}
use Rattle.opening_tree.specs.Packing.{words_for}
use Rattle.opening_tree.specs.StoredGames.{AreOpeningsOf}
use Rattle.opening_tree.proofs.openings.openings_in.Given as goal

abbrev pub invariant-loop-at : goal.invariant-loop-at
invariant-loop-at l = record {
  kept : AreOpeningsOf l.first l.openings.asked.shape l.openings.asked.depth (map (λ g. g.now) (take l.at l.games)) l.openings.openings.entries;
  asked : l.openings.asked ≡ l.fn.asked;
  board : l.openings.walker.shape ≡ l.openings.asked.shape;
  width : l.openings.openings.width ≡ words_for (point_count l.openings.asked.shape);
}
