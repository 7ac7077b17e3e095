use Rattle.std.proofs.Common.{◌≡◌, ◌*◌, length, map, take}
use Rattle.kb_geometry.specs.Board.{point_count}
use Rattle.opening_tree.specs.Packing.{words_for}
use Rattle.opening_tree.specs.StoredGames.{AreOpeningsOf}
use Rattle.opening_tree.proofs.pieces.openings_of_pieces.Given as goal

abbrev pub invariant-loop-piece : goal.invariant-loop-piece
invariant-loop-piece g l = record {
  kept : AreOpeningsOf 0 l.fn.asked.shape l.fn.asked.depth (map (λ x. x.now) (take (length l.yielded * l.size) l.games)) l.openings.entries;
  width : l.openings.width ≡ words_for (point_count l.fn.asked.shape);
}
