use Rattle.std.proofs.Common.{length}
use Rattle.segment_store.proofs.game_corners.+corner_index_of.Given as goal

abbrev pub decreases-corner_index_of : goal.decreases-corner_index_of
decreases-corner_index_of l = length l.games.now
