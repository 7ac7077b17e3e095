use Rattle.std.proofs.Common.{length}
use Rattle.corner_index.proofs.corner_index.CornerIndex.+of.Given as goal

abbrev pub decreases-of : goal.decreases-of
decreases-of l = length l.games.now
