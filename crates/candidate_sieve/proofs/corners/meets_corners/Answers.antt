use Rattle.std.proofs.Common.{below_more}
use Rattle.candidate_sieve.proofs.corners.meets_corners.Goals as goal

pub loop-corner-preserved : goal.loop-corner-preserved
loop-corner-preserved c deltas same are =
    below_more _ _ (c.loop-corner.invariant deltas same are) ((c.meets_corner.ensures deltas same are).0 c.if-not-meets_corner.false)
