use Rattle.ready_images.specs.StoredCorners.{AreCornersTo}
use Rattle.ready_images.proofs.corners.corners_of.Given as goal

-- the placements so far
abbrev pub invariant-loop-i : goal.invariant-loop-i
invariant-loop-i l = AreCornersTo l.images l.i 0 l.corners.items
