use Rattle.ready_images.specs.StoredCorners.{AreCornersTo}
use Rattle.ready_images.proofs.corners.add_corners.Given as goal

-- the corners so far
abbrev pub invariant-loop-corner : goal.invariant-loop-corner
invariant-loop-corner l = AreCornersTo l.images l.i l.corner l.corners.items
