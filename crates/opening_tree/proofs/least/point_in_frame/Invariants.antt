use Rattle.kb_geometry.specs.Capture.{Position}
use Rattle.opening_tree.specs.Least.{AreBringing, IsLeastTo}
use Rattle.opening_tree.proofs.least.point_in_frame.Given as goal

abbrev pub invariant-loop-number : goal.invariant-loop-number
invariant-loop-number l =
    (position canonical : Position) →
    AreBringing l.shape position canonical l.all →
    IsLeastTo l.shape position canonical l.point l.number l.found
