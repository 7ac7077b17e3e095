use Rattle.kb_geometry.specs.Board.{IsOrderedRectOnBoard}
use Rattle.line_matcher.proofs.ChangedPoints.{HoldsBelow}
use Rattle.line_matcher.proofs.changed.bounds.Given as goal

-- the rectangle holds the points of the changes so far
abbrev pub invariant-loop-change : goal.invariant-loop-change
invariant-loop-change l = IsOrderedRectOnBoard l.shape l.rect × HoldsBelow l.shape l.changes l.change-index l.rect
