use Rattle.std.proofs.Common.{◌↔◌, ℕ, Contains}
use Rattle.kb_geometry.specs.declared.stone.Cell.TheVariants as stone
use Rattle.line_matcher.proofs.ChangedPoints.{ConcernsBelow}
use Rattle.line_matcher.proofs.changed.Concerned.fill.Given as goal

-- the points of the changes so far
abbrev pub invariant-loop-change : goal.invariant-loop-change
invariant-loop-change l = record {
  black : (p : ℕ) → Contains l.self.black p ↔ ConcernsBelow stone.Black l.changes l.change-index p;
  white : (p : ℕ) → Contains l.self.white p ↔ ConcernsBelow stone.White l.changes l.change-index p;
}
