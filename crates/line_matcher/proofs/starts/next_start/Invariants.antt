use Rattle.std.proofs.Common.{ℕ, ◌<◌}
use Rattle.pattern_images.specs.ImageList.{placement_at}
use Rattle.line_matcher.specs.Begins.{corner_of}
use Rattle.line_matcher.proofs.starts.next_start.Given as goal

-- the placements so far have their upper left points before p
abbrev pub invariant-loop-i : goal.invariant-loop-i
invariant-loop-i l = (j : ℕ) → j < l.i → corner_of l.images.shape (placement_at l.images.placements j) < l.p
