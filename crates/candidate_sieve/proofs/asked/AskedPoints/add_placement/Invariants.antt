use Rattle.pattern_images.specs.ImageList.{placement_at}
use Rattle.candidate_sieve.specs.Noting.{AreNoted}
use Rattle.candidate_sieve.proofs.NotedPoints.{AsksBelow, AsksInRowOf}
use Rattle.candidate_sieve.proofs.asked.AskedPoints.add_placement.Given as goal

-- the rows so far
abbrev pub invariant-loop-dy : goal.invariant-loop-dy
invariant-loop-dy l = AreNoted l.fn.self (AsksBelow (AsksInRowOf l.images.shape (placement_at l.images.placements l.i)) l.dy) l.self
