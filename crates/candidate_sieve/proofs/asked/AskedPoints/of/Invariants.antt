use Rattle.std.proofs.Common.{ℕ, ◌↔◌}
use Rattle.std.specs.Prelude.{Contains}
use Rattle.kb_geometry.specs.declared.stone.Cell.{Cell}
use Rattle.pattern_images.specs.ImageList.{placement_at}
use Rattle.candidate_sieve.specs.NodeCandidates.{AsksThere, noted}
use Rattle.candidate_sieve.proofs.NotedPoints.{AsksBelow}
use Rattle.candidate_sieve.proofs.asked.AskedPoints.of.Given as goal

-- the placements so far
abbrev pub invariant-loop-i : goal.invariant-loop-i
invariant-loop-i l = (c : Cell) (p : ℕ) → Contains (noted l.points c) p ↔ AsksBelow (λ i. AsksThere l.images.shape (placement_at l.images.placements i)) l.i p c
