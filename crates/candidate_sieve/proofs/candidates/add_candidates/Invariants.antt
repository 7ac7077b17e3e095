use Rattle.std.proofs.Common.{ℕ, ◌≤◌, ◌-◌, length}
use Rattle.ready_images.specs.Rows.{EndAt}
use Rattle.candidate_sieve.proofs.CandidateLists.{AreAddedTo}
use Rattle.candidate_sieve.proofs.candidates.add_candidates.Given as goal

-- the placements of the rows so far
abbrev pub invariant-loop-next : goal.invariant-loop-next
invariant-loop-next l = (end : ℕ) × (l.next ≤ length l.rows) × EndAt l.rows l.next end × AreAddedTo l.block.planes.now l.block.order l.ready.images l.among l.ready.numbers end l.initial.found.items l.found.items

abbrev pub decreases-loop-next : goal.decreases-loop-next
decreases-loop-next l = length l.rows - l.next
