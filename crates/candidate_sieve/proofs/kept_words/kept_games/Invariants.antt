use Rattle.std.proofs.Common.{ℕ, ◌≤◌, ◌-◌, length}
use Rattle.ready_images.specs.Rows.{EndAt}
use Rattle.candidate_sieve.proofs.KeptRows.{AreKeptTo}
use Rattle.candidate_sieve.proofs.kept_words.kept_games.Given as goal

-- the placements of the rows so far
abbrev pub invariant-loop-next : goal.invariant-loop-next
invariant-loop-next l = (end : ℕ) × (l.next ≤ length l.rows) × EndAt l.rows l.next end × AreKeptTo l.ready.images l.planes l.corners l.ready.numbers end l.kept

abbrev pub decreases-loop-next : goal.decreases-loop-next
decreases-loop-next l = length l.rows - l.next
