use Rattle.std.proofs.Common.{length, ◌-◌}
use Rattle.candidate_sieve.specs.BlockGames.{IsSpanOf}
use Rattle.candidate_sieve.proofs.spans.span_from.Given as goal

-- the rows so far
abbrev pub invariant-loop-end : goal.invariant-loop-end
invariant-loop-end l = IsSpanOf l.rows l.first l.end

abbrev pub decreases-loop-end : goal.decreases-loop-end
decreases-loop-end l = length l.rows - l.end
