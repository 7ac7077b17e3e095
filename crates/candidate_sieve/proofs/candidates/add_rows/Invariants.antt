use Rattle.candidate_sieve.specs.BlockGames.{AreRowsAdded}
use Rattle.candidate_sieve.proofs.candidates.add_rows.Given as goal

-- the rows so far
abbrev pub invariant-loop-r : goal.invariant-loop-r
invariant-loop-r l = AreRowsAdded l.rows l.ready.numbers l.words l.fn.span.first l.fn.found.items l.r l.found.items
