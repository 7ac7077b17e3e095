use Rattle.candidate_sieve.specs.BlockGames.{AreAddedFor}
use Rattle.candidate_sieve.proofs.candidates.add_row.Given as goal

-- the placements so far
abbrev pub invariant-loop-k : goal.invariant-loop-k
invariant-loop-k l = AreAddedFor l.row l.numbers l.words l.fn.found.items l.k l.found.items
