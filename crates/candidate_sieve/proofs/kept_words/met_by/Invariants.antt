use Rattle.candidate_sieve.proofs.KeptRows.{AreMetTo}
use Rattle.candidate_sieve.proofs.kept_words.met_by.Given as goal

-- the placements so far
abbrev pub invariant-loop-k : goal.invariant-loop-k
invariant-loop-k l = AreMetTo l.ready.images.shape l.ready.images.placements l.numbers l.words l.before l.corners l.k l.met
