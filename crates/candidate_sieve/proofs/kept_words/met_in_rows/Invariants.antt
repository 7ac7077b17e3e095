use Rattle.candidate_sieve.proofs.SpansKept.{AreMetIn}
use Rattle.candidate_sieve.proofs.kept_words.met_in_rows.Given as goal

-- the rows so far
abbrev pub invariant-loop-r : goal.invariant-loop-r
invariant-loop-r l = AreMetIn l.ready.images.shape l.ready.images.placements l.rows l.ready.numbers l.words l.fn.span.first l.corners l.r l.met
