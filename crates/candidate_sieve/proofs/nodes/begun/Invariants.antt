use Rattle.candidate_sieve.proofs.BegunLists.{AreBegunTo}
use Rattle.candidate_sieve.proofs.nodes.begun.Given as goal

-- the points so far
abbrev pub invariant-loop-point : goal.invariant-loop-point
invariant-loop-point l = AreBegunTo l.runs l.points l.point l.nodes.items
