use Rattle.candidate_sieve.specs.Ordered.{IsCutInOrder}
use Rattle.candidate_sieve.proofs.order.SpanOrder.games_at.Given as goal

-- the pairs so far
abbrev pub invariant-loop-k : goal.invariant-loop-k
invariant-loop-k l = IsCutInOrder l.self.order l.self.base l.self.pairs.now l.k l.games l.left
