use Rattle.candidate_sieve.specs.BlockGames.{HaveEach}
use Rattle.candidate_sieve.proofs.candidates.SpanSieve.games_at.Given as goal

-- the wants so far
abbrev pub invariant-loop-k : goal.invariant-loop-k
invariant-loop-k l = HaveEach l.self.planes.now.games l.self.base l.self.wants.now l.among l.k l.games
