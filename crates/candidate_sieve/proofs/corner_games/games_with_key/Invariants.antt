use Rattle.candidate_sieve.proofs.CornerGames.{AreAskedTo}
use Rattle.candidate_sieve.proofs.corner_games.games_with_key.Given as goal

-- the games so far
abbrev pub invariant-loop-at : goal.invariant-loop-at
invariant-loop-at l = AreAskedTo l.corners l.corner l.key l.games l.at l.left
