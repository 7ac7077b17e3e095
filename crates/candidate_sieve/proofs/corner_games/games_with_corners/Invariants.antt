use Rattle.candidate_sieve.proofs.CornerGames.{AreLeftBy}
use Rattle.candidate_sieve.proofs.corner_games.games_with_corners.Given as goal

-- the corners so far
abbrev pub invariant-loop-corner : goal.invariant-loop-corner
invariant-loop-corner l = AreLeftBy l.corners l.covered l.games l.corner-index l.left
