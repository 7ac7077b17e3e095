use Rattle.search_engine.proofs.GameBits.{AreAcceptedTo}
use Rattle.search_engine.proofs.accepted.met_games.Given as goal

abbrev pub invariant-loop-at : goal.invariant-loop-at
invariant-loop-at l = AreAcceptedTo l.filter l.skip l.block l.at l.accepted
