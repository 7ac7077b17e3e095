use Rattle.search_engine.proofs.KeptBlocks.{AreCornersTo}
use Rattle.search_engine.proofs.kept_games.corners_of.Given as goal

-- the games so far
abbrev pub invariant-loop-at : goal.invariant-loop-at
invariant-loop-at l = AreCornersTo l.block l.at l.all.items
