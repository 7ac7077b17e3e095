use Rattle.search_engine.proofs.KeptBlocks.{AreKeptTo}
use Rattle.search_engine.proofs.kept_games.kept_in_block.Given as goal

-- the shapes of boards so far
abbrev pub invariant-loop-planes : goal.invariant-loop-planes
invariant-loop-planes l = AreKeptTo l.ready.query l.ready.shapes l.block l.planes-items l.planes-index l.kept
