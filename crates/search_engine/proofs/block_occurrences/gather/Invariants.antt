use Rattle.std.proofs.Common.{[]}
use Rattle.search_engine.specs.Gathering.{AllGoOn, AreGathered, IsOnPlanes}
use Rattle.search_engine.proofs.block_occurrences.gather.Given as goal

abbrev pub invariant-loop-planes : goal.invariant-loop-planes
invariant-loop-planes l = record {
  gathered : AreGathered l.block (IsOnPlanes l.ready.query l.ready.shapes l.games l.planes-items l.planes-index) [] l.room.gathered;
  go_on : AllGoOn l.ready.query l.block l.room.gathered;
}
