use Rattle.std.proofs.Common.{◌-◌}
use Rattle.search_engine.specs.Gathering.{AreGathered, IsOfCandidate, MoreGoOn}
use Rattle.search_engine.proofs.block_occurrences.GameOccurrences.add.Given as goal

abbrev pub invariant-loop-at : goal.invariant-loop-at
invariant-loop-at l = record {
  gathered : AreGathered l.block (IsOfCandidate l.ready.images.placements l.candidate l.from) l.fn.self l.self;
  go_on : MoreGoOn l.block l.ready.images.shape l.ready.images.placements l.fn.self l.self;
}

abbrev pub decreases-loop-at : goal.decreases-loop-at
decreases-loop-at l = 64 - l.from
