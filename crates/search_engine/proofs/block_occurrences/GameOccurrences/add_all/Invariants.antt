use Rattle.search_engine.specs.Gathering.{AreGathered, IsOfCandidates, MoreGoOn}
use Rattle.search_engine.proofs.block_occurrences.GameOccurrences.add_all.Given as goal

abbrev pub invariant-loop-candidate : goal.invariant-loop-candidate
invariant-loop-candidate l = record {
  gathered : AreGathered l.block (IsOfCandidates l.ready.images.placements l.candidates l.candidate-index) l.fn.self l.self;
  go_on : MoreGoOn l.block l.ready.images.shape l.ready.images.placements l.fn.self l.self;
}
