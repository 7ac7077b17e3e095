use Rattle.candidate_sieve.proofs.CellsTold.{holds-were, were-meets}
use Rattle.candidate_sieve.proofs.laws.a_placement_that_holds_meets_the_sets.Goals as goal

pub returns : goal.returns
returns c deltas sets placement n are placed lt holds = were-meets deltas sets are placement placed (holds-were deltas placement n lt holds)
