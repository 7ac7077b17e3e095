use Rattle.candidate_sieve.proofs.OccurrencesKept.{occurs-candidate}
use Rattle.candidate_sieve.proofs.laws.an_occurrence_is_at_a_node_candidate.Goals as goal

pub returns : goal.returns
returns c deltas placements o are is = occurs-candidate deltas placements are o is
