use Rattle.pattern_occurrences.proofs.GivenNodes.{all_at_nodes}
use Rattle.candidate_sieve.proofs.OccurrencesKept.{occurs-candidate}
use Rattle.candidate_sieve.proofs.laws.the_node_candidates_have_all_occurrences.Goals as goal

pub returns : goal.returns
returns c deltas placements nodes are exactly = all_at_nodes deltas placements nodes (λ o is. (exactly o.node).1 (occurs-candidate deltas placements are o is))
