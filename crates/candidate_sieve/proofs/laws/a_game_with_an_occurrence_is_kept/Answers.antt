use Rattle.candidate_sieve.proofs.OccurrencesKept.{holds-kept, occurs-kept}
use Rattle.candidate_sieve.proofs.laws.a_game_with_an_occurrence_is_kept.Goals as goal

pub returns-clause-placement : goal.returns-clause-placement
returns-clause-placement c deltas placement n lt holds = holds-kept deltas placement n lt holds

pub returns-clause-game : goal.returns-clause-game
returns-clause-game c deltas placements o is = occurs-kept deltas placements o is
