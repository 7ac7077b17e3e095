use Rattle.search_engine.proofs.HitParts.{AreHitsFrom-append}
use Rattle.search_engine.proofs.laws.hits_of_two_parts_are_those_of_each.Goals as goal

pub returns : goal.returns
returns c = λ first query filter games more hits others one other. AreHitsFrom-append first query filter games hits one more others other
