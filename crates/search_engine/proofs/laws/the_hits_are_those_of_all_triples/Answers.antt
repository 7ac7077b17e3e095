use Rattle.search_engine.proofs.TriplesOfGames.{all-triples, are-hits}
use Rattle.search_engine.proofs.laws.the_hits_are_those_of_all_triples.Goals as goal

pub returns : goal.returns
returns c = λ query filter games hits trees. (all-triples query filter games hits trees, are-hits query filter games trees hits)
