use Rattle.std.proofs.Common.{refl}
use Rattle.search_engine.proofs.HitsExist.{hits-found}
use Rattle.search_engine.proofs.OneListOfHits.{hits-unique}
use Rattle.search_engine.proofs.laws.games_have_one_list_of_hits.Goals as goal

pub returns-clause-some : goal.returns-clause-some
returns-clause-some c = hits-found

pub returns-clause-one : goal.returns-clause-one
returns-clause-one c = λ first query filter games a b trees one other. hits-unique first query filter games games a b trees one other refl
