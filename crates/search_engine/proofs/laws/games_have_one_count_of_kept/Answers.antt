use Rattle.std.proofs.Common.{refl}
use Rattle.search_engine.proofs.KeptCounts.{AreKept-unique, kept-found}
use Rattle.search_engine.proofs.laws.games_have_one_count_of_kept.Goals as goal

pub returns-clause-some : goal.returns-clause-some
returns-clause-some c = kept-found

pub returns-clause-one : goal.returns-clause-one
returns-clause-one c = λ query games a b one other. AreKept-unique query games games a b one other refl
