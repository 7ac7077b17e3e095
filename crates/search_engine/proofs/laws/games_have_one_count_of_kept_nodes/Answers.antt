use Rattle.std.proofs.Common.{refl}
use Rattle.search_engine.proofs.KeptCounts.{KeptNodes-unique, kept_nodes-found, kept_nodes-most}
use Rattle.search_engine.proofs.laws.games_have_one_count_of_kept_nodes.Goals as goal

pub returns-clause-some : goal.returns-clause-some
returns-clause-some c = kept_nodes-found

pub returns-clause-one : goal.returns-clause-one
returns-clause-one c = λ query games a b one other. KeptNodes-unique query games games a b one other refl

pub returns-clause-most : goal.returns-clause-most
returns-clause-most c = kept_nodes-most
