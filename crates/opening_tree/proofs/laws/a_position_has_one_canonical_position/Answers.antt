use Rattle.opening_tree.proofs.PositionImages.{one_canonical, some_canonical}
use Rattle.opening_tree.proofs.laws.a_position_has_one_canonical_position.Goals as goal

pub returns-clause-some : goal.returns-clause-some
returns-clause-some c = some_canonical

pub returns-clause-one : goal.returns-clause-one
returns-clause-one c = one_canonical
