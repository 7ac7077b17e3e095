-- Points and labels are gone through in order, and two lists in order with the same members are one.
use Rattle.pattern_images.proofs.Existence.{some_list}
use Rattle.pattern_images.proofs.OneList.{one_list}
use Rattle.pattern_images.proofs.laws.a_query_has_one_list_of_placements.Goals as goal

pub returns-clause-some : goal.returns-clause-some
returns-clause-some c = some_list

pub returns-clause-one : goal.returns-clause-one
returns-clause-one c = one_list
