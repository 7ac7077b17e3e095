use Rattle.pattern_occurrences.proofs.HoldsLaw.{holds-decides}
use Rattle.pattern_occurrences.proofs.laws.the_test_tells_whether_a_placement_holds.Goals as goal

pub returns : goal.returns
returns c = holds-decides
