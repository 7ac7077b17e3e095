use Rattle.corner_index.proofs.CornerNumbers.{corner_number-below}
use Rattle.corner_index.proofs.laws.a_corner_number_has_at_most_36_digits.Goals as goal

pub returns : goal.returns
returns c corner shape p = corner_number-below corner shape p
