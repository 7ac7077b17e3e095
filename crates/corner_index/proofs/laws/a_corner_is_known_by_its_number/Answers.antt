use Rattle.corner_index.proofs.CornerNumbers.{same_cells}
use Rattle.corner_index.proofs.laws.a_corner_is_known_by_its_number.Goals as goal

pub returns : goal.returns
returns c corner shape p q same column row left high = same_cells corner shape p q same column row left high
