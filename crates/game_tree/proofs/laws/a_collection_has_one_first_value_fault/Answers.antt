use Rattle.game_tree.proofs.OneFault.{first_value_fault-one}
use Rattle.game_tree.proofs.laws.a_collection_has_one_first_value_fault.Goals as goal

pub returns : goal.returns
returns c = first_value_fault-one
