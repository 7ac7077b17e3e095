use Rattle.node_position.proofs.OnePosition.{positions-unique}
use Rattle.node_position.proofs.laws.a_tree_has_one_list_of_positions.Goals as goal

pub returns : goal.returns
returns c = positions-unique
