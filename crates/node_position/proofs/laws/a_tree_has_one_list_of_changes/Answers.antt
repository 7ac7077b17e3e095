use Rattle.node_position.proofs.OneChange.{changes-unique}
use Rattle.node_position.proofs.laws.a_tree_has_one_list_of_changes.Goals as goal

pub returns : goal.returns
returns c = changes-unique
