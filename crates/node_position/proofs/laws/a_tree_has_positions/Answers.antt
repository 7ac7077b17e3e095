use Rattle.node_position.proofs.EachTree.{positions-found}
use Rattle.node_position.proofs.laws.a_tree_has_positions.Goals as goal

pub returns : goal.returns
returns c = positions-found
