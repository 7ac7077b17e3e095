use Rattle.node_position.proofs.EachTree.{changes-found}
use Rattle.node_position.proofs.laws.a_tree_has_changes.Goals as goal

pub returns : goal.returns
returns c = λ game positions is_tree are. changes-found game is_tree positions are
