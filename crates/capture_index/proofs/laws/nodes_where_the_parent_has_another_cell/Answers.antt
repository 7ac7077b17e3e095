use Rattle.capture_index.proofs.NodesTold.{nodes-told}
use Rattle.capture_index.proofs.laws.nodes_where_the_parent_has_another_cell.Goals as goal

pub returns : goal.returns
returns c seen point node cell = nodes-told seen point cell node
