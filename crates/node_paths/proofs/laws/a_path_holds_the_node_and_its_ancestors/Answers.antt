use Rattle.node_paths.proofs.PathLists.{path_to-holds}
use Rattle.node_paths.proofs.laws.a_path_holds_the_node_and_its_ancestors.Goals as goal

pub returns : goal.returns
returns c = λ parent count n a are. path_to-holds are n a
