use Rattle.node_paths.proofs.PathLists.{path_to-ends}
use Rattle.node_paths.proofs.laws.a_path_ends_at_the_root.Goals as goal

pub returns : goal.returns
returns c = λ parent count n are h. path_to-ends are n h
