use Rattle.std.proofs.Common.{◌≡◌, ◌≤◌, ◌*◌, take}
use Rattle.import_work.specs.Outcome.{nodes_of_trees}
use Rattle.import_work.proofs.outcome.nodes_of_trees.Given as goal

abbrev pub invariant-loop-tree : goal.invariant-loop-tree
invariant-loop-tree l = (l.nodes ≡ nodes_of_trees (take l.tree-index l.trees)) × (l.nodes ≤ l.tree-index * 65536)
