use Rattle.game_tree.proofs.ReadTrees.{read-trees}
use Rattle.game_tree.proofs.laws.the_trees_of_a_collection_are_trees.Goals as goal

pub returns : goal.returns
returns c = read-trees
