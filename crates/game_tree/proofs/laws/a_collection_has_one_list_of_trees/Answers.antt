use Rattle.game_tree.proofs.OneTree.{AreTreesOf-only}
use Rattle.game_tree.proofs.laws.a_collection_has_one_list_of_trees.Goals as goal

pub returns : goal.returns
returns c = AreTreesOf-only
