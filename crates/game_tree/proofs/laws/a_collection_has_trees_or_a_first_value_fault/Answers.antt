use Rattle.game_tree.proofs.TreesOrFault.{trees-or-fault}
use Rattle.game_tree.proofs.laws.a_collection_has_trees_or_a_first_value_fault.Goals as goal

pub returns : goal.returns
returns c = trees-or-fault
