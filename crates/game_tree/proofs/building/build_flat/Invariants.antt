use Rattle.game_tree.proofs.WholeCollections.{HasBuiltGames}
use Rattle.game_tree.proofs.building.build_flat.Given as goal

abbrev pub invariant-loop-number : goal.invariant-loop-number
invariant-loop-number l = HasBuiltGames l.fn.text l.fn.collection l.number l.trees.items
