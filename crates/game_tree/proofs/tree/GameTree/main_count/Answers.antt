use Rattle.game_tree.proofs.StoredTrees.{main_shown}
use Rattle.game_tree.proofs.tree.GameTree.main_count.Goals as goal

pub returns : goal.returns
returns c = λ n. main_shown _ _ _ _ _ _ c.self.view_is c.self.invariant n
