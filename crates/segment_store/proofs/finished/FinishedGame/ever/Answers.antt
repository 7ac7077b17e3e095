use Rattle.std.proofs.Common.{ap, subst}
use Rattle.game_tree.specs.Tree.{Tree}
use Rattle.segment_store.specs.Finished.{AreSetsOfTree}
use Rattle.segment_store.proofs.OneTree.{AreSetsOfTree-on_board}
use Rattle.segment_store.proofs.finished.FinishedGame.ever.Goals as goal

pub returns-clause-value : goal.returns-clause-value
returns-clause-value c = subst (λ (tree : Tree). AreSetsOfTree tree c.self.inside.indexes.ever) (ap (λ game. game.tree) c.self.view_is) c.self.invariant.1.are_sets

pub returns-clause-on_board : goal.returns-clause-on_board
returns-clause-on_board c stone p there =
    rw (← ap (λ game. game.tree) c.self.view_is) (AreSetsOfTree-on_board c.self.inside.tree c.self.inside.deltas c.self.inside.indexes.ever c.self.invariant.0.are_changes c.self.invariant.1.are_sets stone p there)
