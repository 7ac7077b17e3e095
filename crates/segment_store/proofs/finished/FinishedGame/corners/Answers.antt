use Rattle.std.proofs.Common.{ap, subst}
use Rattle.game_tree.specs.Tree.{Tree}
use Rattle.segment_store.specs.Finished.{AreCornersOfTree, HasChanges}
use Rattle.segment_store.proofs.finished.FinishedGame.corners.Goals as goal

pub returns-clause-value : goal.returns-clause-value
returns-clause-value c = subst (λ (tree : Tree). AreCornersOfTree tree c.self.inside.indexes.corners) (ap (λ game. game.tree) c.self.view_is) c.self.invariant.1.are_corners

pub returns-clause-changes : goal.returns-clause-changes
returns-clause-changes c = subst HasChanges (ap (λ game. game.tree) c.self.view_is) (c.self.inside.deltas, c.self.invariant.0.are_changes)
