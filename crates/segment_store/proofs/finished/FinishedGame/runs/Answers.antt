use Rattle.std.proofs.Common.{ap, subst, ◌∙◌}
use Rattle.game_tree.specs.Tree.{Tree}
use Rattle.segment_store.specs.Finished.{AreRunsOfTree}
use Rattle.capture_index.specs.NodePositions.{NodePositions}
use Rattle.segment_store.proofs.finished.FinishedGame.runs.Goals as goal

pub returns-clause-value : goal.returns-clause-value
returns-clause-value c = subst (λ (tree : Tree). AreRunsOfTree tree c.self.inside.indexes.runs) (ap (λ game. game.tree) c.self.view_is) c.self.invariant.1.are_runs

pub returns-clause-shape : goal.returns-clause-shape
returns-clause-shape c =
    ap (λ (seen : NodePositions). seen.shape) (c.self.invariant.1.are_runs c.self.inside.deltas c.self.invariant.0.are_changes) ∙ c.self.invariant.0.are_changes.lead.same_shape ∙ ap (λ game. game.tree.shape) c.self.view_is
