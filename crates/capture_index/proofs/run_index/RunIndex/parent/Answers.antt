use Rattle.std.proofs.Common.{◌∙◌, ap}
use Rattle.capture_index.specs.Branches.{parent_by}
use Rattle.capture_index.proofs.Told.{parent-seen}
use Rattle.capture_index.proofs.run_index.RunIndex.parent.Goals as goal

pub returns-clause-value : goal.returns-clause-value
returns-clause-value c = c.parent.ensures.value ∙ ap (λ bs. parent_by bs c.args.node) c.branches.ensures ∙ parent-seen c.self.inside.packed c.args.self.now c.self.view_is c.args.node c.requires
