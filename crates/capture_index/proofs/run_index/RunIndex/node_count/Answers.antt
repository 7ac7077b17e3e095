use Rattle.std.proofs.Common.{◌∙◌}
use Rattle.capture_index.proofs.Told.{nodes-seen}
use Rattle.capture_index.proofs.run_index.RunIndex.node_count.Goals as goal

pub returns-clause-value : goal.returns-clause-value
returns-clause-value c = c.node_count.ensures.value ∙ nodes-seen c.self.inside.packed c.args.self.now c.self.view_is
