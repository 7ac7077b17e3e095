use Rattle.std.proofs.Common.{◌∙◌}
use Rattle.capture_index.proofs.Told.{cell-seen}
use Rattle.capture_index.proofs.run_index.RunIndex.cell.Goals as goal

pub returns : goal.returns
returns c = c.cell.ensures ∙ cell-seen c.self.inside.packed c.args.self.now c.self.view_is c.args.point c.args.node c.requires.point c.requires.in_range
