use Rattle.std.proofs.Common.{◌+◌}
use Rattle.capture_index.proofs.Told.{stays-seen}
use Rattle.capture_index.proofs.run_index.RunIndex.next_run.Goals as goal

pub returns : goal.returns
returns c = stays-seen c.self.inside.packed c.args.self.now c.self.view_is (c.args.base + c.args.offset) c.args.node c.args.end c.next_run.result c.requires.point c.requires.in_range c.next_run.ensures
