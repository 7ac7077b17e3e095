use Rattle.capture_index.proofs.Times.{stone-later}
use Rattle.capture_index.proofs.time.PackedTime.later_of.Goals as goal

pub returns : goal.returns
returns c n = stone-later c.args.self c.args.other (record { word = c.max.result }) c.max.ensures n
