use Rattle.capture_index.proofs.Times.{stone-root}
use Rattle.capture_index.proofs.time.PackedTime.at_root.Goals as goal

pub returns : goal.returns
returns c n = stone-root n
