use Rattle.std.proofs.Common.{length}
use Rattle.import_work.proofs.merging.+merged.Given as goal

abbrev pub decreases-merged : goal.decreases-merged
decreases-merged l = length l.segments.now
