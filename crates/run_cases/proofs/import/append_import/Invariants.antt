use Rattle.std.proofs.Common.{length}
use Rattle.run_cases.proofs.import.append_import.Given as goal

abbrev pub decreases-loop-import : goal.decreases-loop-import
decreases-loop-import g l = length l.import.left
