use Rattle.serial_run.proofs.BlockAnswers.{AreAskedTo}
use Rattle.serial_run.proofs.block.asked_for.Given as goal

abbrev pub invariant-loop-i : goal.invariant-loop-i
invariant-loop-i l = AreAskedTo l.searches l.versions l.i l.asked.items
