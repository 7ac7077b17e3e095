use Rattle.std.proofs.Common.{take}
use Rattle.session_core.specs.Watches.{IsFree}
use Rattle.session_core.proofs.watches.find_watch.Given as goal

abbrev pub invariant-loop-at : goal.invariant-loop-at
invariant-loop-at l = IsFree l.name (take l.at l.watches)
