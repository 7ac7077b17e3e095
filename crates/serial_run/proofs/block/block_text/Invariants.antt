use Rattle.std.proofs.Common.{map, take}
use Rattle.session_core.specs.Stores.{view_of}
use Rattle.serial_run.specs.Steps.{AreAnsweredFrom}
use Rattle.serial_run.proofs.block.block_text.Given as goal

abbrev pub invariant-loop-i : goal.invariant-loop-i
invariant-loop-i g l = AreAnsweredFrom (map (λ v. view_of v.now) (take l.i l.versions)) (take l.i l.searches) l.fn.session l.text.items l.session
