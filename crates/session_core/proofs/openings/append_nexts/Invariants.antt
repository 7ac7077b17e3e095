use Rattle.std.proofs.Common.{◌≡◌, ◌++◌, take}
use Rattle.std.specs.List.{flat_map}
use Rattle.session_core.specs.OpeningLines.{next_line}
use Rattle.session_core.proofs.openings.append_nexts.Given as goal

abbrev pub invariant-loop-next : goal.invariant-loop-next
invariant-loop-next l = l.out.items ≡ l.fn.out.items ++ flat_map next_line (take l.next-index l.nexts)
