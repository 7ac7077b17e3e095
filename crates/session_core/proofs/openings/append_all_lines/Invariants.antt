use Rattle.std.proofs.Common.{◌≡◌, ◌++◌, take}
use Rattle.std.specs.List.{flat_map}
use Rattle.session_core.specs.OpeningLines.{opening_lines}
use Rattle.session_core.proofs.openings.append_all_lines.Given as goal

abbrev pub invariant-loop-opening : goal.invariant-loop-opening
invariant-loop-opening l = l.out.items ≡ l.fn.out.items ++ flat_map opening_lines (take l.opening-index l.openings)
