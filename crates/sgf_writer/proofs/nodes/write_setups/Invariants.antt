use Rattle.std.proofs.Common.{◌≡◌, ◌++◌, drop, None}
use mathlib.Core.List.{IsPrefix}
use Rattle.sgf_writer.specs.Written.{setups_text}
use Rattle.sgf_writer.proofs.nodes.write_setups.Given as goal

abbrev pub invariant-loop-s : goal.invariant-loop-s
invariant-loop-s l =
    (l.out.items ++ setups_text l.before (drop l.s-index l.setups) ≡ l.fn.out.items ++ setups_text None l.setups)
    × IsPrefix l.fn.out.items l.out.items
