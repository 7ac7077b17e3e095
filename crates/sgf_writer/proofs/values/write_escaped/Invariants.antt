use Rattle.std.proofs.Common.{◌≡◌, ◌++◌, take}
use Rattle.sgf_writer.specs.Written.{escaped}
use Rattle.sgf_writer.proofs.values.write_escaped.Given as goal

abbrev pub invariant-loop-b : goal.invariant-loop-b
invariant-loop-b l = l.out.items ≡ l.fn.out.items ++ escaped (take l.b-index l.text)
