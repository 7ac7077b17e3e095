use Rattle.std.proofs.Common.{◌≡◌, ◌++◌, length}
use Rattle.query_script.specs.Words.{escaped}
use Rattle.query_script.proofs.words.unescaped.Given as goal

abbrev pub invariant-loop-byte : goal.invariant-loop-byte
invariant-loop-byte l = l.fn.text ≡ escaped l.bytes.items ++ l.rest

abbrev pub decreases-loop-byte : goal.decreases-loop-byte
decreases-loop-byte l = length l.rest
