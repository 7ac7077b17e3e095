use Rattle.std.proofs.Common.{take}
use Rattle.std.specs.Str.Parse.{AllDigits}
use Rattle.run_audit.proofs.numbers.digit_count.Given as goal

-- so far all are digits
abbrev pub invariant-loop-at : goal.invariant-loop-at
invariant-loop-at l = AllDigits 10 (take l.at l.bytes)
