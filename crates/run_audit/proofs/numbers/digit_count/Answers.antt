use Rattle.std.proofs.Common.{arith}
use Rattle.run_audit.proofs.Digits.{digits-next}
use Rattle.run_audit.proofs.numbers.digit_count.Goals as goal

pub loop-at-preserved : goal.loop-at-preserved
loop-at-preserved c = digits-next c.args.bytes.now c.loop-at.at c.is_ascii_digit.result (omega (arith, c.loop-at-test.true, c.min-most.ensures)) c.loop-at.invariant c.is_ascii_digit.ensures.value c.if-not-is_ascii_digit.false
