use Rattle.std.proofs.Common.{arith}
use Rattle.run_audit.proofs.ChosenNumbers.{stands-one}
use Rattle.run_audit.proofs.numbers.number_among.Goals as goal

pub returns-then-number-least-clause-none : goal.returns-then-number-least-clause-none
returns-then-number-least-clause-none c = λ e other within stands.
    let told = c.in_ok-number.ensures.some in
    let from = within.from in
    let to = within.to in
    omega (arith, c.if-number-least.true, from, stands-one c.args.bytes.now other c.in_ok-number.number (omega (arith, to, c.ranges.last.fits)) told.1 stands told.0)

pub returns-then-last-number-clause-none : goal.returns-then-last-number-clause-none
returns-then-last-number-clause-none c = λ e other within stands.
    let told = c.in_ok-number.ensures.some in
    let from = within.from in
    let to = within.to in
    omega (arith, c.if-last-number.true, to, stands-one c.args.bytes.now other c.in_ok-number.number (omega (arith, to, c.ranges.last.fits)) told.1 stands told.0)
