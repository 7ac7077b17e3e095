use Rattle.std.proofs.Common.{arith}
use Rattle.search_engine.proofs.GameBits.{next_bit-found, next_bit-none}
use Rattle.search_engine.proofs.bits.next_bit.Goals as goal

pub returns-then-rest-eq0-clause-none : goal.returns-then-rest-eq0-clause-none
returns-then-rest-eq0-clause-none c g ge lt = next_bit-none c.args.word c.args.from c.ranges.word.fits c.if-rest-eq0.true g ge

pub returns-clause-some : goal.returns-clause-some
returns-clause-some c = next_bit-found c.args.word c.args.from c.ranges.word.fits (omega (arith, c.if-rest-eq0.false))
