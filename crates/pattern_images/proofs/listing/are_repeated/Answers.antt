use Rattle.std.proofs.Common.{below_more, arith}
use Rattle.pattern_images.proofs.listing.are_repeated.Goals as goal

pub loop-number-preserved : goal.loop-number-preserved
loop-number-preserved c = below_more _ _ c.loop-number.invariant (c.is_repeated.ensures c.if-is_repeated.false)

pub returns : goal.returns
returns c = λ no k below. c.loop-number.invariant k (omega (arith, below))
