use Rattle.line_matcher.proofs.MaskBits.{HasBit-set}
use Rattle.line_matcher.proofs.mask.with_bit.Goals as goal

pub returns-then-set : goal.returns-then-set
returns-then-set c = HasBit-set c.args.word c.args.k c.args.set c.if-set.true c.requires
