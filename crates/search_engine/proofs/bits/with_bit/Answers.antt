use Rattle.std.proofs.Common.{IsTrue}
use Rattle.search_engine.proofs.GameBits.{IsWithBit-set}
use Rattle.search_engine.proofs.bits.with_bit.Goals as goal

pub returns-then-set : goal.returns-then-set
returns-then-set c = IsWithBit-set c.args.word c.args.at (IsTrue c.args.set) c.if-set.true c.requires
