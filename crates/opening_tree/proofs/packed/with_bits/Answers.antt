use Rattle.opening_tree.proofs.Digits.{IsWithDigit-made}
use Rattle.opening_tree.proofs.packed.with_bits.Goals as goal

pub returns : goal.returns
returns c = IsWithDigit-made c.args.word c.args.place c.args.bits c.requires.place c.requires.bits
