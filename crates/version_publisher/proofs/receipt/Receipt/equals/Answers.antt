use Rattle.std.proofs.Common.{arith}
use Rattle.version_publisher.proofs.Prefixes.{prefix_whole}
use Rattle.version_publisher.proofs.receipt.Receipt.equals.Goals as goal

pub returns : goal.returns
returns g c = prefix_whole _ _ c.begins.ensures (omega (arith, c.requires.number))
