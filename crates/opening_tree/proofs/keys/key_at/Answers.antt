use Rattle.std.proofs.Common.{◌*◌, ap, arith, drop, take}
use Rattle.opening_tree.specs.Keys.{key_at}
use Rattle.opening_tree.proofs.keys.key_at.Goals as goal

pub returns : goal.returns
unfolding key_at
returns c = ap (λ n. take n (drop (c.args.width * c.args.at) c.args.words.now)) (omega arith)
