use Rattle.std.proofs.Common.{◌-◌, ◌/◌, arith, refl}
use Rattle.std.proofs.lemmas.Nat.{and_le_r}
use Rattle.opening_tree.specs.Keys.{bucket_in}
use Rattle.opening_tree.proofs.keys.bucket_in.Goals as goal

pub returns-clause-value : goal.returns-clause-value
unfolding bucket_in
returns-clause-value c = refl

pub returns-clause-below : goal.returns-clause-below
returns-clause-below c = omega (arith, and_le_r (c.args.hash / 4294967296) (c.args.buckets - 1), c.requires)
