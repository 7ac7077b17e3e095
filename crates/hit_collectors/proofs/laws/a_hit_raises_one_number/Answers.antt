use Rattle.hit_collectors.proofs.Counts.{numbers_one}
use Rattle.hit_collectors.proofs.laws.a_hit_raises_one_number.Goals as goal

pub returns : goal.returns
returns c = numbers_one
