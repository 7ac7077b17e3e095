use Rattle.node_paths.proofs.Ancestors.{IsOnPathTo-le}
use Rattle.node_paths.proofs.laws.ancestors_come_first.Goals as goal

pub returns : goal.returns
returns c = λ parent count a n are up. IsOnPathTo-le are up
