use Rattle.std.proofs.Common.{ap, Err}
use Rattle.game_tree.proofs.NodeValues.{same_error}
use Rattle.game_tree.proofs.game.read_node.Goals as goal

pub returns-in-Err-clause-fault : goal.returns-in-Err-clause-fault
returns-in-Err-clause-fault c = λ f e. rw c.pairs.ensures at (c.in-Err.ensures.fault f (ap Err (same_error _ _ e)))
