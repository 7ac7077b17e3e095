use Rattle.corner_index.specs.Keys.{AreNumbersTo}
use Rattle.corner_index.proofs.numbers.numbers_at_nodes.Given as goal

abbrev pub invariant-loop-n : goal.invariant-loop-n
invariant-loop-n l = AreNumbersTo l.deltas l.n l.nodes.items
