use Rattle.opening_tree.specs.Least.{AreLeastOf}
use Rattle.opening_tree.proofs.turned.TurnedPositions.least.Given as goal

abbrev pub invariant-loop-number : goal.invariant-loop-number
invariant-loop-number l = AreLeastOf l.number l.self.images l.least
