use Rattle.std.proofs.Common.{◌≡◌, take}
use Rattle.corner_index.specs.Keys.{of_corner}
use Rattle.corner_index.proofs.numbers.of_corner.Given as goal

abbrev pub invariant-loop-node : goal.invariant-loop-node
invariant-loop-node l = l.numbers.items ≡ of_corner l.corner (take l.node-index l.nodes)
