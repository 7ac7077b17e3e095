use Rattle.std.proofs.Common.{◌≡◌, ◌-◌}
use Rattle.capture_index.specs.NodePositions.{nodes_where}
use Rattle.capture_index.proofs.nodes_where.next_begin.Given as goal

abbrev pub invariant-loop-node : goal.invariant-loop-node
invariant-loop-node l = nodes_where l.index l.point l.cell l.from ≡ nodes_where l.index l.point l.cell l.node

abbrev pub decreases-loop-node : goal.decreases-loop-node
decreases-loop-node l = l.nodes - l.node
