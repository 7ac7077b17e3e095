use Rattle.std.proofs.Common.{◌≡◌, ◌+◌}
use Rattle.capture_board.specs.Walking.{StandsIn, node_before}
use Rattle.line_matcher.proofs.at_nodes.enter_to.Given as goal

-- the nodes so far
abbrev pub invariant-loop-node : goal.invariant-loop-node
invariant-loop-node g l = record {
  stands : StandsIn l.deltas l.walker;
  here : l.walker.here ≡ node_before l.node;
  steps : l.steps + l.entered ≡ l.initial.steps + l.node;
}
