use Rattle.std.proofs.Common.{◌≡◌, ◌+◌}
use Rattle.capture_board.specs.Walking.{StandsIn, node_before}
use Rattle.line_matcher.specs.Concerned.{no_points}
use Rattle.line_matcher.specs.Nodes.{IsFoundTo}
use Rattle.line_matcher.proofs.walk.add_nodes.Given as goal

-- the nodes so far
abbrev pub invariant-loop-node : goal.invariant-loop-node
invariant-loop-node g l = record {
  found : IsFoundTo l.deltas l.matcher.images.now.placements l.node l.initial.found.items l.found.items;
  stands : StandsIn l.deltas l.walker;
  here : l.walker.here ≡ node_before l.node;
  steps : l.steps ≡ l.initial.steps + l.node;
  none : l.points ≡ no_points;
}
