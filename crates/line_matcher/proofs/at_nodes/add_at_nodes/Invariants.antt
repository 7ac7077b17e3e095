use Rattle.std.proofs.Common.{◌≡◌, ◌+◌, ◌≤◌}
use Rattle.capture_board.specs.Deltas.{node_count}
use Rattle.capture_board.specs.Walking.{StandsIn, node_before}
use Rattle.line_matcher.specs.Concerned.{no_points}
use Rattle.line_matcher.specs.Nodes.{IsFoundAmong}
use Rattle.line_matcher.proofs.AtNodes.{IsEnteredTo}
use Rattle.line_matcher.proofs.at_nodes.add_at_nodes.Given as goal

-- the given nodes so far
abbrev pub invariant-loop-node : goal.invariant-loop-node
invariant-loop-node g l = record {
  found : IsFoundAmong l.deltas l.matcher.images.now.placements l.nodes l.entered l.initial.found.items l.found.items;
  given : IsEnteredTo l.nodes l.node-index l.entered;
  in_range : l.entered ≤ node_count l.deltas;
  stands : StandsIn l.deltas l.walker;
  here : l.walker.here ≡ node_before l.entered;
  steps : l.steps ≡ l.initial.steps + l.entered;
  none : l.points ≡ no_points;
}
