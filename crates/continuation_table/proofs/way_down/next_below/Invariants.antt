use Rattle.std.proofs.Common.{◌-◌, ◌<◌, ◌≤◌}
use Rattle.std.specs.Prelude.{◌==◌}
use Rattle.game_tree.specs.Tree.{move_number_of, node_count}
use Rattle.pattern_images.specs.ImageList.{placement_at}
use Rattle.continuation_table.specs.Descending.{IsWayDown}
use Rattle.continuation_table.proofs.way_down.next_below.Given as goal

abbrev pub invariant-loop-child : goal.invariant-loop-child
invariant-loop-child l = record {
  in_range : l.here < node_count l.tree;
  behind : l.node ≤ l.here;
  moves : move_number_of l.tree l.node ≤ move_number_of l.tree l.here;
  way : IsWayDown l.tree l.deltas (placement_at l.images.placements l.i) l.node l.here (move_number_of l.tree l.here == move_number_of l.tree l.node);
}

abbrev pub decreases-loop-child : goal.decreases-loop-child
decreases-loop-child l = node_count l.tree - l.here
