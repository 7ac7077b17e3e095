use Rattle.std.proofs.Common.{ℕ, ◌-◌, ◌<◌, ◌≤◌}
use Rattle.std.specs.Prelude.{◌==◌}
use Rattle.game_tree.specs.Tree.{IsTree, move_number_of, node_count}
use Rattle.capture_board.specs.Deltas.{Deltas}
use Rattle.pattern_images.specs.ImageList.{IsPlaceOf}
use Rattle.pattern_images.specs.Placements.{Placement}
use Rattle.pattern_occurrences.specs.Occurrences.{HoldsAt}
use Rattle.continuation_table.specs.Descending.{IsWayDown}
use Rattle.continuation_table.proofs.way_down.passed_to.Given as goal

abbrev pub invariant-loop-here : goal.invariant-loop-here
invariant-loop-here l = record {
  in_range : l.here < node_count l.tree;
  behind : l.node ≤ l.here;
  moves : IsTree l.tree → move_number_of l.tree l.node ≤ move_number_of l.tree l.here;
  way : IsTree l.tree → (deltas : Deltas) → (placement : Placement) → IsPlaceOf placement l.place → HoldsAt deltas placement l.node →
      ((k : ℕ) → l.node ≤ k → k < l.held_to → HoldsAt deltas placement k) →
      IsWayDown l.tree deltas placement l.node l.here (move_number_of l.tree l.here == move_number_of l.tree l.node);
}

abbrev pub decreases-loop-here : goal.decreases-loop-here
decreases-loop-here l = l.last - l.here
