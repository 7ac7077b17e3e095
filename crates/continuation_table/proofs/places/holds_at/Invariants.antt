use Rattle.std.proofs.Common.{ℕ, ◌<◌}
use Rattle.pattern_images.specs.Grid.{cell_in}
use Rattle.pattern_images.specs.Holds.{Allows, number_under}
use Rattle.pattern_images.specs.ImageList.{placement_at}
use Rattle.continuation_table.specs.Rebuilding.{known_cell}
use Rattle.continuation_table.proofs.places.holds_at.Given as goal

abbrev pub invariant-loop-dy : goal.invariant-loop-dy
invariant-loop-dy l =
    (dy dx : ℕ) → dy < l.dy → dx < (placement_at l.images.placements l.i).grid.cols →
    Allows (cell_in (placement_at l.images.placements l.i).grid dx dy) (known_cell l.known.cells (number_under l.images.shape (placement_at l.images.placements l.i) dx dy))
