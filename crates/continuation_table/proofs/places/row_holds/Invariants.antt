use Rattle.std.proofs.Common.{ℕ, ◌<◌}
use Rattle.pattern_images.specs.Grid.{cell_in}
use Rattle.pattern_images.specs.Holds.{Allows, number_under}
use Rattle.pattern_images.specs.ImageList.{placement_at}
use Rattle.continuation_table.specs.Rebuilding.{known_cell}
use Rattle.continuation_table.proofs.places.row_holds.Given as goal

abbrev pub invariant-loop-dx : goal.invariant-loop-dx
invariant-loop-dx l =
    (dx : ℕ) → dx < l.dx →
    Allows (cell_in (placement_at l.images.placements l.i).grid dx l.dy) (known_cell l.known.cells (number_under l.images.shape (placement_at l.images.placements l.i) dx l.dy))
