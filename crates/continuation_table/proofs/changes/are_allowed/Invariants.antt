use Rattle.std.proofs.Common.{take}
use Rattle.pattern_images.specs.ImageList.{placement_at}
use Rattle.continuation_table.specs.Descending.{AreAllowed}
use Rattle.continuation_table.proofs.changes.are_allowed.Given as goal

abbrev pub invariant-loop-change : goal.invariant-loop-change
invariant-loop-change l =
    AreAllowed l.images.shape (placement_at l.images.placements l.i) (take l.change-index l.changes)
