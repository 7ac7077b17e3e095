use Rattle.std.proofs.Common.{◌≡◌, length}
use Rattle.ready_images.specs.Placing.{AreByClass}
use Rattle.ready_images.proofs.ClassLists.{lists_of}
use Rattle.ready_images.proofs.rows.by_class.Given as goal

-- the placements so far
abbrev pub invariant-loop-i : goal.invariant-loop-i
invariant-loop-i l = record {
  count : length l.lists.items ≡ length l.images.grids;
  each : AreByClass l.images l.i (lists_of l.lists.items);
}
