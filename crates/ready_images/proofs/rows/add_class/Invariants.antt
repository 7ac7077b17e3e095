use Rattle.std.proofs.Common.{get_or, length}
use Rattle.ready_images.specs.Placing.{ArePlacedTo}
use Rattle.ready_images.specs.Rows.{AreRowsTo}
use Rattle.ready_images.proofs.rows.add_class.Given as goal

-- the placements so far: those before the next one of the list
abbrev pub invariant-loop-i : goal.invariant-loop-i
invariant-loop-i l = record {
  placed : ArePlacedTo l.images l.class (get_or l.of_class l.i-index (length l.images.placements)) l.made.numbers.items;
  rows : AreRowsTo l.images l.made.numbers.items l.made.rows.items;
}
