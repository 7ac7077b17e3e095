use Rattle.ready_images.specs.Placing.{ArePlacedTo}
use Rattle.ready_images.specs.Rows.{AreRowsTo}
use Rattle.ready_images.proofs.rows.rows_of.Given as goal

-- the classes so far
abbrev pub invariant-loop-class : goal.invariant-loop-class
invariant-loop-class l = record {
  placed : ArePlacedTo l.images l.class 0 l.made.numbers.items;
  rows : AreRowsTo l.images l.made.numbers.items l.made.rows.items;
}
