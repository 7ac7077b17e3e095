use Rattle.std.proofs.Common.{◌≡◌, take}
use Rattle.continuation_table.specs.Table.{AreRows, tally_of}
use Rattle.continuation_table.proofs.table.Table.of.Given as goal

abbrev pub invariant-loop-hit : goal.invariant-loop-hit
invariant-loop-hit l = record {
  rows : AreRows (take l.hit-index l.hits) l.rows.items;
  totals : l.totals ≡ tally_of (take l.hit-index l.hits);
}
