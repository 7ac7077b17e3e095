use Rattle.std.proofs.Common.{◌+◌, take, List, refl, subst, arith}
use Rattle.std.proofs.lemmas.List.{length-take-le}
use Rattle.continuation_table.specs.declared.table.Row.{Row}
use Rattle.continuation_table.specs.Table.{AreRows}
use Rattle.continuation_table.proofs.KeptRows.{rows_next, rows_past, rows_within, totals_next}
use Rattle.continuation_table.proofs.table.Table.of.Goals.{in-Some+in_ok-add_to_row, in_default}
use Rattle.continuation_table.proofs.table.Table.of.Goals as goal

pub add_to_row-requires-clause-room : goal.add_to_row-requires-clause-room
add_to_row-requires-clause-room c =
    rows_within (take c.loop-hit.hit-index c.args.hits.now) c.loop-hit.rows.items 18446744073709551614 c.loop-hit.invariant.rows
    (omega (arith, c.loop-hit-test.true, length-take-le c.loop-hit.hit-index c.args.hits.now (omega (arith, c.loop-hit-test.true))))

pub loop-hit-preserved : goal.loop-hit-preserved
loop-hit-preserved c = record {
  rows = elim c.match-hit.branch [
    | in-Some+in_ok-add_to_row w ↦
        subst (λ (rows : List Row). AreRows (take (c.loop-hit.hit-index + 1) c.args.hits.now) rows) (rw w.rows-is refl)
        (rows_next c.args.hits.now c.loop-hit.hit-index c.hit-item.result c.loop-hit-test.true c.hit-item.is c.loop-hit.rows.items w.add_to_row.new.rows.items c.loop-hit.invariant.rows w.in-Some.next w.in-Some.is w.first_row.result w.first_row.ensures w.in_ok-add_to_row.ensures)
    | in_default w ↦
        subst (λ (rows : List Row). AreRows (take (c.loop-hit.hit-index + 1) c.args.hits.now) rows) (rw w.rows-is refl)
        (rows_past c.args.hits.now c.loop-hit.hit-index c.hit-item.result c.loop-hit-test.true c.hit-item.is c.loop-hit.rows.items c.loop-hit.invariant.rows w.in_default.is)
  ];
  totals = totals_next c.args.hits.now c.loop-hit.hit-index c.hit-item.result c.loop-hit-test.true c.hit-item.is c.loop-hit.totals c.with-totals.result c.loop-hit.invariant.totals c.with-totals.ensures;
}
