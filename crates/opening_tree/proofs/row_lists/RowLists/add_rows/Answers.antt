use Rattle.std.proofs.Common.{◌≡◌, ◌∙◌, [], List, ap, arith, drop, refl, set, sym}
use Rattle.std.proofs.lemmas.List.{drop_all}
use Rattle.opening_tree.specs.declared.answer.NextMove.{NextMove}
use Rattle.opening_tree.specs.Groups.{with_more_rows}
use Rattle.opening_tree.specs.OpeningTables.{lists_of}
use Rattle.opening_tree.proofs.RowListSets.{put-next, rows_in, set-own}
use Rattle.opening_tree.proofs.RowsGrow.{any_default}
use Rattle.opening_tree.proofs.RowsJoin.{rows-room}
use Rattle.opening_tree.proofs.row_lists.RowLists.add_rows.Goals as goal

pub loop-row-init : goal.loop-row-init
loop-row-init c = record {
  are = c.requires.are;
  long = refl;
  is_set = set-own c.args.list c.args.self.now c.requires.list;
  leads = refl;
}

pub add-requires-clause-list : goal.add-requires-clause-list
add-requires-clause-list c = omega (arith, c.requires.list, c.loop-row.invariant.long)

pub add-requires-clause-room : goal.add-requires-clause-room
add-requires-clause-room c = rows-room 18446744073709551615 (rows_in c.args.list c.args.self.now) (rows_in c.args.list c.loop-row.self) c.args.more.now c.loop-row.row-index _ c.requires.room c.loop-row.invariant.leads c.loop-row-test.true

pub loop-row-preserved : goal.loop-row-preserved
loop-row-preserved c =
    put-next c.args.list c.args.self.now c.loop-row.self c.add.new.self c.args.more.now c.loop-row.row-index _ c.loop-row.invariant c.requires.list c.loop-row-test.true
    (any_default c.args.more.now c.loop-row.row-index _ _ c.loop-row-test.true)
    c.add.ensures.are c.add.ensures.long c.in_ok-add.ensures.added

pub returns-clause-added : goal.returns-clause-added
returns-clause-added c =
    let end : drop c.loop-row.row-index c.args.more.now ≡ [] = drop_all c.loop-row.row-index c.args.more.now (omega (arith, c.loop-row-test.false)) in
    c.loop-row.invariant.is_set
    ∙ ap (λ (rs : List NextMove). set (lists_of c.args.self.now) c.args.list rs) (sym (ap (with_more_rows (rows_in c.args.list c.loop-row.self)) end) ∙ c.loop-row.invariant.leads)
