use Rattle.std.proofs.Common.{◌≡◌, ◌∙◌, ap, subst, sym}
use Rattle.opening_tree.specs.declared.answer.NextMove.{NextMove}
use Rattle.opening_tree.specs.declared.answer.Opening.{Opening}
use Rattle.opening_tree.specs.declared.opening_so_far.OpeningCounts.{OpeningCounts}
use Rattle.opening_tree.specs.Groups.{IsGroupWithin, no_row, row_with_one, with_more_row, with_row, with_rows}
use Rattle.opening_tree.specs.OpeningTables.{IsSaidAt, OpeningList, changed, opening_in}
use Rattle.opening_tree.proofs.OpeningTableSteps.{entries-listed, lists-lt, next-as-row, put-room, rows-said, table-listed}
use Rattle.opening_tree.proofs.RowListSets.{rows_in}
use Rattle.opening_tree.proofs.opening_table.OpeningTable.count_next.Goals as goal

pub add-requires-clause-are : goal.add-requires-clause-are
add-requires-clause-are c = c.self.invariant.are_rows

pub add-requires-clause-list : goal.add-requires-clause-list
add-requires-clause-list c =
    let t = c.self.inside in
    lists-lt t.keys.keys t.counts.items t.rows c.self.invariant (IsGroupWithin 18446744073709551614) c.args.at (subst (λ (v : OpeningList). IsSaidAt (IsGroupWithin 18446744073709551614) v.entries c.args.at) (sym c.self.view_is) c.requires)

pub add-requires-clause-room : goal.add-requires-clause-room
add-requires-clause-room c =
    let t = c.self.inside in
    let row : c.row_with_one.result ≡ row_with_one (no_row c.args.played) c.args.outcome = c.row_with_one.ensures ∙ ap (λ (r : NextMove). row_with_one r c.args.outcome) c.no_row.ensures in
    put-room (rows_in c.args.at t.rows) c.args.played c.args.outcome c.row_with_one.result row (rows-said t.keys.keys t.counts.items t.rows c.self.invariant (IsGroupWithin 18446744073709551614) c.args.at (subst (λ (v : OpeningList). IsSaidAt (IsGroupWithin 18446744073709551614) v.entries c.args.at) (sym c.self.view_is) c.requires) (λ o is. is.rows))

pub invariant_of-self : goal.invariant_of-self
invariant_of-self c =
    let t = c.self.inside in
    table-listed t.keys.keys t.counts.items t.rows c.add.new.self c.self.invariant c.add.ensures.are c.add.ensures.long

pub invariant_of-self-2 : goal.invariant_of-self-2
invariant_of-self-2 c =
    let t = c.self.inside in
    table-listed t.keys.keys t.counts.items t.rows c.add.new.self c.self.invariant c.add.ensures.are c.add.ensures.long

pub returns-clause-entries : goal.returns-clause-entries
returns-clause-entries c =
    let t = c.self.inside in
    let row : c.row_with_one.result ≡ row_with_one (no_row c.args.played) c.args.outcome = c.row_with_one.ensures ∙ ap (λ (r : NextMove). row_with_one r c.args.outcome) c.no_row.ensures in
    let rows : with_more_row (rows_in c.args.at t.rows) c.row_with_one.result ≡ with_row (rows_in c.args.at t.rows) c.args.played c.args.outcome = next-as-row (rows_in c.args.at t.rows) c.args.played c.args.outcome c.row_with_one.result row in
    entries-listed t.keys.keys t.counts.items t.rows c.self.invariant (IsGroupWithin 18446744073709551614) c.args.at (subst (λ (v : OpeningList). IsSaidAt (IsGroupWithin 18446744073709551614) v.entries c.args.at) (sym c.self.view_is) c.requires) (λ (o : Opening). with_rows o (with_row o.nexts c.args.played c.args.outcome)) (with_more_row (rows_in c.args.at t.rows) c.row_with_one.result) c.add.new.self c.in_ok-add.ensures.added
    (λ (x : OpeningCounts). ap (opening_in x) rows)
    ∙ ap (λ (v : OpeningList). changed (λ (o : Opening). with_rows o (with_row o.nexts c.args.played c.args.outcome)) v.entries c.args.at) c.self.view_is
