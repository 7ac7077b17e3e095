use Rattle.std.proofs.Common.{◌∙◌, ap, arith, subst, sym}
use Rattle.opening_tree.specs.declared.answer.Opening.{Opening}
use Rattle.opening_tree.specs.Groups.{IsGroupWithin, opening_with, with_more_rows}
use Rattle.opening_tree.specs.OpeningTables.{IsSaidAt, OpeningList, changed, opening_in}
use Rattle.opening_tree.proofs.OpeningTableSteps.{counts-lt, entries-changed, lists-lt, table-changed, table-listed, table-said}
use Rattle.opening_tree.proofs.RowListSets.{rows_in}
use Rattle.opening_tree.proofs.opening_table.OpeningTable.count_more.Goals as goal

pub index-counts-requires : goal.index-counts-requires
index-counts-requires c =
    let t = c.self.inside in
    omega (arith, counts-lt t.keys.keys t.counts.items t.rows c.self.invariant (λ (o : Opening). IsGroupWithin 18446744073709551615 (opening_with o (opening_in c.args.more c.args.rows.now))) c.args.at (subst (λ (v : OpeningList). IsSaidAt (λ (o : Opening). IsGroupWithin 18446744073709551615 (opening_with o (opening_in c.args.more c.args.rows.now))) v.entries c.args.at) (sym c.self.view_is) c.requires), t.counts.ok.0)

pub index_mut-requires : goal.index_mut-requires
index_mut-requires c =
    let t = c.self.inside in
    omega (arith, counts-lt t.keys.keys t.counts.items t.rows c.self.invariant (λ (o : Opening). IsGroupWithin 18446744073709551615 (opening_with o (opening_in c.args.more c.args.rows.now))) c.args.at (subst (λ (v : OpeningList). IsSaidAt (λ (o : Opening). IsGroupWithin 18446744073709551615 (opening_with o (opening_in c.args.more c.args.rows.now))) v.entries c.args.at) (sym c.self.view_is) c.requires), t.counts.ok.0)

pub add_rows-requires-clause-are : goal.add_rows-requires-clause-are
add_rows-requires-clause-are c = c.self.invariant.are_rows

pub add_rows-requires-clause-list : goal.add_rows-requires-clause-list
add_rows-requires-clause-list c =
    let t = c.self.inside in
    lists-lt t.keys.keys t.counts.items t.rows c.self.invariant (λ (o : Opening). IsGroupWithin 18446744073709551615 (opening_with o (opening_in c.args.more c.args.rows.now))) c.args.at (subst (λ (v : OpeningList). IsSaidAt (λ (o : Opening). IsGroupWithin 18446744073709551615 (opening_with o (opening_in c.args.more c.args.rows.now))) v.entries c.args.at) (sym c.self.view_is) c.requires)

pub add_rows-requires-clause-room : goal.add_rows-requires-clause-room
add_rows-requires-clause-room c =
    let t = c.self.inside in
    (table-said t.keys.keys t.counts.items t.rows c.self.invariant (λ (o : Opening). IsGroupWithin 18446744073709551615 (opening_with o (opening_in c.args.more c.args.rows.now))) c.args.at (subst (λ (v : OpeningList). IsSaidAt (λ (o : Opening). IsGroupWithin 18446744073709551615 (opening_with o (opening_in c.args.more c.args.rows.now))) v.entries c.args.at) (sym c.self.view_is) c.requires) c.index-counts.result.now c.index-counts.ensures).rows

pub invariant_of-self : goal.invariant_of-self
invariant_of-self c =
    let t = c.self.inside in
    table-listed t.keys.keys t.counts.items t.rows c.add_rows.new.self c.self.invariant c.add_rows.ensures.are c.add_rows.ensures.long

pub with_more-requires-clause-count : goal.with_more-requires-clause-count
with_more-requires-clause-count c =
    let t = c.self.inside in
    (table-said t.keys.keys t.counts.items t.rows c.self.invariant (λ (o : Opening). IsGroupWithin 18446744073709551615 (opening_with o (opening_in c.args.more c.args.rows.now))) c.args.at (subst (λ (v : OpeningList). IsSaidAt (λ (o : Opening). IsGroupWithin 18446744073709551615 (opening_with o (opening_in c.args.more c.args.rows.now))) v.entries c.args.at) (sym c.self.view_is) c.requires) c.index-counts.result.now c.index-counts.ensures).count

pub with_more-requires-clause-black : goal.with_more-requires-clause-black
with_more-requires-clause-black c =
    let t = c.self.inside in
    (table-said t.keys.keys t.counts.items t.rows c.self.invariant (λ (o : Opening). IsGroupWithin 18446744073709551615 (opening_with o (opening_in c.args.more c.args.rows.now))) c.args.at (subst (λ (v : OpeningList). IsSaidAt (λ (o : Opening). IsGroupWithin 18446744073709551615 (opening_with o (opening_in c.args.more c.args.rows.now))) v.entries c.args.at) (sym c.self.view_is) c.requires) c.index-counts.result.now c.index-counts.ensures).black

pub with_more-requires-clause-white : goal.with_more-requires-clause-white
with_more-requires-clause-white c =
    let t = c.self.inside in
    (table-said t.keys.keys t.counts.items t.rows c.self.invariant (λ (o : Opening). IsGroupWithin 18446744073709551615 (opening_with o (opening_in c.args.more c.args.rows.now))) c.args.at (subst (λ (v : OpeningList). IsSaidAt (λ (o : Opening). IsGroupWithin 18446744073709551615 (opening_with o (opening_in c.args.more c.args.rows.now))) v.entries c.args.at) (sym c.self.view_is) c.requires) c.index-counts.result.now c.index-counts.ensures).white

pub with_more-requires-clause-other : goal.with_more-requires-clause-other
with_more-requires-clause-other c =
    let t = c.self.inside in
    (table-said t.keys.keys t.counts.items t.rows c.self.invariant (λ (o : Opening). IsGroupWithin 18446744073709551615 (opening_with o (opening_in c.args.more c.args.rows.now))) c.args.at (subst (λ (v : OpeningList). IsSaidAt (λ (o : Opening). IsGroupWithin 18446744073709551615 (opening_with o (opening_in c.args.more c.args.rows.now))) v.entries c.args.at) (sym c.self.view_is) c.requires) c.index-counts.result.now c.index-counts.ensures).other

pub invariant_of-self-2 : goal.invariant_of-self-2
invariant_of-self-2 c =
    let t = c.self.inside in
    table-changed t.keys.keys t.counts.items t.rows c.add_rows.new.self c.args.at c.with_more.result c.self.invariant c.add_rows.ensures.are c.add_rows.ensures.long

pub returns-clause-entries : goal.returns-clause-entries
returns-clause-entries c =
    let t = c.self.inside in
    entries-changed t.keys.keys t.counts.items t.rows c.self.invariant (λ (o : Opening). IsGroupWithin 18446744073709551615 (opening_with o (opening_in c.args.more c.args.rows.now))) c.args.at (subst (λ (v : OpeningList). IsSaidAt (λ (o : Opening). IsGroupWithin 18446744073709551615 (opening_with o (opening_in c.args.more c.args.rows.now))) v.entries c.args.at) (sym c.self.view_is) c.requires) c.index-counts.result.now c.index-counts.ensures (λ (o : Opening). opening_with o (opening_in c.args.more c.args.rows.now)) c.with_more.result
    (with_more_rows (rows_in c.args.at t.rows) c.args.rows.now) c.add_rows.new.self c.in_ok-add_rows.ensures.added (c.with_more.ensures (rows_in c.args.at t.rows) c.args.rows.now)
    ∙ ap (λ (v : OpeningList). changed (λ (o : Opening). opening_with o (opening_in c.args.more c.args.rows.now)) v.entries c.args.at) c.self.view_is
