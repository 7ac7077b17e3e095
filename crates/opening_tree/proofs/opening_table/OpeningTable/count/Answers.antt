use Rattle.std.proofs.Common.{◌∙◌, ap, arith, subst, sym}
use Rattle.opening_tree.specs.declared.answer.Opening.{Opening}
use Rattle.opening_tree.specs.Groups.{IsGroupWithin, with_one}
use Rattle.opening_tree.specs.OpeningTables.{IsSaidAt, OpeningList, changed}
use Rattle.opening_tree.proofs.OpeningTableSteps.{counts-lt, entries-counted, table-counted, table-said}
use Rattle.opening_tree.proofs.opening_table.OpeningTable.count.Goals as goal

pub index-counts-requires : goal.index-counts-requires
index-counts-requires c =
    let t = c.self.inside in
    omega (arith, counts-lt t.keys.keys t.counts.items t.rows c.self.invariant (IsGroupWithin 18446744073709551614) c.args.at (subst (λ (v : OpeningList). IsSaidAt (IsGroupWithin 18446744073709551614) v.entries c.args.at) (sym c.self.view_is) c.requires), t.counts.ok.0)

pub index_mut-requires : goal.index_mut-requires
index_mut-requires c =
    let t = c.self.inside in
    omega (arith, counts-lt t.keys.keys t.counts.items t.rows c.self.invariant (IsGroupWithin 18446744073709551614) c.args.at (subst (λ (v : OpeningList). IsSaidAt (IsGroupWithin 18446744073709551614) v.entries c.args.at) (sym c.self.view_is) c.requires), t.counts.ok.0)

pub with_one-requires-clause-count : goal.with_one-requires-clause-count
with_one-requires-clause-count c =
    let t = c.self.inside in
    (table-said t.keys.keys t.counts.items t.rows c.self.invariant (IsGroupWithin 18446744073709551614) c.args.at (subst (λ (v : OpeningList). IsSaidAt (IsGroupWithin 18446744073709551614) v.entries c.args.at) (sym c.self.view_is) c.requires) c.index-counts.result.now c.index-counts.ensures).count

pub with_one-requires-clause-black : goal.with_one-requires-clause-black
with_one-requires-clause-black c =
    let t = c.self.inside in
    (table-said t.keys.keys t.counts.items t.rows c.self.invariant (IsGroupWithin 18446744073709551614) c.args.at (subst (λ (v : OpeningList). IsSaidAt (IsGroupWithin 18446744073709551614) v.entries c.args.at) (sym c.self.view_is) c.requires) c.index-counts.result.now c.index-counts.ensures).black

pub with_one-requires-clause-white : goal.with_one-requires-clause-white
with_one-requires-clause-white c =
    let t = c.self.inside in
    (table-said t.keys.keys t.counts.items t.rows c.self.invariant (IsGroupWithin 18446744073709551614) c.args.at (subst (λ (v : OpeningList). IsSaidAt (IsGroupWithin 18446744073709551614) v.entries c.args.at) (sym c.self.view_is) c.requires) c.index-counts.result.now c.index-counts.ensures).white

pub with_one-requires-clause-other : goal.with_one-requires-clause-other
with_one-requires-clause-other c =
    let t = c.self.inside in
    (table-said t.keys.keys t.counts.items t.rows c.self.invariant (IsGroupWithin 18446744073709551614) c.args.at (subst (λ (v : OpeningList). IsSaidAt (IsGroupWithin 18446744073709551614) v.entries c.args.at) (sym c.self.view_is) c.requires) c.index-counts.result.now c.index-counts.ensures).other

pub invariant_of-self : goal.invariant_of-self
invariant_of-self c =
    let t = c.self.inside in
    table-counted t.keys.keys t.counts.items t.rows c.self.invariant (IsGroupWithin 18446744073709551614) c.args.at (subst (λ (v : OpeningList). IsSaidAt (IsGroupWithin 18446744073709551614) v.entries c.args.at) (sym c.self.view_is) c.requires) c.index-counts.result.now c.index-counts.ensures c.with_one.result

pub returns-clause-entries : goal.returns-clause-entries
returns-clause-entries c =
    let t = c.self.inside in
    entries-counted t.keys.keys t.counts.items t.rows c.self.invariant (IsGroupWithin 18446744073709551614) c.args.at (subst (λ (v : OpeningList). IsSaidAt (IsGroupWithin 18446744073709551614) v.entries c.args.at) (sym c.self.view_is) c.requires) c.index-counts.result.now c.index-counts.ensures (λ (o : Opening). with_one o c.args.outcome) c.with_one.result c.with_one.ensures
    ∙ ap (λ (v : OpeningList). changed (λ (o : Opening). with_one o c.args.outcome) v.entries c.args.at) c.self.view_is
