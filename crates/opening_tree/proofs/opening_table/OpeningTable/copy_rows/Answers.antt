use Rattle.std.proofs.Common.{◌<◌, ◌∙◌, ap, length, subst, sym}
use Rattle.std.specs.Prelude.{slice_index_or}
use Rattle.opening_tree.specs.OpeningTables.{OpeningList}
use Rattle.opening_tree.proofs.OpeningTableSteps.{at-lists, copy-at}
use Rattle.opening_tree.proofs.opening_table.OpeningTable.copy_rows.Goals as goal

pub copy_to-requires-clause-are : goal.copy_to-requires-clause-are
copy_to-requires-clause-are c = c.self.invariant.are_rows

pub copy_to-requires-clause-list : goal.copy_to-requires-clause-list
copy_to-requires-clause-list c =
    let t = c.self.inside in
    at-lists t.keys.keys t.counts.items t.rows c.self.invariant c.args.at (subst (λ (v : OpeningList). c.args.at < length v.entries) (sym c.self.view_is) c.requires)

pub returns-clause-rows : goal.returns-clause-rows
returns-clause-rows c d =
    let t = c.self.inside in
    copy-at t.keys.keys t.counts.items t.rows c.self.invariant c.args.at (subst (λ (v : OpeningList). c.args.at < length v.entries) (sym c.self.view_is) c.requires) d c.copy_to.new.rows.items c.in_ok-copy_to.ensures.rows
    ∙ ap (λ (v : OpeningList). (slice_index_or v.entries c.args.at d).1.nexts) c.self.view_is
