use Rattle.std.proofs.Common.{◌≡◌, ◌<◌, arith, length, subst, sym}
use Rattle.std.specs.Prelude.{slice_index_or}
use Rattle.opening_tree.specs.OpeningTables.{OpeningList, opening_in}
use Rattle.opening_tree.proofs.OpeningTableSteps.{at-counts, counts-at}
use Rattle.opening_tree.proofs.opening_table.OpeningTable.counts.Goals as goal

pub index-requires : goal.index-requires
index-requires c =
    let t = c.self.inside in
    omega (arith, at-counts t.keys.keys t.counts.items t.rows c.self.invariant c.args.at (subst (λ (v : OpeningList). c.args.at < length v.entries) (sym c.self.view_is) c.requires), t.counts.ok.0)

pub returns : goal.returns
returns c d =
    let t = c.self.inside in
    subst (λ (v : OpeningList). opening_in c.index.result.now (slice_index_or v.entries c.args.at d).1.nexts ≡ (slice_index_or v.entries c.args.at d).1) c.self.view_is
    (counts-at t.keys.keys t.counts.items t.rows c.self.invariant c.args.at (subst (λ (v : OpeningList). c.args.at < length v.entries) (sym c.self.view_is) c.requires) d c.index.result.now c.index.ensures)
