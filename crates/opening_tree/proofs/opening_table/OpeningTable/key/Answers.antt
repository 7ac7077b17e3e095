use Rattle.std.proofs.Common.{◌<◌, ◌∙◌, ap, length, subst, sym}
use Rattle.std.specs.Prelude.{slice_index_or}
use Rattle.opening_tree.specs.OpeningTables.{OpeningList}
use Rattle.opening_tree.proofs.OpeningTableSteps.{at-keys, key-at}
use Rattle.opening_tree.proofs.opening_table.OpeningTable.key.Goals as goal

pub key-requires : goal.key-requires
key-requires c =
    let t = c.self.inside in
    at-keys t.keys.keys t.counts.items t.rows c.self.invariant c.args.at (subst (λ (v : OpeningList). c.args.at < length v.entries) (sym c.self.view_is) c.requires)

pub returns : goal.returns
returns c d =
    let t = c.self.inside in
    key-at t.keys.keys t.counts.items t.rows c.self.invariant c.args.at (subst (λ (v : OpeningList). c.args.at < length v.entries) (sym c.self.view_is) c.requires) d c.key.result.now c.key.ensures
    ∙ ap (λ (v : OpeningList). (slice_index_or v.entries c.args.at d).0) c.self.view_is
