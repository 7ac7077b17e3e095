use Rattle.std.proofs.Common.{◌∙◌, ap, length, sym}
use Rattle.opening_tree.specs.OpeningTables.{OpeningList, lists_of}
use Rattle.opening_tree.proofs.StoredTables.{length-stored, many-table}
use Rattle.opening_tree.proofs.opening_table.OpeningTable.len.Goals as goal

pub returns : goal.returns
returns c =
    let t = c.self.inside in
    c.len.ensures ∙ t.counts.ok.0 ∙ c.self.invariant.counted
    ∙ sym (length-stored t.keys.keys t.counts.items (lists_of t.rows) (many-table t.keys.keys t.counts.items t.rows c.self.invariant))
    ∙ ap (λ (v : OpeningList). length v.entries) c.self.view_is
