use Rattle.std.proofs.Common.{◌∙◌, List, ap}
use Rattle.opening_tree.specs.declared.answer.NextMove.{NextMove}
use Rattle.opening_tree.specs.OpeningTables.{opening_in}
use Rattle.opening_tree.proofs.opening_table.OpeningTable.shown.Goals as goal

pub returns : goal.returns
returns c d =
    c.shown.ensures
    ∙ ap (λ (rs : List NextMove). opening_in c.counts.result rs) (c.in_ok-copy_rows.ensures.rows d)
    ∙ c.counts.ensures d
