-- The pattern's cell allows the cell where it is wanted.
use Rattle.capture_index.specs.Stretches.{is_wanted}
use Rattle.capture_index.proofs.CellsWanted.{allowed-wanted, same-truth}
use Rattle.capture_index.proofs.wanted.is_wanted.Goals as goal

pub returns : goal.returns
returns c =
    let law = allowed-wanted c.args.want.cell c.args.cell in
    same-truth c.allows.result (is_wanted c.args.want c.args.cell) (λ t. law.1 (c.allows.ensures.0 t)) (λ t. c.allows.ensures.1 (law.0 t))
