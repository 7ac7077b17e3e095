use Rattle.std.proofs.Common.{ap, refl}
use Rattle.game_tree.specs.declared.building.BuildError.TheVariants.{Fault}
use Rattle.game_tree.proofs.NodeValues.{same_fault}
use Rattle.game_tree.proofs.node_values.read_setup.Goals as goal

pub returns-in-None-clause-fault : goal.returns-in-None-clause-fault
returns-in-None-clause-fault c = λ f e.
    let (at, of) = same_fault _ _ _ f (ap Fault c.fault_at.ensures) e in
    (at, of, rw c.bytes_of.ensures at c.in-None.ensures.none refl)
