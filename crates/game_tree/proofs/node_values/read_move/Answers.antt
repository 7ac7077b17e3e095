use Rattle.std.proofs.Common.{ap, refl}
use Rattle.game_tree.specs.declared.building.BuildError.TheVariants.{Fault}
use Rattle.game_tree.proofs.NodeValues.{bad_first, bad_second, first_move, move_by, same_fault}
use Rattle.game_tree.proofs.node_values.read_move.Goals as goal

pub returns-then-is_some-clause-fault : goal.returns-then-is_some-clause-fault
returns-then-is_some-clause-fault c = λ f e.
    let (at, of) = same_fault _ _ _ f (ap Fault c.fault_at.ensures) e in
    (at, bad_second _ _ _ _ _ c.if-is_some.ensures (move_by c.args.text.now c.args.pair.now c.args.colour c.requires.mover) of)

pub returns-in-Some-clause-ok : goal.returns-in-Some-clause-ok
returns-in-Some-clause-ok c = first_move _ _ _ _ _ _ c.if-is_some.ensures c.requires.mover (rw c.bytes_of.ensures at c.in-Some.ensures.some)

pub returns-in-None-clause-fault : goal.returns-in-None-clause-fault
returns-in-None-clause-fault c = λ f e.
    let (at, of) = same_fault _ _ _ f (ap Fault c.fault_at-in-None.ensures) e in
    (at, bad_first _ _ _ _ _ c.if-is_some.ensures (move_by c.args.text.now c.args.pair.now c.args.colour c.requires.mover) (rw c.bytes_of.ensures at c.in-None.ensures.none refl) of)
