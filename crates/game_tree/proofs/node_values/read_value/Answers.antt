use Rattle.std.proofs.Common.{[]}
use Rattle.game_tree.specs.NodeValues.{nothing}
use Rattle.game_tree.proofs.NodeValues.{nothing_added, property_other, property_sets, setup_bad, setup_done}
use Rattle.game_tree.proofs.node_values.read_value.Goals as goal

pub returns-in-Sets-clause-ok : goal.returns-in-Sets-clause-ok
returns-in-Sets-clause-ok c =
    setup_done c.args.text.now c.args.shape c.args.pair.now c.args.played.now c.in-Sets.cell _ _ _ (property_sets c.args.text.now c.args.pair.now c.of.result _ (rw c.bytes_of.ensures at c.of.ensures) c.in-Sets.is) c.read_setup.ensures.ok

pub returns-in-Sets-clause-fault : goal.returns-in-Sets-clause-fault
returns-in-Sets-clause-fault c = λ f e.
    let (at, of, none) = c.read_setup.ensures.fault f e in
    (at, setup_bad c.args.text.now c.args.shape c.args.pair.now c.args.played.now c.in-Sets.cell f.kind (property_sets c.args.text.now c.args.pair.now c.of.result _ (rw c.bytes_of.ensures at c.of.ensures) c.in-Sets.is) of none)

pub returns-in-Other-clause-ok : goal.returns-in-Other-clause-ok
returns-in-Other-clause-ok c =
    let (mover, setter) = property_other c.args.text.now c.args.pair.now c.of.result (rw c.bytes_of.ensures at c.of.ensures) c.in-Other.is in
    ([], nothing mover setter, nothing_added c.args.builder.now)
