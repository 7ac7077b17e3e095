use Rattle.std.proofs.Common.{◌≡◌, ℕ, length, ap, Err, subst, arith}
use Rattle.game_tree.specs.RawGames.{HasBuilt}
use Rattle.game_tree.proofs.BuiltGames.{node-bad, node-next, node-read}
use Rattle.game_tree.proofs.NodeValues.{same_error}
use Rattle.game_tree.proofs.WholeGames.{root-there}
use Rattle.game_tree.proofs.game.read_others.Goals as goal

pub loop-number-init : goal.loop-number-init
loop-number-init c =
    let some = root-there c.args.text.now c.args.raw.now c.requires.read in
    record { built = c.requires.root; most = rw c.node_count-number-end.ensures some }

pub read_node-requires-clause-nodes : goal.read_node-requires-clause-nodes
read_node-requires-clause-nodes c = (node-next c.args.text.now c.args.raw.now c.args.shape c.requires.read c.loop-number.number c.node-node.result (rw c.node_count-number-end.ensures at c.loop-number-test.true) c.node-node.ensures _ c.loop-number.invariant.built).nodes

pub read_node-requires-clause-parent : goal.read_node-requires-clause-parent
read_node-requires-clause-parent c = (node-next c.args.text.now c.args.raw.now c.args.shape c.requires.read c.loop-number.number c.node-node.result (rw c.node_count-number-end.ensures at c.loop-number-test.true) c.node-node.ensures _ c.loop-number.invariant.built).parent

pub read_node-requires-clause-room : goal.read_node-requires-clause-room
read_node-requires-clause-room c = (node-next c.args.text.now c.args.raw.now c.args.shape c.requires.read c.loop-number.number c.node-node.result (rw c.node_count-number-end.ensures at c.loop-number-test.true) c.node-node.ensures _ c.loop-number.invariant.built).room

pub read_node-requires-clause-inside : goal.read_node-requires-clause-inside
read_node-requires-clause-inside c = (node-next c.args.text.now c.args.raw.now c.args.shape c.requires.read c.loop-number.number c.node-node.result (rw c.node_count-number-end.ensures at c.loop-number-test.true) c.node-node.ensures _ c.loop-number.invariant.built).inside

pub read_node-requires-clause-ascending : goal.read_node-requires-clause-ascending
read_node-requires-clause-ascending c = (node-next c.args.text.now c.args.raw.now c.args.shape c.requires.read c.loop-number.number c.node-node.result (rw c.node_count-number-end.ensures at c.loop-number-test.true) c.node-node.ensures _ c.loop-number.invariant.built).ascending

pub returns-in-Err-clause-fault : goal.returns-in-Err-clause-fault
returns-in-Err-clause-fault c = λ f e.
    node-bad c.args.text.now c.args.raw.now c.args.shape c.requires.read c.loop-number.number c.node-node.result (rw c.node_count-number-end.ensures at c.loop-number-test.true) c.node-node.ensures _ f c.loop-number.invariant.built (c.in-Err.ensures.fault f (ap Err (same_error _ _ e)))

pub loop-number-preserved : goal.loop-number-preserved
loop-number-preserved c =
    record { built = node-read c.args.text.now c.args.raw.now c.args.shape c.requires.read c.loop-number.number c.node-node.result (rw c.node_count-number-end.ensures at c.loop-number-test.true) c.node-node.ensures _ _ c.loop-number.invariant.built c.in_default.ensures.ok; most = omega (arith, c.loop-number-test.true) }

pub returns-clause-ok : goal.returns-clause-ok
returns-clause-ok c =
    let at : c.loop-number.number ≡ length c.args.raw.now.nodes = omega (arith, c.loop-number-test.false, c.loop-number.invariant.most, c.node_count-number-end.ensures) in
    subst (λ (k : ℕ). HasBuilt c.args.text.now c.args.raw.now c.args.shape k c.loop-number.builder) at c.loop-number.invariant.built
