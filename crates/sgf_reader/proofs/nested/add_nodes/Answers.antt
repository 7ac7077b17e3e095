use Rattle.std.proofs.Common.{◌∙◌, refl}
use Rattle.sgf_reader.proofs.NestedLists.{HasAdded-all, HasAdded-more, HasAdded-start}
use Rattle.sgf_reader.proofs.nested.add_nodes.Goals as goal

pub loop-node-init : goal.loop-node-init
loop-node-init c = HasAdded-start _ _ _ c.requires

pub loop-node-preserved : goal.loop-node-preserved
loop-node-preserved c =
    let pairs = c.loop-node.pairs in
    rw (c.in_ok-push.ensures.items, c.in_ok-extend_from_slice.ensures.items, c.as_slice.ensures)
    (HasAdded-more _ _ _ _ _ c.node-item.result _ c.loop-node.invariant (rw c.as_slice-node-items.ensures at c.loop-node-test.true) (rw c.as_slice-node-items.ensures at c.node-item.is) refl (c.len.ensures ∙ pairs.ok.0))

pub returns : goal.returns
returns c = (c.loop-node.invariant.starts, HasAdded-all _ _ _ _ _ c.loop-node.invariant (rw c.as_slice-node-items.ensures at c.loop-node-test.false))
