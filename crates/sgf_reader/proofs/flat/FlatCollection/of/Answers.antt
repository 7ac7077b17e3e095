use Rattle.std.proofs.Common.{◌∙◌}
use Rattle.sgf_reader.proofs.NestedLists.{HasStored-all, HasStored-more, HasStored-start}
use Rattle.sgf_reader.proofs.flat.FlatCollection.of.Goals as goal

pub loop-game-init : goal.loop-game-init
loop-game-init c = HasStored-start _ _ _ _ c.new-pairs.ensures.items c.new-nodes.ensures.items c.new-ends.ensures.items

pub loop-game-preserved : goal.loop-game-preserved
loop-game-preserved c =
    let all = c.add_nodes.new.nodes in
    rw c.in_ok-push.ensures.items
    (HasStored-more _ _ _ _ _ _ _ c.game-item.result _ c.loop-game.invariant (rw c.as_slice-game-items.ensures at c.loop-game-test.true) (rw c.as_slice-game-items.ensures at c.game-item.is) c.in_ok-add_nodes.ensures.0 c.in_ok-add_nodes.ensures.1 (c.len.ensures ∙ all.ok.0))

pub add_nodes-requires : goal.add_nodes-requires
add_nodes-requires c = c.loop-game.invariant.flat.starts

pub returns : goal.returns
returns c = c.stored.ensures ∙ HasStored-all _ _ _ _ _ c.loop-game.invariant (rw c.as_slice-game-items.ensures at c.loop-game-test.false)
