use Rattle.std.proofs.Common.{List, ◌∙◌, ap}
use Rattle.std.proofs.lemmas.List.{take_all}
use Rattle.sgf_reader.specs.declared.collection.RawNode.{RawNode}
use Rattle.sgf_reader.proofs.NestedLists.{node-copied}
use Rattle.sgf_reader.proofs.nested.raw_game.Goals as goal

pub loop-number-init : goal.loop-number-init
loop-number-init c = c.in_ok-nodes.ensures.items

pub loop-number-preserved : goal.loop-number-preserved
loop-number-preserved c =
    rw c.in_ok-push.ensures.items (node-copied _ _ _ c.node-node.result _ _ c.loop-number.invariant (rw c.node_count-number-end.ensures at c.loop-number-test.true) c.node-node.ensures c.parent.ensures (c.in_ok-values_of.ensures ∙ c.pairs.ensures))

pub returns : goal.returns
returns c =
    let all = take_all c.loop-number.number c.args.game.now.nodes (rw c.node_count-number-end.ensures at c.loop-number-test.false) in
    ap (λ (ns : List RawNode). record { nodes = ns }) (c.new.ensures ∙ c.loop-number.invariant ∙ all)
