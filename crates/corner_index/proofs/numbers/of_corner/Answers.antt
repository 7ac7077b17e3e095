use Rattle.std.proofs.Common.{◌++◌, ◌∷◌, [], ◌∙◌, ap, sym, take, take_all}
use Rattle.corner_index.specs.Keys.{of_corner}
use Rattle.corner_index.proofs.NodeNumbers.{of_corner-more}
use Rattle.corner_index.proofs.numbers.of_corner.Goals as goal

pub loop-node-preserved : goal.loop-node-preserved
loop-node-preserved c =
    c.in_ok-push.ensures.items ∙ ap (λ ns. ns ++ c.of.result ∷ []) c.loop-node.invariant
    ∙ ap (λ n. of_corner c.args.corner (take c.loop-node.node-index c.args.nodes.now) ++ n ∷ []) c.of.ensures
    ∙ sym (of_corner-more c.args.corner c.args.nodes.now c.loop-node.node-index _ c.loop-node-test.true)

pub returns : goal.returns
returns c = c.loop-node.invariant ∙ ap (of_corner c.args.corner) (take_all c.loop-node.node-index c.args.nodes.now c.loop-node-test.false)
