use Rattle.std.proofs.Common.{sym, ◌∙◌, arith}
use Rattle.capture_index.proofs.NodesFrom.{nodes-further, nodes-here, nodes-past}
use Rattle.capture_index.proofs.nodes_where.next_begin.Goals as goal

pub returns-then-begins-clause-next : goal.returns-then-begins-clause-next
returns-then-begins-clause-next c = (
  omega (arith, c.node_count-nodes.ensures.value),
  c.loop-node.invariant ∙ nodes-here c.args.index.now c.args.point c.args.cell c.loop-node.node (omega (arith, c.node_count-nodes.ensures.value)) (sym c.begins.ensures ∙ c.if-begins.true),
)

pub loop-node-preserved : goal.loop-node-preserved
loop-node-preserved c =
    c.loop-node.invariant
    ∙ nodes-further c.args.index.now c.args.point c.args.cell c.loop-node.node c.next_place-node.result c.next_place-node.ensures.more c.next_place-node.ensures.most (sym c.begins.ensures ∙ c.if-begins.false) c.next_place-node.ensures.none

pub returns-clause-next : goal.returns-clause-next
returns-clause-next c = c.loop-node.invariant ∙ nodes-past c.args.index.now c.args.point c.args.cell c.loop-node.node (omega (arith, c.node_count-nodes.ensures.value))
