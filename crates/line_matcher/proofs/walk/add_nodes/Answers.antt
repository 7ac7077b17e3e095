-- One node more.
use Rattle.std.proofs.Common.{◌∙◌, ap, sym, arith, add-one}
use Rattle.capture_board.specs.Walking.{node_before}
use Rattle.line_matcher.proofs.Nodes.{IsFoundTo-more}
use Rattle.line_matcher.proofs.walk.add_nodes.Goals as goal

pub loop-node-preserved : goal.loop-node-preserved
loop-node-preserved g c =
    let n = c.loop-node.node in
    record {
      found = IsFoundTo-more c.args.deltas.now c.args.matcher.now.images.now.placements n c.args.found.now.items c.loop-node.found.items c.add_node.new.found.items c.loop-node.invariant.found c.in_ok-add_node.ensures.found;
      stands = c.enter_next.ensures.stands;
      here = c.enter_next.ensures.here ∙ sym (ap node_before (add-one n));
      steps = omega arith;
      none = c.in_ok-add_node.ensures.none;
    }
