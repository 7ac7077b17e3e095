-- One of the given nodes more, behind some that aren't given.
use Rattle.std.proofs.Common.{◌<◌, length, slice_index, arith}
use Rattle.std.proofs.lemmas.List.{get_or_default}
use Rattle.capture_board.specs.Deltas.{node_count}
use Rattle.line_matcher.proofs.AtNodes.{IsEnteredTo-more, IsFoundAmong-more, IsFoundAmong-skip, none_between}
use Rattle.line_matcher.proofs.at_nodes.add_at_nodes.Goals as goal

pub returns-then-node-node_count-clause-found : goal.returns-then-node-node_count-clause-found
returns-then-node-node_count-clause-found g c =
    let so_far = c.loop-node.invariant in
    let from = c.loop-node.entered in
    IsFoundAmong-skip c.args.deltas.now c.args.matcher.now.images.now.placements c.args.nodes.now from (node_count c.args.deltas.now) c.args.found.now.items c.loop-node.found.items so_far.in_range
    (λ i low lt. none_between c.args.nodes.now c.requires.ascending c.loop-node.node-index from so_far.given i low (λ there. omega (arith, c.node_count.ensures.value)))
    so_far.found

pub loop-node-preserved : goal.loop-node-preserved
loop-node-preserved g c =
    let so_far = c.loop-node.invariant in
    let from = c.loop-node.entered in
    let given = c.args.nodes.now in
    let k = c.loop-node.node-index in
    let n = slice_index given k in
    let there : k < length given = omega (arith, c.loop-node-test.true) in
    let before =
    IsFoundAmong-skip c.args.deltas.now c.args.matcher.now.images.now.placements given from n c.args.found.now.items c.loop-node.found.items (so_far.given.ahead k (omega arith) there)
    (λ i low lt. none_between given c.requires.ascending k from so_far.given i low (λ h. lt))
    so_far.found in
    record {
      found = IsFoundAmong-more c.args.deltas.now c.args.matcher.now.images.now.placements given n c.args.found.now.items c.loop-node.found.items c.add_node.new.found.items
          (k, there, get_or_default given k n 0 there) before c.in_ok-add_node.ensures.found;
      given = IsEnteredTo-more given c.requires.ascending k from so_far.given there;
      in_range = omega (arith, c.node_count.ensures.value);
      stands = c.enter_to.ensures.stands;
      here = c.enter_to.ensures.last;
      steps = omega (arith, c.enter_to.ensures.steps, so_far.steps);
      none = c.in_ok-add_node.ensures.none;
    }

pub returns-clause-found : goal.returns-clause-found
returns-clause-found g c =
    let so_far = c.loop-node.invariant in
    let from = c.loop-node.entered in
    IsFoundAmong-skip c.args.deltas.now c.args.matcher.now.images.now.placements c.args.nodes.now from (node_count c.args.deltas.now) c.args.found.now.items c.loop-node.found.items so_far.in_range
    (λ i low lt. none_between c.args.nodes.now c.requires.ascending c.loop-node.node-index from so_far.given i low (λ there. absurd (omega (arith, there, c.loop-node-test.false))))
    so_far.found
