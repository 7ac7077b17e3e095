use Rattle.std.proofs.Common.{ap}
use Rattle.corner_index.specs.Keys.{number_in, of_corner}
use Rattle.corner_index.proofs.NodeNumbers.{numbers_to-more, of_corner-pushed}
use Rattle.corner_index.proofs.numbers.numbers_at_nodes.Goals as goal

pub loop-n-init : goal.loop-n-init
loop-n-init c = λ corner few. ap (of_corner corner) c.in_ok-nodes.ensures.items

pub loop-n-preserved : goal.loop-n-preserved
loop-n-preserved c = λ corner few.
    numbers_to-more c.args.deltas.now corner c.loop-n.n (of_corner corner c.loop-n.nodes.items) (of_corner corner c.push.new.self.items) (number_in corner c.numbers_at.result) (c.loop-n.invariant corner few)
    (of_corner-pushed corner c.loop-n.nodes.items c.push.new.self.items c.numbers_at.result c.in_ok-push.ensures.items) (c.numbers_at.ensures corner few)
