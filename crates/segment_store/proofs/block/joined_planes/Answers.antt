use Rattle.std.proofs.Common.{◌++◌}
use Rattle.segment_store.proofs.GamesOfPlanes.{AreMadeFor-more}
use Rattle.segment_store.proofs.block.joined_planes.Goals as goal

pub loop-shape-preserved : goal.loop-shape-preserved
loop-shape-preserved c =
    rw c.in_ok-push.ensures.items (AreMadeFor-more c.args.shapes.now c.loop-shape.shape-index c.shape-item.result (c.args.a.now ++ c.args.b.now) c.loop-shape.planes.items c.in_ok-joined_on.field-0 c.loop-shape-test.true c.shape-item.is
    c.loop-shape.invariant c.in_ok-joined_on.ensures)
