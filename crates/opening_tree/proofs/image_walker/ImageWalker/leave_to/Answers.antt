use Rattle.std.proofs.Common.{ap}
use Rattle.capture_board.proofs.WalkerSteps.{height_falls, leaves_node, other_place}
use Rattle.opening_tree.specs.Turned.{TurnedWalk}
use Rattle.opening_tree.proofs.TurnedWalks.{IsLeavingTurned-more}
use Rattle.opening_tree.proofs.image_walker.ImageWalker.leave_to.Goals as goal

pub leave-requires-clause-at_node : goal.leave-requires-clause-at_node
leave-requires-clause-at_node c =
    leaves_node c.args.deltas.now c.loop-above.self.here c.args.above c.loop-above.invariant.on_path
    (other_place c.self.inside.here c.loop-above.self.here c.args.above c.ne.result (ap (λ (w : TurnedWalk). w.here) c.self.view_is) c.ne.ensures c.loop-above-test.true)

pub loop-above-smaller : goal.loop-above-smaller
loop-above-smaller c =
    let ne = other_place c.self.inside.here c.loop-above.self.here c.args.above c.ne.result (ap (λ (w : TurnedWalk). w.here) c.self.view_is) c.ne.ensures c.loop-above-test.true in
    height_falls c.loop-above.self.here c.leave.new.self.here (leaves_node c.args.deltas.now c.loop-above.self.here c.args.above c.loop-above.invariant.on_path ne) c.leave.ensures.before

pub loop-above-preserved : goal.loop-above-preserved
loop-above-preserved c =
    let ne = other_place c.self.inside.here c.loop-above.self.here c.args.above c.ne.result (ap (λ (w : TurnedWalk). w.here) c.self.view_is) c.ne.ensures c.loop-above-test.true in
    IsLeavingTurned-more c.args.deltas.now c.args.above _ c.loop-above.self c.leave.new.self c.loop-above.invariant ne c.leave.ensures.here c.leave.ensures.shape c.leave.ensures.stands
