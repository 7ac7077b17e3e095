use Rattle.std.proofs.Common.{refl}
use Rattle.capture_board.proofs.WalkerSteps.{IsLeaving-more, height_falls, leaves_node, other_place, walker_at}
use Rattle.node_position.proofs.Returning.{same_place}
use Rattle.node_position.proofs.building.go_back.Goals as goal

pub loop-above-init : goal.loop-above-init
loop-above-init c = record { stands = c.requires.shows; on_path = c.requires.above }

pub take_back-here-requires-clause-at_node : goal.take_back-here-requires-clause-at_node
take_back-here-requires-clause-at_node c =
    leaves_node c.args.deltas.now c.loop-above.here c.args.above c.loop-above.invariant.on_path
    (other_place c.loop-above.here c.loop-above.here c.args.above c.ne.result refl c.ne.ensures c.loop-above-test.true)

pub take_back-here-requires-clause-shows : goal.take_back-here-requires-clause-shows
take_back-here-requires-clause-shows c = c.loop-above.invariant.stands

pub loop-above-smaller : goal.loop-above-smaller
loop-above-smaller c =
    let ne = other_place c.loop-above.here c.loop-above.here c.args.above c.ne.result refl c.ne.ensures c.loop-above-test.true in
    height_falls c.loop-above.here c.take_back-here.result (leaves_node c.args.deltas.now c.loop-above.here c.args.above c.loop-above.invariant.on_path ne) c.take_back-here.ensures.before

pub loop-above-preserved : goal.loop-above-preserved
loop-above-preserved c =
    let ne = other_place c.loop-above.here c.loop-above.here c.args.above c.ne.result refl c.ne.ensures c.loop-above-test.true in
    IsLeaving-more c.args.deltas.now c.args.above (walker_at c.loop-above.here c.loop-above.board) (walker_at c.take_back-here.result c.take_back-here.new.board) c.loop-above.invariant ne c.take_back-here.ensures.parent c.take_back-here.ensures.shows

pub returns : goal.returns
returns c =
    let there = same_place c.loop-above.here c.args.above c.ne.result c.ne.ensures c.loop-above-test.false in
    rw there at c.loop-above.invariant.stands
