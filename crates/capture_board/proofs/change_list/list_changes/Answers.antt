use Rattle.capture_board.proofs.ChangedPoints.{AreListedBelow-more, AreListedBelow-listed, AreListedBelow-lead}
use Rattle.capture_board.proofs.change_list.list_changes.Goals as goal

pub loop-point-preserved : goal.loop-point-preserved
loop-point-preserved c =
    let next = c.in-Some.ensures.some in
    rw (c.push.ensures, c.from-index.ensures) (AreListedBelow-more c.args.changed.now c.args.cells.now c.loop-point.room c.loop-point.from c.loop-point.invariant c.in-Some.point next.member next.from next.least)

pub returns-clause-listed : goal.returns-clause-listed
returns-clause-listed c = AreListedBelow-listed c.args.changed.now c.args.cells.now c.loop-point.room c.loop-point.from c.loop-point.invariant c.in_default.ensures.none

pub returns-clause-lead : goal.returns-clause-lead
returns-clause-lead c = AreListedBelow-lead c.args.changed.now c.args.cells.now c.loop-point.room c.loop-point.from c.loop-point.invariant c.in_default.ensures.none
