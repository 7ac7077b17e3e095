use Rattle.kb_geometry.specs.declared.stone.Change.{Change}
use Rattle.kb_geometry.specs.declared.stone.Cell.TheVariants as cell
use Rattle.capture_board.proofs.ChangedPoints.{IsCut-at}
use Rattle.capture_board.proofs.change_list.room.len_below.Goals as goal

pub returns-else-changes-len-clause-cut : goal.returns-else-changes-len-clause-cut
returns-else-changes-len-clause-cut c =
    let none : Change = record { point = 0; old = cell.Empty; new = cell.Empty } in
    IsCut-at c.args.changes.now c.args.from c.loop-len.len none c.requires c.loop-len-test.true c.loop-len.invariant.most c.if-changes-len.false c.loop-len.invariant.rest
