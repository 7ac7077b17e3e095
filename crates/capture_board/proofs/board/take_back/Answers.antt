use Rattle.std.proofs.Common.{arith}
use Rattle.kb_geometry.specs.declared.stone.Change.{Change}
use Rattle.kb_geometry.specs.declared.stone.Cell.TheVariants as cell
use Rattle.capture_board.proofs.NetChanges.{AreTakenBack-more, AreTakenBack-all, LeadFrom-undone}
use Rattle.capture_board.proofs.board.take_back.Goals as goal

pub loop-change-preserved : goal.loop-change-preserved
loop-change-preserved c =
    let none : Change = record { point = 0; old = cell.Empty; new = cell.Empty } in
    rw c.from.ensures (AreTakenBack-more c.args.cells.now c.args.changes.now c.requires c.loop-change.cells c.loop-change.change-index c.loop-change.invariant none (omega arith))

pub returns-clause-undone : goal.returns-clause-undone
returns-clause-undone c = AreTakenBack-all c.args.cells.now c.args.changes.now c.requires c.loop-change.cells c.loop-change.change-index c.loop-change.invariant (omega arith)

pub returns-clause-restores : goal.returns-clause-restores
returns-clause-restores c =
    let undone = AreTakenBack-all c.args.cells.now c.args.changes.now c.requires c.loop-change.cells c.loop-change.change-index c.loop-change.invariant (omega arith) in
    λ before lead. LeadFrom-undone before c.args.changes.now c.args.cells.now lead c.loop-change.cells undone
