use Rattle.capture_board.proofs.CellSetLemmas.{more_on_board, made_more}
use Rattle.capture_board.proofs.cell_sets.CellSets.make.Goals as goal

pub put-requires : goal.put-requires
put-requires c = more_on_board c.args.self.now c.loop-change.self c.args.changes.now c.loop-change.change-index _ c.loop-change-test.true _ c.loop-change.invariant c.requires

pub loop-change-preserved : goal.loop-change-preserved
loop-change-preserved c = made_more c.args.self.now c.loop-change.self c.args.changes.now c.loop-change.change-index _ c.loop-change-test.true c.put.new.self c.loop-change.invariant c.put.ensures
