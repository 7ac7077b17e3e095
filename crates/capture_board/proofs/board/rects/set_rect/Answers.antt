use Rattle.std.proofs.Common.{◌≡◌, ◌+◌, arith}
use Rattle.capture_board.proofs.Rects.{AreRowsSet-none, AreRowsSet-more, AreRowsSet-all}
use Rattle.capture_board.proofs.board.rects.set_rect.Goals as goal

pub loop-y-init : goal.loop-y-init
loop-y-init c = record {
  rows = AreRowsSet-none c.args.shape c.args.rect c.args.cell c.args.cells.now c.requires.on_board;
  noted = λ base are. are;
}

pub loop-y-preserved : goal.loop-y-preserved
loop-y-preserved c = record {
  rows = AreRowsSet-more c.args.shape c.args.rect c.args.cell c.args.cells.now c.requires.on_board c.loop-y.y c.loop-y.auto.y c.loop-y.cells c.set_run.new.cells c.loop-y.invariant.rows (rw (c.number-first.ensures.value, c.number-last.ensures.value) at c.set_run.ensures.set);
  noted = λ base are. c.set_run.ensures.noted base (c.loop-y.invariant.noted base are);
}

pub returns-clause-set : goal.returns-clause-set
returns-clause-set c =
    let end : c.loop-y.y ≡ c.args.rect.y1 + 1 = omega (arith, c.requires.on_board.1) in
    AreRowsSet-all c.args.shape c.args.rect c.args.cell c.args.cells.now c.requires.on_board c.loop-y.cells (rw end at c.loop-y.invariant.rows) c.requires.whole
