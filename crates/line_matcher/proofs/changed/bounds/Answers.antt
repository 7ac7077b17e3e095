-- The rectangle grows by one point more.
use Rattle.std.proofs.Common.{arith}
use Rattle.kb_geometry.specs.Board.{cols_of, rows_of}
use Rattle.line_matcher.proofs.ChangedPoints.{HoldsBelow-more, HoldsBelow-all}
use Rattle.line_matcher.proofs.changed.bounds.Goals as goal

pub loop-change-preserved : goal.loop-change-preserved
loop-change-preserved c =
    let grown = c.with_point-rect.ensures in
    let held = grown.kept (record { x = c.loop-change.rect.x0; y = c.loop-change.rect.y0 }) (omega arith, omega arith, omega arith, omega arith) in (
      (omega arith, omega arith, grown.columns (cols_of c.args.shape) (omega arith) c.point.ensures.on_board.0, grown.rows (rows_of c.args.shape) (omega arith) c.point.ensures.on_board.1),
      HoldsBelow-more c.args.shape c.args.changes.now c.loop-change.change-index c.loop-change.rect c.with_point-rect.result c.point.result c.loop-change.invariant.1 grown c.point.ensures.only,
    )

pub returns : goal.returns
returns c =
    (c.loop-change.invariant.0, HoldsBelow-all c.args.shape c.args.changes.now c.loop-change.change-index c.loop-change.rect c.loop-change-test.false c.loop-change.invariant.1)
