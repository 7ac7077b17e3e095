use Rattle.std.proofs.Common.{sym, ◌∙◌, ap}
use Rattle.kb_geometry.specs.declared.shape.Shape.{Shape}
use Rattle.kb_geometry.specs.Board.{point_count}
use Rattle.capture_board.specs.Deltas.{parent_of, position_where}
use Rattle.capture_board.proofs.DeltaPaths.{length-position_where}
use Rattle.corner_index.specs.Corners.{corner_number}
use Rattle.corner_index.specs.Keys.{number_in}
use Rattle.corner_index.proofs.NodeNumbers.{next_on_board, number-end, numbers-more, stand_before}
use Rattle.corner_index.proofs.numbers.numbers_at.Goals as goal

pub loop-change-init : goal.loop-change-init
loop-change-init c = λ corner few.
    c.requires.above corner few
    ∙ ap (λ (s : Shape). corner_number corner s (position_where c.args.deltas.now (parent_of c.args.deltas.now c.args.n))) (sym c.shape-shape.ensures.value)

pub all_changed-numbers-requires-clause-point : goal.all_changed-numbers-requires-clause-point
all_changed-numbers-requires-clause-point c =
    next_on_board _ c.changes-changes.result.now c.changes-changes.ensures.changes c.loop-change.change-index _ c.loop-change-test.true c.shape-shape.result c.loop-change.numbers
    (length-position_where c.args.deltas.now (parent_of c.args.deltas.now c.args.n) ∙ ap point_count (sym c.shape-shape.ensures.value)) c.loop-change.invariant

pub all_changed-numbers-requires-clause-before : goal.all_changed-numbers-requires-clause-before
all_changed-numbers-requires-clause-before c = (
  _,
  stand_before _ c.changes-changes.result.now c.changes-changes.ensures.changes c.loop-change.change-index _ c.loop-change-test.true c.shape-shape.result c.loop-change.numbers
      (length-position_where c.args.deltas.now (parent_of c.args.deltas.now c.args.n) ∙ ap point_count (sym c.shape-shape.ensures.value)) c.loop-change.invariant,
)

pub loop-change-preserved : goal.loop-change-preserved
loop-change-preserved c =
    numbers-more _ c.changes-changes.result.now c.changes-changes.ensures.changes c.loop-change.change-index _ c.loop-change-test.true c.shape-shape.result c.loop-change.numbers
    (length-position_where c.args.deltas.now (parent_of c.args.deltas.now c.args.n) ∙ ap point_count (sym c.shape-shape.ensures.value)) c.loop-change.invariant
    c.all_changed-numbers.result c.all_changed-numbers.ensures

pub returns : goal.returns
returns c = λ corner few.
    number-end c.args.deltas.now c.shape-shape.ensures.deltas c.args.n corner c.shape-shape.result (number_in corner c.loop-change.numbers) c.loop-change.change-index c.changes-changes.result.now c.shape-shape.ensures.value c.changes-changes.ensures.value c.loop-change-test.false (c.loop-change.invariant corner few)
