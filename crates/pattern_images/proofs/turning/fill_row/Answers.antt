-- One turn fills in the cell of the next point.
use Rattle.std.proofs.Common.{◌≡◌, ◌+◌, ◌-◌, ◌*◌, set, refl, ap, ◌∙◌, subst, arith}
use Rattle.kb_geometry.specs.Board.{cols_of, IsOnBoard}
use Rattle.kb_geometry.specs.Symmetry.{number_of_label, inverse_number, symmetry_of, moved, turned_cols, point_of}
use Rattle.pattern_images.specs.Pattern.{grid_of}
use Rattle.pattern_images.specs.Turned.{turned_cell, AreFilledTo}
use Rattle.pattern_images.proofs.Turned.{filled-more, cell-from, from-lt, strides-number}
use Rattle.pattern_images.proofs.turning.fill_row.Goals as goal

pub loop-x-init : goal.loop-x-init
loop-x-init c = subst (λ n. AreFilledTo c.args.to (turned_cell (number_of_label c.args.label) c.args.to (grid_of c.args.pattern.now)) n c.args.cells.now) (omega arith) c.requires.above

pub bounds-from-at : goal.bounds-from-at
bounds-from-at c =
    let to = c.args.to in
    let x = c.loop-x.x in
    let p = point_of c.loop-x.x c.args.y in
    let n = inverse_number (symmetry_of (number_of_label c.args.label)) in
    let on : IsOnBoard to p = (omega arith, c.requires.row) in
    let there : c.at.result ≡ (moved n to p).y * turned_cols n to + (moved n to p).x =
    strides-number n to c.args.strides p (c.rows.result - 1 - c.args.y) (c.from-last.result - x) c.base-base.result c.at.result c.requires.strides on (omega arith) (omega arith) c.base-base.ensures.value c.at.ensures in
    from-lt c.args.pattern.now (number_of_label c.args.label) to p (c.requires.cols, c.requires.rows) n c.at.result c.cells-from.result.now on refl there c.cells-from.ensures.value

pub loop-x-preserved : goal.loop-x-preserved
loop-x-preserved c =
    let to = c.args.to in
    let x = c.loop-x.x in
    let p = point_of c.loop-x.x c.args.y in
    let k = c.args.y * cols_of c.args.to + c.loop-x.x in
    let n = inverse_number (symmetry_of (number_of_label c.args.label)) in
    let on : IsOnBoard to p = (omega arith, c.requires.row) in
    let start : c.from.result * c.from-cols.result ≡ c.args.y * cols_of to = ap (λ a. a * c.from-cols.result) c.from.ensures ∙ ap (λ b. c.args.y * b) (c.from-cols.ensures ∙ c.cols.ensures.value) in
    let there : c.at.result ≡ (moved n to p).y * turned_cols n to + (moved n to p).x =
    strides-number n to c.args.strides p (c.rows.result - 1 - c.args.y) (c.from-last.result - x) c.base-base.result c.at.result c.requires.strides on (omega arith) (omega arith) c.base-base.ensures.value c.at.ensures in
    subst (λ n. AreFilledTo to (turned_cell (number_of_label c.args.label) to (grid_of c.args.pattern.now)) n (set c.loop-x.cells (c.from.result * c.from-cols.result + c.loop-x.x) c.look_up.result)) (omega arith)
    (filled-more to (turned_cell (number_of_label c.args.label) to (grid_of c.args.pattern.now)) k p c.loop-x.cells (set c.loop-x.cells (c.from.result * c.from-cols.result + c.loop-x.x) c.look_up.result)
    on refl c.loop-x.invariant
    (ap (λ at. set c.loop-x.cells at c.look_up.result) (omega (arith, start))
    ∙ ap (set c.loop-x.cells k) (c.look_up.ensures ∙ c.requires.table _ ∙ cell-from c.args.pattern.now (number_of_label c.args.label) to p (c.requires.cols, c.requires.rows) n c.at.result c.cells-from.result.now on refl there c.cells-from.ensures.value _)))

pub returns : goal.returns
returns c = subst (λ n. AreFilledTo c.args.to (turned_cell (number_of_label c.args.label) c.args.to (grid_of c.args.pattern.now)) n c.loop-x.cells) (omega arith) c.loop-x.invariant
