-- No cell is filled in at first, and all are after the last row.
use Rattle.std.proofs.Common.{◌*◌, ap, ◌∙◌, subst, arith}
use Rattle.std.proofs.Math.Nat.{mul_comm}
use Rattle.kb_geometry.specs.Board.{cols_of, rows_of}
use Rattle.kb_geometry.specs.Symmetry.{inverse_number, number_of_label}
use Rattle.pattern_images.specs.Pattern.{grid_of}
use Rattle.pattern_images.specs.Turned.{turned_cell, AreStrides}
use Rattle.pattern_images.proofs.Turned.{filled-start, filled-all}
use Rattle.pattern_images.proofs.turning.turned_cells.Goals as goal

pub fill_row-requires-clause-strides : goal.fill_row-requires-clause-strides
fill_row-requires-clause-strides c =
    subst (λ n. AreStrides n c.args.to c.strides_of-strides.result) (c.inverse.ensures.value ∙ ap inverse_number c.symmetry.ensures) c.strides_of-strides.ensures

pub loop-y-init : goal.loop-y-init
loop-y-init c = filled-start c.args.to (turned_cell (number_of_label c.args.label) c.args.to (grid_of c.args.pattern.now)) (0 * cols_of c.args.to) c.in_ok-cells.cells.items
    (omega (arith, c.in_ok-cells.ensures.len, c.count.ensures.value, c.from.ensures)) (omega arith)

pub returns : goal.returns
returns c = filled-all c.args.to (turned_cell (number_of_label c.args.label) c.args.to (grid_of c.args.pattern.now)) (c.loop-y.y * cols_of c.args.to) c.loop-y.cells.items
    c.loop-y.invariant (ap (λ n. n * cols_of c.args.to) (omega arith) ∙ mul_comm (rows_of c.args.to) (cols_of c.args.to))
