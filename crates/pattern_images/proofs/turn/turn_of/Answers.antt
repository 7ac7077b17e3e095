-- The turn has the cells and the upper left points of the pattern under the label.
use Rattle.std.proofs.Common.{◌≡◌, ◌∙◌, length, ap, rules}
use Rattle.kb_geometry.specs.Board.{cols_of, rows_of}
use Rattle.kb_geometry.specs.Symmetry.{number_of_label, number_of_symmetry}
use Rattle.pattern_images.specs.declared.turn.Turn.{Turn}
use Rattle.pattern_images.specs.ImageList.{grid_at}
use Rattle.pattern_images.specs.Pattern.{grid_of}
use Rattle.pattern_images.specs.Turned.{turned_cell, grid_by}
use Rattle.pattern_images.proofs.Turned.{grid_by-count}
use Rattle.pattern_images.proofs.TurnResults.{IsTurnOf-made, made-from}
use Rattle.pattern_images.proofs.turn.turn_of.Goals as goal

pub number-requires : goal.number-requires
number-requires c =
    ap length (c.deref.ensures.value ∙ c.in_ok-cells.ensures) ∙ grid_by-count c.turned-to.result (turned_cell (number_of_label c.args.label) c.turned-to.result (grid_of c.args.query.now.pattern))

pub returns-clause-turn : goal.returns-clause-turn
returns-clause-turn c =
    let turn : Turn = record { label = c.args.label; class = c.in_ok-class.class; corners = c.corners.result } in
    let to = c.turned-to.result in
    let grid : grid_at c.number.new.self c.in_ok-class.class ≡ grid_by to (turned_cell (number_of_label c.args.label) to (grid_of c.args.query.now.pattern)) =
    c.in_ok-class.ensures.there.1 ∙ ap (λ cells. record { cols = cols_of to; rows = rows_of to; cells = cells }) (c.deref.ensures.value ∙ c.in_ok-cells.ensures) in
    IsTurnOf-made c.args.query.now c.args.shape c.args.base c.number.new.self turn to c.requires.base c.in_ok-class.ensures.there.0
    (made-from c.args.query.now c.args.shape c.args.base c.number.new.self turn to (number_of_label c.args.label) (number_of_symmetry c.symmetry-symmetry.result) c.size-size.result
    c.symmetry-symmetry.ensures c.size-size.ensures.cols c.size-size.ensures.rows (search rules) (c.turned-to.ensures.cols, c.turned-to.ensures.rows) grid c.corners.ensures)
