use Rattle.std.proofs.Common.{◌∙◌, ap, arith}
use Rattle.kb_geometry.specs.Board.{cols_of}
use Rattle.pattern_images.specs.ImageList.{grid_at, placement_at}
use Rattle.candidate_sieve.specs.Noting.{AsksInRow}
use Rattle.candidate_sieve.specs.NodeCandidates.{AsksThere}
use Rattle.candidate_sieve.proofs.CellsTold.{start_is}
use Rattle.candidate_sieve.proofs.NotedPoints.{AsksBelow, AsksInRowOf, noted-more, noted-same, noted-start, row-asks, row_fits, rows-told}
use Rattle.candidate_sieve.proofs.asked.AskedPoints.add_placement.Goals as goal

pub loop-dy-init : goal.loop-dy-init
loop-dy-init c = noted-start (AsksInRowOf c.args.images.now.shape (placement_at c.args.images.now.placements c.args.i)) c.args.self.now

pub add_row-requires : goal.add_row-requires
add_row-requires c =
    let images = c.args.images.now in
    let placement = placement_at images.placements c.args.i in
    row_fits images.shape placement (grid_at images.grids c.class_of-class.result) c.class_of-class.ensures.cells c.row_of.result.now c.loop-dy.dy _ c.row_of.ensures.count c.row_of.ensures.cells
    (start_is c.from.result c.from-cols.result c.from-2.result c.from-in-loop-dy.result placement.y (cols_of images.shape) placement.x c.loop-dy.dy (c.from.ensures ∙ c.place-x.ensures.value.row) (c.from-cols.ensures ∙ c.cols.ensures.value ∙ ap cols_of c.shape.ensures.value) (c.from-2.ensures ∙ c.place-x.ensures.value.column) c.from-in-loop-dy.ensures)
    c.place-x.ensures.on_board (omega (arith, c.loop-dy-test.true, c.place-x.ensures.value.rows))

pub loop-dy-preserved : goal.loop-dy-preserved
loop-dy-preserved c =
    let images = c.args.images.now in
    let placement = placement_at images.placements c.args.i in
    noted-more (AsksInRowOf images.shape placement) c.args.self.now c.loop-dy.self c.add_row.new.self c.loop-dy.dy c.loop-dy.invariant
    (noted-same c.loop-dy.self c.add_row.new.self (AsksInRow c.row_of.result.now _) (AsksInRowOf images.shape placement c.loop-dy.dy)
    (row-asks images.shape placement (grid_at images.grids c.class_of-class.result) c.class_of-class.ensures.cells c.row_of.result.now c.loop-dy.dy _ c.row_of.ensures.count c.row_of.ensures.cells
    (start_is c.from.result c.from-cols.result c.from-2.result c.from-in-loop-dy.result placement.y (cols_of images.shape) placement.x c.loop-dy.dy (c.from.ensures ∙ c.place-x.ensures.value.row) (c.from-cols.ensures ∙ c.cols.ensures.value ∙ ap cols_of c.shape.ensures.value) (c.from-2.ensures ∙ c.place-x.ensures.value.column) c.from-in-loop-dy.ensures))
    c.add_row.ensures)

pub returns : goal.returns
returns c =
    let images = c.args.images.now in
    let placement = placement_at images.placements c.args.i in
    noted-same c.args.self.now c.loop-dy.self (AsksBelow (AsksInRowOf images.shape placement) c.loop-dy.dy) (AsksThere images.shape placement)
    (rows-told images.shape placement c.loop-dy.dy (omega (arith, c.loop-dy-test.false, c.loop-dy.auto.dy-end, c.place-x.ensures.value.rows))) c.loop-dy.invariant
