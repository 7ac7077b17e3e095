use Rattle.std.proofs.Common.{◌∙◌, ap, below_more, arith}
use Rattle.std.proofs.lemmas.Bool.{false≢true}
use Rattle.kb_geometry.specs.Board.{cols_of}
use Rattle.pattern_images.specs.ImageList.{grid_at, placement_at}
use Rattle.candidate_sieve.proofs.CellsTold.{row-told, start_is, told-row}
use Rattle.candidate_sieve.proofs.cells.meets_cells.Goals as goal

pub returns-then-not-meets_row : goal.returns-then-not-meets_row
returns-then-not-meets_row c =
    let images = c.args.images.now in
    let placement = placement_at images.placements c.args.i in (
      λ t. absurd (false≢true t),
      λ meets. c.if-not-meets_row.ensures.1
          (told-row images.shape placement (grid_at images.grids c.class_of-class.result) c.class_of-class.ensures.cells c.row_of.result.now c.loop-dy.dy _ c.row_of.ensures.count c.row_of.ensures.cells
          (start_is c.from.result c.from-cols.result c.from-2.result c.from-in-loop-dy.result placement.y (cols_of images.shape) placement.x c.loop-dy.dy (c.from.ensures ∙ c.place-x.ensures.value.row) (c.from-cols.ensures ∙ c.cols.ensures.value ∙ ap cols_of c.shape.ensures.value) (c.from-2.ensures ∙ c.place-x.ensures.value.column) c.from-in-loop-dy.ensures)
          c.args.ever.now (λ dx in_cols other. meets dx c.loop-dy.dy in_cols (omega (arith, c.loop-dy-test.true, c.place-x.ensures.value.rows)) other)),
    )

pub loop-dy-preserved : goal.loop-dy-preserved
loop-dy-preserved c =
    let images = c.args.images.now in
    let placement = placement_at images.placements c.args.i in
    below_more _ _ c.loop-dy.invariant
    (row-told images.shape placement (grid_at images.grids c.class_of-class.result) c.class_of-class.ensures.cells c.row_of.result.now c.loop-dy.dy _ c.row_of.ensures.count c.row_of.ensures.cells
    (start_is c.from.result c.from-cols.result c.from-2.result c.from-in-loop-dy.result placement.y (cols_of images.shape) placement.x c.loop-dy.dy (c.from.ensures ∙ c.place-x.ensures.value.row) (c.from-cols.ensures ∙ c.cols.ensures.value ∙ ap cols_of c.shape.ensures.value) (c.from-2.ensures ∙ c.place-x.ensures.value.column) c.from-in-loop-dy.ensures)
    c.args.ever.now (c.meets_row.ensures.0 c.if-not-meets_row.false))
