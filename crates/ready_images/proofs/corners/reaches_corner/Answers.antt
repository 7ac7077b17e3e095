use Rattle.std.proofs.Common.{◌≡◌, ◌∙◌, ap, true}
use Rattle.kb_geometry.specs.Board.{cols_of, rows_of}
use Rattle.pattern_images.specs.ImageList.{placement_at}
use Rattle.ready_images.proofs.CornerCells.{covers-reaches, reached}
use Rattle.ready_images.proofs.corners.reaches_corner.Goals as goal

pub returns-then-not-reaches_side : goal.returns-then-not-reaches_side
returns-then-not-reaches_side c = λ corner few covers.
    let images = c.args.images.now in
    let placement = placement_at images.placements c.args.i in
    let place = c.place-place.result in
    let side = covers-reaches images.shape placement c.place-place.ensures.on_board c.requires.sides corner few covers in
    let told : c.reaches_side.result ≡ true =
    c.reaches_side.ensures.1
    (reached placement.x placement.grid.cols (cols_of images.shape) place.x place.cols c.cols.result c.place-place.ensures.value.column c.place-place.ensures.value.columns (c.cols.ensures.value ∙ ap cols_of c.shape-shape.ensures.value) side.0) in
    let other = c.if-not-reaches_side.true in
    absurd cc

pub returns : goal.returns
returns c = λ corner few covers.
    let images = c.args.images.now in
    let placement = placement_at images.placements c.args.i in
    let place = c.place-place.result in
    let side = covers-reaches images.shape placement c.place-place.ensures.on_board c.requires.sides corner few covers in
    c.reaches_side-2.ensures.1
    (reached placement.y placement.grid.rows (rows_of images.shape) place.y place.rows c.rows.result c.place-place.ensures.value.row c.place-place.ensures.value.rows (c.rows.ensures.value ∙ ap rows_of c.shape-shape.ensures.value) side.1)
