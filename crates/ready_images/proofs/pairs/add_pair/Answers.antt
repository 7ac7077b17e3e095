use Rattle.std.proofs.Common.{ℕ, ◌+◌, ◌*◌, ◌<◌, ◌∙◌, ap, arith, refl}
use Rattle.kb_geometry.specs.Board.{cols_of}
use Rattle.pattern_images.specs.ImageList.{grid_at}
use Rattle.ready_images.proofs.PairLists.{empty-read, pair-added, pair-in}
use Rattle.ready_images.proofs.pairs.add_pair.Goals as goal

pub returns : goal.returns
returns c =
    let shape = c.args.images.now.shape in
    let grid = grid_at c.args.images.now.grids c.args.class in
    let x = c.args.at.0 in
    let y = c.args.at.1 in
    let in_cols : c.args.at.0 < (grid_at c.args.images.now.grids c.args.class).cols = omega arith in
    let in_rows : c.args.at.1 < (grid_at c.args.images.now.grids c.args.class).rows = omega arith in
    pair-added shape grid c.args.stone _ c.args.pairs.now.items c.push.new.self.items c.requires.before c.in_ok-push.ensures.items
    (pair-in shape grid c.args.stone x y _ c.requires.stone in_cols in_rows
    (empty-read grid c.class_cells.result.now x y c.from.result c.from-cols.result c.class_cells.ensures.value c.class_cells.ensures.count c.from.ensures (c.from-cols.ensures ∙ c.cols.ensures.value ∙ c.class_size-size.ensures.cols) in_cols in_rows (c.if-not-is_empty.ensures.0 refl))
    (ap (λ (n : ℕ). c.args.at.1 * n + c.args.at.0) (c.from-2.ensures ∙ c.cols-2.ensures.value ∙ ap cols_of c.shape.ensures.value)))
