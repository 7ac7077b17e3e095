use Rattle.pattern_images.specs.ImageList.{placement_at}
use Rattle.line_matcher.proofs.Beginning.{touches-read}
use Rattle.line_matcher.proofs.matcher.Matcher.touches.Goals as goal

pub returns : goal.returns
returns c =
    let images = c.args.self.now.images.now in
    touches-read images.shape (placement_at images.placements c.args.i) c.rows_of.ensures.placed c.rows_of.result.now c.rows_of.ensures.rows c.args.first c.board_cols.result c.requires.first c.board_cols.ensures
    c.args.colour c.args.points.now c.rows_touch.result c.rows_touch.ensures
