use Rattle.pattern_images.specs.ImageList.{placement_at}
use Rattle.line_matcher.proofs.Beginning.{holds-read}
use Rattle.line_matcher.proofs.matcher.Matcher.holds.Goals as goal

pub returns : goal.returns
returns c =
    let images = c.args.self.now.images.now in
    holds-read images.shape (placement_at images.placements c.args.i) c.rows_of-rows.ensures.placed c.rows_of-rows.result.now c.rows_of-rows.ensures.rows c.args.first c.board_cols.result c.requires.first c.board_cols.ensures
    c.args.walker.now.shape c.args.walker.now.position c.points-black.result.now c.points-white.result.now c.requires.shape c.points-black.ensures c.points-white.ensures c.rows_fit.result c.rows_fit.ensures
