use Rattle.line_matcher.proofs.MaskBits.{is_under-told}
use Rattle.line_matcher.proofs.mask.is_under.Goals as goal

pub returns : goal.returns
returns c =
    is_under-told c.window.result c.args.word c.args.care c.args.points.now c.args.start c.window.ensures c.ranges.word.fits c.window.type_inv
