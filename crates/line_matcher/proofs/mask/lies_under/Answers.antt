use Rattle.line_matcher.proofs.MaskBits.{touches-told}
use Rattle.line_matcher.proofs.mask.lies_under.Goals as goal

pub returns : goal.returns
returns c = touches-told c.window.result c.args.care c.args.points.now c.args.start c.window.ensures c.window.type_inv
