-- With a rectangle the base places are those that lie in it.
use Rattle.std.proofs.Common.{arith, rules}
use Rattle.pattern_images.proofs.Bases.{common_bases}
use Rattle.pattern_images.proofs.base_places.base_places.Goals as goal

pub returns-in-Some : goal.returns-in-Some
returns-in-Some c =
    common_bases c.args.query.now c.args.shape c.in-Some.at c.in-Some.is (search rules) c.in_ok-x1.x1 c.in_ok-y1.y1
    (omega (arith, c.in_ok-x1.ensures)) (omega (arith, c.in_ok-y1.ensures)) c.common.result c.common.ensures
