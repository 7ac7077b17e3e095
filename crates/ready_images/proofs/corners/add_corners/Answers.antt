use Rattle.std.proofs.Common.{◌≡◌, arith, true}
use Rattle.ready_images.proofs.CornerLists.{corners-next}
use Rattle.ready_images.proofs.corners.add_corners.Goals as goal

pub returns-then-not-reaches_corner : goal.returns-then-not-reaches_corner
returns-then-not-reaches_corner c =
    corners-next c.args.images.now c.args.i 0 c.args.corners.now.items c.requires.before
    (λ corner le few covers.
    let told : c.reaches_corner.result ≡ true = c.reaches_corner.ensures corner few covers in
    let other = c.if-not-reaches_corner.true in
    absurd cc)

pub returns : goal.returns
returns c =
    let all : c.loop-corner.corner ≡ 4 = omega (arith, c.loop-corner-test.false, c.loop-corner.auto.corner-end) in
    corners-next c.args.images.now c.args.i c.loop-corner.corner c.loop-corner.corners.items c.loop-corner.invariant (λ corner le few. absurd (omega (arith, le, few, all)))
