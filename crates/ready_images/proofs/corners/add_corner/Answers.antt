use Rattle.std.proofs.Common.{◌+◌, List, refl, subst, sym}
use Rattle.ready_images.specs.declared.corner_number.CornerNumber.{CornerNumber}
use Rattle.ready_images.specs.StoredCorners.{AreCornersTo}
use Rattle.ready_images.proofs.CornerLists.{corners-more, corners-skip}
use Rattle.ready_images.proofs.corners.add_corner.Goals as goal

pub returns-in_default : goal.returns-in_default
returns-in_default c = corners-skip c.args.images.now c.args.i c.args.corner c.args.corners.now.items c.requires.before (c.in_default.ensures.none refl)

pub returns : goal.returns
returns c =
    let images = c.args.images.now in
    subst (λ (cs : List CornerNumber). AreCornersTo images c.args.i (c.args.corner + 1) cs) (sym c.in_ok-push.ensures.items)
    (corners-more images c.args.i c.args.corner c.args.corners.now.items c.requires.before (record { placement = c.args.i; corner = c.args.corner; number = c.in-Some.number }) refl refl c.requires.placement c.in-Some.ensures.some)
