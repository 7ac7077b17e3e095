use Rattle.std.proofs.Common.{◌≤◌, length, refl, sym, subst}
use Rattle.std.specs.Arc.{arc_value}
use Rattle.version_publisher.specs.Contents.{items_in}
use Rattle.version_publisher.proofs.PartLists.{map_clones}
use Rattle.version_publisher.proofs.version.Version.of.Goals as goal

pub invariant_of-result : goal.invariant_of-result
invariant_of-result g c =
    let e = map_clones arc_value g.P.Part.items c.args.parts.now c.in_ok-parts.parts.items c.in_ok-parts.ensures.items in
    subst (λ z. length (items_in z) ≤ g.P.Part.MOST) (sym e) c.requires.fits

pub returns : goal.returns
returns g c = (refl, map_clones arc_value g.P.Part.items c.args.parts.now c.in_ok-parts.parts.items c.in_ok-parts.ensures.items)
