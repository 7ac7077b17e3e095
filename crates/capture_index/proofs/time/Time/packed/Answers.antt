use Rattle.std.proofs.Common.{◌∙◌, ap, subst, sym}
use Rattle.capture_index.specs.declared.time.Time.TheVariants as time
use Rattle.capture_index.specs.Times.{FitsWord}
use Rattle.capture_index.proofs.Times.{packed-black, packed-many, packed-never, packed-white}
use Rattle.capture_index.proofs.time.Time.packed.Goals as goal

pub returns-in-Black : goal.returns-in-Black
returns-in-Black c =
    let fits : FitsWord (time.First c.in-First.node c.in-First.stone) = subst FitsWord c.in-First.is c.requires in
    packed-black c.in-First.node fits ∙ ap (time.First c.in-First.node) (sym c.in-Black.is) ∙ sym c.in-First.is

pub returns-in-White : goal.returns-in-White
returns-in-White c =
    let fits : FitsWord (time.First c.in-First.node c.in-First.stone) = subst FitsWord c.in-First.is c.requires in
    packed-white c.in-First.node fits ∙ ap (time.First c.in-First.node) (sym c.in-White.is) ∙ sym c.in-First.is

pub returns-in-Many : goal.returns-in-Many
returns-in-Many c = packed-many c.in-Many.list ∙ sym c.in-Many.is

pub returns-in-Never : goal.returns-in-Never
returns-in-Never c = packed-never ∙ sym c.in-Never.is
