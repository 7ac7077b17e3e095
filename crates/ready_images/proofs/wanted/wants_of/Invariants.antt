use Rattle.ready_images.specs.StoredWants.{HaveWantsTo}
use Rattle.ready_images.proofs.wanted.wants_of.Given as goal

-- the classes so far
abbrev pub invariant-loop-class : goal.invariant-loop-class
invariant-loop-class l = HaveWantsTo l.images.shape l.images.grids l.class l.classes.items l.lists.wants.items
