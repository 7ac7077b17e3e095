use Rattle.kb_geometry.specs.declared.shape.Shape.{Shape}
use Rattle.pattern_images.specs.Listing.{ListsOn}
use Rattle.pattern_images.proofs.listing.list_point.Given as goal

-- the labels so far are listed
abbrev pub invariant-loop-number : goal.invariant-loop-number
invariant-loop-number l = (shape : Shape) → ListsOn shape l.turns l.p.y l.p.x 0 l.fn.places.items l.p.y l.p.x l.number l.places.items
