use Rattle.pattern_images.specs.Listing.{ListsOn}
use Rattle.pattern_images.proofs.listing.list_row.Given as goal

-- the points so far are listed
abbrev pub invariant-loop-x : goal.invariant-loop-x
invariant-loop-x l = ListsOn l.fn.shape l.turns l.y 0 0 l.fn.places.items l.y l.x 0 l.places.items
