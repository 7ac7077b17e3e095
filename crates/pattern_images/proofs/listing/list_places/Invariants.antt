use Rattle.std.proofs.Common.{[]}
use Rattle.pattern_images.specs.Listing.{ListsOn}
use Rattle.pattern_images.proofs.listing.list_places.Given as goal

-- the rows so far are listed
abbrev pub invariant-loop-y : goal.invariant-loop-y
invariant-loop-y l = ListsOn l.shape l.turns 0 0 0 [] l.y 0 0 l.places.items
