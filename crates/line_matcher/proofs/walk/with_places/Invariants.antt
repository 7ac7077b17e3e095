use Rattle.line_matcher.proofs.PlacedLists.{AreFoundTo}
use Rattle.line_matcher.proofs.walk.with_places.Given as goal

-- the occurrences so far
abbrev pub invariant-loop-occurrence : goal.invariant-loop-occurrence
invariant-loop-occurrence l = AreFoundTo l.images.placements l.occurrences l.occurrence-index l.found.items
