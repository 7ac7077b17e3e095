use Rattle.std.proofs.Common.{ℕ, ◌<◌}
use Rattle.pattern_images.specs.Listing.{IsDifferentAt}
use Rattle.pattern_images.proofs.listing.are_repeated.Given as goal

-- the turns so far differ from those before them
abbrev pub invariant-loop-number : goal.invariant-loop-number
invariant-loop-number l = (k : ℕ) → k < l.number → IsDifferentAt l.turns k
