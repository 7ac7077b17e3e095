-- Where placements begin to hold in a game, and how far they go on to hold.
use Rattle.std.specs.Prelude.{◌≡◌, ℕ, ◌<◌, ◌≤◌, List, map}
use Rattle.capture_board.specs.Deltas.{Deltas}
use Rattle.pattern_images.specs.ImageList.{placement_at}
use Rattle.pattern_images.specs.Placements.{Placement}
use Rattle.pattern_occurrences.specs.declared.occurrence.Occurrence.{Occurrence}
use Rattle.pattern_occurrences.specs.Occurrences.{HoldsAt}
use Rattle.run_matcher.specs.declared.begun.Begun.{Begun}
use Rattle.run_matcher.specs.declared.begun.HoldsTo.TheVariants as holding

-- the occurrences alone
abbrev pub occurrences_of : List Begun → List Occurrence
occurrences_of begun = map (λ (b : Begun). b.occurrence) begun

-- if it is known up to before which node the placement goes on to hold, then it holds at each node
-- from the one of the occurrence on up to there
abbrev pub GoesOnToHold : Deltas → List Placement → Begun → Type 0
GoesOnToHold deltas placements b = (end k : ℕ) → b.holds ≡ holding.Known end →
    b.occurrence.node ≤ k → k < end →
    HoldsAt deltas (placement_at placements b.occurrence.placement) k
