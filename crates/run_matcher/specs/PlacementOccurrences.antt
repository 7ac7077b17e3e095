-- The occurrences of one placement in a game, whatever their order.
use Rattle.std.specs.Prelude.{◌≡◌, ℕ, ◌<◌, true, List}
use Rattle.capture_board.specs.Deltas.{Deltas, node_count}
use Rattle.pattern_images.specs.ImageList.{placement_at}
use Rattle.pattern_images.specs.Placements.{Placement}
use Rattle.pattern_occurrences.specs.declared.occurrence.Occurrence.{Occurrence}
use Rattle.pattern_occurrences.specs.Occurrences.{begins_at}

-- it is one of the placement with this number: the placement begins to hold at a node of the game
abbrev pub IsOccurrenceOf : Deltas → List Placement → ℕ → Occurrence → Type 0
IsOccurrenceOf deltas placements i o =
    (o.placement ≡ i) × (o.node < node_count deltas)
    × (begins_at deltas (placement_at placements i) o.node ≡ true)

-- it is one of the first so many placements
abbrev pub IsOccurrenceBelow : Deltas → List Placement → ℕ → Occurrence → Type 0
IsOccurrenceBelow deltas placements count o =
    (o.placement < count) × (o.node < node_count deltas)
    × (begins_at deltas (placement_at placements o.placement) o.node ≡ true)
