-- What is found at a node, and at the first nodes of a game: definitions for the private functions.
use Rattle.std.specs.Prelude.{◌≡◌, ℕ, ◌++◌, List, filter, length, Some, None}
use Rattle.std.specs.List.{flat_map, range_with_len}
use Rattle.kb_geometry.specs.declared.stone.Change.{Change}
use Rattle.kb_geometry.specs.Capture.{Position}
use Rattle.capture_board.specs.Deltas.{Deltas}
use Rattle.pattern_images.specs.ImageList.{ImageList}
use Rattle.pattern_images.specs.Placements.{Placement}
use Rattle.pattern_occurrences.specs.declared.occurrence.Occurrence.{Occurrence}
use Rattle.pattern_occurrences.specs.Occurrences.{is_at_one_of, occurrences_at}
use Rattle.line_matcher.specs.declared.changed.Concerned.{Concerned}
use Rattle.line_matcher.specs.Concerned.{AreConcerned}
use Rattle.line_matcher.specs.Begins.{AreOccurrencesAdded, holds_anew}

-- What was found grows by all that holds in the position.
abbrev pub IsFoundAtRoot : ImageList → Position → ℕ → List Occurrence → List Occurrence → Type 0
IsFoundAtRoot images position node old new =
    AreOccurrencesAdded images.placements (holds_anew images.shape position None) node
    0 (length images.placements) old new

-- What was found grows by what holds in the position and is touched by the changes.
pub record IsFoundByChanges (images : ImageList) (position : Position) (changes : List Change)
    (node : ℕ)
    (old new : List Occurrence) : Type 0 where
  pub points : Concerned
  pub are_points : AreConcerned changes points
  pub added : AreOccurrencesAdded images.placements (holds_anew images.shape position (Some points))
      node 0
      (length images.placements) old new

-- What was found grows by the occurrences at a node.
abbrev pub IsFoundAtNode : Deltas → List Placement → ℕ → List Occurrence → List Occurrence → Type 0
IsFoundAtNode deltas placements node old new = new ≡ old ++ occurrences_at deltas placements node

-- What was found grows by the occurrences at the first so many nodes.
abbrev pub IsFoundTo : Deltas → List Placement → ℕ → List Occurrence → List Occurrence → Type 0
IsFoundTo deltas placements nodes old new =
    new ≡ old ++ flat_map (occurrences_at deltas placements) (range_with_len 0 nodes)

-- What was found grows by the occurrences at those of the first so many nodes that are among the
-- given ones.
abbrev pub IsFoundAmong :
    Deltas → List Placement → List ℕ → ℕ → List Occurrence → List Occurrence → Type 0
IsFoundAmong deltas placements given nodes old new =
    new ≡ old
    ++ filter (is_at_one_of given)
    (flat_map (occurrences_at deltas placements) (range_with_len 0 nodes))
