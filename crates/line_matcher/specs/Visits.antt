-- What is found at a node: definitions for the private functions.
use Rattle.std.specs.Prelude.{◌≡◌, ℕ, ◌<◌, true, List, length}
use Rattle.kb_geometry.specs.declared.shape.Rect.{Rect}
use Rattle.kb_geometry.specs.Board.{IsInside}
use Rattle.kb_geometry.specs.Symmetry.{point_of}
use Rattle.pattern_images.specs.ImageList.{ImageList, placement_at}
use Rattle.pattern_occurrences.specs.declared.occurrence.Occurrence.{Occurrence}
use Rattle.line_matcher.specs.declared.visit.Visit.{Visit}
use Rattle.line_matcher.specs.Begins.{AreOccurrencesAdded, holds_anew, seen}

-- What was found grows by what begins to hold at a node, among the placements from one number up to
-- another.
abbrev pub IsFoundAt : ImageList → Visit → ℕ → ℕ → List Occurrence → List Occurrence → Type 0
IsFoundAt images visit from to old new =
    AreOccurrencesAdded images.placements
    (holds_anew images.shape visit.walker.now.position (seen visit.changed))
    visit.node from to old new

-- What begins to hold at the node has its upper left point in the rectangle.
pub record IsNear (images : ImageList) (visit : Visit) (area : Rect) : Type 0 where
  pub inside : (i : ℕ) → i < length images.placements →
      holds_anew images.shape visit.walker.now.position (seen visit.changed)
      (placement_at images.placements i)
      ≡ true →
      IsInside area (point_of (placement_at images.placements i).x
      (placement_at images.placements i).y)
