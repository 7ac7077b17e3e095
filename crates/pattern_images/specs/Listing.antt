-- Definitions of the private functions that list the places of a query, in order, label by label at
-- each point.
use Rattle.std.specs.Prelude.{◌≡◌, ℕ, ◌<◌, ◌≤◌, ◌⊎◌, List, length, map, slice_index_or, take, Option, Some, None, All, Any, AllPairs}
use Rattle.kb_geometry.specs.declared.shape.Shape.{Shape}
use Rattle.kb_geometry.specs.declared.shape.Point.{Point}
use Rattle.kb_geometry.specs.Board.{IsInside}
use Rattle.kb_geometry.specs.Symmetry.{number_of_label}
use Rattle.pattern_images.specs.declared.listing.StoredPlace.{StoredPlace}
use Rattle.pattern_images.specs.declared.query.Query.{Query}
use Rattle.pattern_images.specs.declared.turn.Turn.{Turn}
use Rattle.pattern_images.specs.Grid.{Grid}
use Rattle.pattern_images.specs.ImageList.{grid_at, AreDistinct, IsPlacedOn}
use Rattle.pattern_images.specs.Placements.{Placement, IsBefore, IsResult, IsSame}
use Rattle.pattern_images.specs.Turns.{AreTurns}

-- the placement that is stored so
abbrev pub placement_in : List Grid → StoredPlace → Placement
placement_in grids s = record {
  label = number_of_label s.label;
  x = s.x;
  y = s.y;
  grid = grid_at grids s.class;
}

-- the placement stands in a row above, or in this row before this column, or at this point under a
-- lesser label
abbrev pub IsEarlier : Placement → (y x label : ℕ) → Type 0
IsEarlier p y x label = (p.y < y) ⊎ ((p.y ≡ y) × ((p.x < x) ⊎ ((p.x ≡ x) × (p.label < label))))

-- The list has each result that is earlier, once, under its least label, in order.
pub record IsListedTo (query : Query) (shape : Shape) (grids : List Grid) (y x label : ℕ)
    (stored : List StoredPlace) : Type 0 where
  pub classes : All (λ s. s.class < length grids) stored
  pub complete : (result : Placement) → IsResult query shape result → IsEarlier result y x label →
      Any (IsSame result) (map (placement_in grids) stored)
  pub sound : All (IsResult query shape) (map (placement_in grids) stored)
  pub earlier : All (λ p. IsEarlier p y x label) (map (placement_in grids) stored)
  pub least : All (λ p. (result : Placement) → IsResult query shape result → IsSame p result →
      p.label ≤ result.label) (map (placement_in grids) stored)
  pub distinct : AllPairs (λ a b. ¬ IsSame a b) (map (placement_in grids) stored)
  pub ordered : AllPairs IsBefore (map (placement_in grids) stored)

-- from a list of what is earlier than one place to a list of what is earlier than another, for each
-- query with these turns
abbrev pub ListsOn : Shape → List (Option Turn) → (y x label : ℕ) → List StoredPlace →
    (y' x' label' : ℕ) → List StoredPlace → Type 0
ListsOn shape turns y x label before y' x' label' after =
    (query : Query) (grids : List Grid) → AreTurns query shape grids turns →
    IsListedTo query shape grids y x label before →
    IsListedTo query shape grids y' x' label' after

-- there is a turn, and it gives the rectangle of cells with this number at this point
abbrev pub GivesAt : ℕ → Point → Option Turn → Type 0
GivesAt class p None = ⊥
GivesAt class p (Some turn) = (turn.class ≡ class) × IsInside turn.corners p

-- there is a turn, and it has the rectangle of cells with this number
abbrev pub HasClass : ℕ → Option Turn → Type 0
HasClass class None = ⊥
HasClass class (Some turn) = turn.class ≡ class

-- the turn with this number, if there is one, has another rectangle of cells than each before it
abbrev pub IsDifferentAt : List (Option Turn) → ℕ → Type 0
IsDifferentAt turns k = (turn : Turn) → slice_index_or turns k None ≡ Some turn →
    ¬ Any (HasClass turn.class) (take k turns)

-- no two turns have one rectangle of cells
abbrev pub AreDifferent : List (Option Turn) → Type 0
AreDifferent turns = (k : ℕ) → k < length turns → IsDifferentAt turns k

-- there is a turn, and some of its upper left points lie in this row
abbrev pub Reaches : ℕ → Option Turn → Type 0
Reaches y None = ⊥
Reaches y (Some turn) = (turn.corners.y0 ≤ y) × (y ≤ turn.corners.y1)

-- what is known of a stored place: its rectangle of cells is there, and it lies on the board
abbrev pub IsStoredOn : Shape → List Grid → StoredPlace → Type 0
IsStoredOn shape grids s = (s.class < length grids) × IsPlacedOn shape (placement_in grids s)

-- what is known of all stored places: they are in order, and no two of their rectangles of cells
-- are one
pub record AreStoredOn (shape : Shape) (grids : List Grid)
    (stored : List StoredPlace) : Type 0 where
  pub each : All (IsStoredOn shape grids) stored
  pub ordered : AllPairs IsBefore (map (placement_in grids) stored)
  pub different : AreDistinct grids
