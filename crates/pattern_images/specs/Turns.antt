-- Definitions of the private functions that find the base places and turn the pattern.
use Rattle.std.specs.Prelude.{◌≡◌, ℕ, ◌+◌, ◌<◌, ◌≤◌, ◌↔◌, List, length, slice_index_or, Option, Some, None}
use Rattle.kb_geometry.specs.declared.shape.Shape.{Shape}
use Rattle.kb_geometry.specs.declared.shape.Point.{Point}
use Rattle.kb_geometry.specs.declared.shape.Rect.{Rect}
use Rattle.kb_geometry.specs.Board.{cols_of, rows_of, IsInside}
use Rattle.kb_geometry.specs.Symmetry.{number_of_label, point_of}
use Rattle.pattern_images.specs.declared.query.Query.{Query}
use Rattle.pattern_images.specs.Pattern.{grid_of}
use Rattle.pattern_images.specs.declared.turn.Turn.{Turn}
use Rattle.pattern_images.specs.Grid.{Grid}
use Rattle.pattern_images.specs.ImageList.{grid_at, AreDistinct}
use Rattle.pattern_images.specs.Placements.{Placement, IsResult}
use Rattle.pattern_images.specs.Query.{IsForBoard, IsBasePlace}

-- the points of the rectangle are those of two others
pub record IsCommon (a b r : Rect) : Type 0 where
  pub columns : r.x0 ≤ r.x1
  pub rows : r.y0 ≤ r.y1
  pub points : (p : Point) → IsInside r p ↔ (IsInside a p × IsInside b p)

-- the points of the rectangle are the base places of the query on the board, and there are some
pub record AreBasePlaces (query : Query) (shape : Shape) (r : Rect) : Type 0 where
  pub board : IsForBoard query shape
  pub columns : r.x0 ≤ r.x1
  pub rows : r.y0 ≤ r.y1
  pub right : r.x1 + (grid_of query.pattern).cols ≤ cols_of shape
  pub bottom : r.y1 + (grid_of query.pattern).rows ≤ rows_of shape
  pub points : (p : Point) → IsInside r p ↔ IsBasePlace query shape p

-- the query has no base place on this board, or isn't for it
abbrev pub HasNoBasePlace : Query → Shape → Type 0
HasNoBasePlace query shape = (p : Point) → IsForBoard query shape → IsBasePlace query shape p → ⊥

-- The results of a label, by a turn: the placements with the turn's rectangle of cells whose upper
-- left point lies in its rectangle of points.
pub record IsTurnOf (query : Query) (shape : Shape) (grids : List Grid) (number : ℕ)
    (turn : Turn) : Type 0 where
  pub label : number_of_label turn.label ≡ number
  pub class : turn.class < length grids
  pub results : (p : Placement) → p.label ≡ number → IsResult query shape p
      ↔ (IsInside turn.corners (point_of p.x p.y) × (p.grid ≡ grid_at grids turn.class))

-- what a label makes of the query's pattern: nothing, or its results by a turn
abbrev pub IsTurn : Query → Shape → List Grid → ℕ → Option Turn → Type 0
IsTurn query shape grids label None = (p : Placement) → p.label ≡ label → ¬ IsResult query shape p
IsTurn query shape grids label (Some turn) = IsTurnOf query shape grids label turn

-- the turn at each place is that of the label with this number
pub record AreTurns (query : Query) (shape : Shape) (grids : List Grid)
    (turns : List (Option Turn)) : Type 0 where
  pub each : (label : ℕ) → label < length turns →
      IsTurn query shape grids label (slice_index_or turns label None)
  pub distinct : AreDistinct grids
  pub few : length grids ≤ length turns

-- the rectangles with one more, or the same
pub record HasGrown (before after : List Grid) : Type 0 where
  pub few : length after ≤ length before + 1
  pub kept : (k : ℕ) → k < length before → (k < length after) × (grid_at after k ≡ grid_at before k)
  pub distinct : AreDistinct before → AreDistinct after
