-- Which placements begin to hold at a node, told by the position there and the points that the node
-- changes. These definitions mirror how the private functions look for them.
use Rattle.std.specs.Prelude.{◌≡◌, ℕ, ◌+◌, ◌*◌, ◌<◌, ◌≤◌, ◌↔◌, ◌&&◌, ◌||◌, ◌++◌, nat_eq, Bool, true}
use Rattle.std.specs.Prelude.{List, length, map, filter, slice_index, Option, Some, None}
use Rattle.std.specs.List.{list_any, range_with_len}
use Rattle.std.specs.Borrow.{Bor}
use Rattle.kb_geometry.specs.declared.shape.Shape.{Shape}
use Rattle.kb_geometry.specs.declared.stone.Colour.TheVariants as side
use Rattle.kb_geometry.specs.Board.{cols_of, point_count}
use Rattle.kb_geometry.specs.Capture.{Position}
use Rattle.pattern_images.specs.declared.cell.PatternCell.{PatternCell}
use Rattle.pattern_images.specs.Grid.{cell_in}
use Rattle.pattern_images.specs.Holds.{number_under}
use Rattle.pattern_images.specs.ImageList.{placement_at}
use Rattle.pattern_images.specs.Placements.{Placement}
use Rattle.pattern_occurrences.specs.declared.occurrence.Occurrence.{Occurrence}
use Rattle.pattern_occurrences.specs.Occurrences.{holds}
use Rattle.line_matcher.specs.declared.changed.Concerned.{Concerned}
use Rattle.line_matcher.specs.Masks.{asks}

-- what a node's changes concern, as the functions hand it on
abbrev pub seen : Option (Bor Concerned) → Option Concerned
seen None = None
seen (Some points) = Some points.now

-- one of the points lies under a cell of the placement that passes the test
abbrev pub touches : (PatternCell → Bool) → Shape → List ℕ → Placement → Bool
touches test shape points placement =
    list_any
    (λ dy. list_any
    (λ dx. test (cell_in placement.grid dx dy)
    && list_any (nat_eq (number_under shape placement dx dy)) points)
    (range_with_len 0 placement.grid.cols))
    (range_with_len 0 placement.grid.rows)

-- The placement can have begun to hold by changes that concern these points: one lies under a cell
-- that asks for the colour. At the root, where nothing was before, each one can have.
abbrev pub may_begin : Shape → Option Concerned → Placement → Bool
may_begin shape None placement = true
may_begin shape (Some points) placement =
    touches (asks side.Black) shape points.black placement
    || touches (asks side.White) shape points.white placement

-- the placement holds in the position, and can have begun to by these changes
abbrev pub holds_anew : Shape → Position → Option Concerned → Placement → Bool
holds_anew shape position changes placement =
    holds shape position placement && may_begin shape changes placement

-- the number of the upper left point of a placement
abbrev pub corner_of : Shape → Placement → ℕ
corner_of shape placement = placement.y * cols_of shape + placement.x

-- the occurrences at a node among the first k placements: those that pass the test
abbrev pub occurrences_below : List Placement → (Placement → Bool) → ℕ → ℕ → List Occurrence
occurrences_below placements test node k =
    map (λ i. record { node = node; placement = i })
    (filter (λ i. test (placement_at placements i)) (range_with_len 0 k))

-- What was found grows by the occurrences at a node among the placements from one number up to
-- another.
pub record AreOccurrencesAdded (placements : List Placement) (test : Placement → Bool)
    (node from to : ℕ)
    (old new : List Occurrence) : Type 0 where
  pub grown : (before : List Occurrence) →
      old ≡ before ++ occurrences_below placements test node from →
      new ≡ before ++ occurrences_below placements test node to

-- So many placements, the first ones, have their upper left points before the point with this
-- number.
pub record SplitsAt (shape : Shape) (placements : List Placement) (p start : ℕ) : Type 0 where
  pub most : start ≤ length placements
  pub before : (i : ℕ) → i < length placements →
      (i < start) ↔ (corner_of shape (placement_at placements i) < p)

-- For each number of a point, and for the number of points, how many placements have their upper
-- left points before it. There are at most 16 at each point.
pub record AreStarts (shape : Shape) (placements : List Placement) (starts : List ℕ) : Type 0 where
  pub count : length starts ≡ point_count shape + 1
  pub each : (p : ℕ) → p ≤ point_count shape → SplitsAt shape placements p (slice_index starts p)
  pub few : length placements ≤ 16 * point_count shape
