-- How a game goes on in the rectangle of a placement.
use Prim.Native.Nat.{zero}
use Rattle.std.specs.Prelude.{◌≡◌, ℕ, ◌-◌, ◌<◌, ◌≤◌, ◌↔◌, suc, nat_lt, if◌then◌else◌, IsTrue, Option, Some, None, option_and_then}
use Rattle.kb_geometry.specs.declared.shape.Shape.{Shape}
use Rattle.kb_geometry.specs.declared.shape.Point.{Point}
use Rattle.kb_geometry.specs.declared.stone.Colour.{Colour}
use Rattle.kb_geometry.specs.Board.{cols_of, rows_of}
use Rattle.kb_geometry.specs.Capture.{other_side}
use Rattle.kb_geometry.specs.Symmetry.{inverse_number, moved, point_of, symmetry_of}
use Rattle.game_tree.specs.Tree.{Tree, first_child_of, node_at}
use Rattle.capture_board.specs.Deltas.{Deltas}
use Rattle.pattern_images.specs.declared.hit.Next.{Next}
use Rattle.pattern_images.specs.Placements.{Covers, Placement}
use Rattle.pattern_occurrences.specs.Occurrences.{HoldsAt}

-- the node that many first children below a node
abbrev pub below : Tree → ℕ → ℕ → Option ℕ
below tree n zero = Some n
below tree n (suc steps) = option_and_then (first_child_of tree) (below tree n steps)

-- the node has a move of the colour on the point, which lies in the placement's rectangle
pub record IsMoveInside (tree : Tree) (placement : Placement) (n : ℕ) (colour : Colour)
    (point : Point) : Type 0 where
  pub played : (node_at tree n).played ≡ Some (record { colour = colour; point = Some point })
  pub inside : Covers placement point

-- the node has a move in the placement's rectangle
pub record HasMoveInside (tree : Tree) (placement : Placement) (n : ℕ) : Type 0 where
  pub colour : Colour
  pub point : Point
  pub move : IsMoveInside tree placement n colour point

-- The colour in the pattern's own colours: labels from 8 on exchange them.
abbrev pub own_colour : ℕ → Colour → Colour
own_colour label colour = if nat_lt label 8 then colour else other_side colour

-- The point of the pattern's own frame is the point of the board under the placement, turned back:
-- its offset in the placement's rectangle is moved by the inverse of the placement's symmetry,
-- within a rectangle of that size.
pub record IsTurnedBack (placement : Placement) (point own : Point) : Type 0 where
  pub size : Shape
  pub columns : cols_of size ≡ placement.grid.cols
  pub rows : rows_of size ≡ placement.grid.rows
  pub turned : own ≡ moved (inverse_number (symmetry_of placement.label)) size
      (point_of (point.x - placement.x) (point.y - placement.y))

-- The continuation of a placement at a node: the first move on the way down by first children whose
-- point lies in the placement's rectangle, if the placement holds at each node from that one to the
-- parent of the move's node. It is the next one at once if no node between has a move or a pass.
pub record IsContinuation (tree : Tree) (changes : Deltas) (placement : Placement) (n : ℕ)
    (next : Next) : Type 0 where
  pub between : ℕ
  pub node : ℕ
  pub reached : below tree n (suc between) ≡ Some node
  pub colour : Colour
  pub point : Point
  pub move : IsMoveInside tree placement node colour point
  pub first : (k m : ℕ) → k < between → below tree n (suc k) ≡ Some m →
      ¬ HasMoveInside tree placement m
  pub held : (k m : ℕ) → k ≤ between → below tree n k ≡ Some m → HoldsAt changes placement m
  pub at_once : IsTrue next.now
      ↔ ((k m : ℕ) → k < between → below tree n (suc k) ≡ Some m → (node_at tree m).played ≡ None)
  pub own_point : IsTurnedBack placement point (point_of next.x next.y)
  pub own_side : next.colour ≡ own_colour placement.label colour
