-- Definitions of the private functions that go down from a node.
use Rattle.std.specs.Prelude.{◌≡◌, ℕ, ◌+◌, ◌-◌, ◌<◌, ◌≤◌, ◌↔◌, suc, Bool, IsTrue, List, All, Some, None}
use Rattle.kb_geometry.specs.declared.shape.Shape.{Shape}
use Rattle.kb_geometry.specs.declared.shape.Point.{Point}
use Rattle.kb_geometry.specs.declared.stone.Cell.{Cell}
use Rattle.kb_geometry.specs.declared.stone.Change.{Change}
use Rattle.kb_geometry.specs.Board.{IsOnBoard, number_of}
use Rattle.game_tree.specs.Tree.{Tree, node_at}
use Rattle.capture_board.specs.Deltas.{Deltas}
use Rattle.pattern_images.specs.declared.hit.Place.{Place}
use Rattle.pattern_images.specs.Grid.{cell_in}
use Rattle.pattern_images.specs.Holds.{Allows}
use Rattle.pattern_images.specs.Placements.{Covers, Placement}
use Rattle.pattern_occurrences.specs.Occurrences.{HoldsAt}
use Rattle.continuation_table.specs.Continuation.{HasMoveInside, below}

-- the placement allows this cell of the board at the point: its own cell there does, or the point
-- lies beside it
abbrev pub AllowsAt : Placement → Point → Cell → Type 0
AllowsAt placement p on_board =
    Covers placement p →
    Allows (cell_in placement.grid (p.x - placement.x) (p.y - placement.y)) on_board

-- the placement allows the new cell of the change
abbrev pub AllowsChange : Shape → Placement → Change → Type 0
AllowsChange shape placement c =
    (p : Point) → IsOnBoard shape p → number_of shape p ≡ c.point → AllowsAt placement p c.new

-- the placement allows the new cells of all changes
abbrev pub AreAllowed : Shape → Placement → List Change → Type 0
AreAllowed shape placement changes = All (AllowsChange shape placement) changes

-- the point lies in the rectangle of the place
abbrev pub IsInPlace : Place → Point → Type 0
IsInPlace place p = (place.x ≤ p.x) × (p.x < place.x + place.cols) × (place.y ≤ p.y)
    × (p.y < place.y + place.rows)

-- the numbers of all points in the placement's rectangle lie from the first to the last of these
abbrev pub IsSpan : Shape → Placement → ℕ → ℕ → Type 0
IsSpan shape placement first last = (p : Point) → Covers placement p →
    (first ≤ number_of shape p) × (number_of shape p ≤ last)

-- A walk from node n down to a node: no move in the rectangle came, and the placement holds at each
-- node so far. It is told whether no move or pass came at all.
pub record IsWayDown (tree : Tree) (changes : Deltas) (placement : Placement) (n here : ℕ)
    (now : Bool) : Type 0 where
  pub steps : ℕ
  pub reached : below tree n steps ≡ Some here
  pub none : (k m : ℕ) → k < steps → below tree n (suc k) ≡ Some m →
      ¬ HasMoveInside tree placement m
  pub held : (k m : ℕ) → k ≤ steps → below tree n k ≡ Some m → HoldsAt changes placement m
  pub quiet : IsTrue now
      ↔ ((k m : ℕ) → k < steps → below tree n (suc k) ≡ Some m → (node_at tree m).played ≡ None)
