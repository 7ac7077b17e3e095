-- Walks over neighbours, and sets of points that are groups.
use Rattle.std.proofs.Common.{◌≡◌, ◌≢◌, ℕ, ◌<◌, ◌↔◌}
use Rattle.kb_geometry.specs.declared.shape.Shape.{Shape}
use Rattle.kb_geometry.specs.declared.stone.Cell.{Cell}
use Rattle.kb_geometry.specs.declared.stone.Cell.TheVariants as cell
use Rattle.kb_geometry.specs.Board.{AreNeighbours, point_count}
use Rattle.kb_geometry.specs.Capture.{Position, Walk, stay, go, IsInGroup, HasLiberty, cell_at}
use Rattle.capture_board.proofs.Neighbours.{neighbour-lt-count}

-- what holds of the start and passes to each neighbour with the cell holds along a walk
pub walk_keeps : (shape : Shape) (position : Position) (stone : Cell) (P : ℕ → Type 0) → ((q r : ℕ) → P q → AreNeighbours shape q r → cell_at position r ≡ stone → P r) → {p q : ℕ} → Walk shape position stone p q → P p → P q
walk_keeps shape position stone P step (stay e) here = here
walk_keeps shape position stone P step (go w n e) here = step _ _ (walk_keeps shape position stone P step w here) n e

-- a walk ends on a point with the cell
pub walk_cell : (shape : Shape) (position : Position) (stone : Cell) {p q : ℕ} → Walk shape position stone p q → cell_at position q ≡ stone
walk_cell shape position stone (stay e) = e
walk_cell shape position stone (go w n e) = e

-- a walk from a point of the board stays on the board
pub walk-lt-count : (shape : Shape) (position : Position) (stone : Cell) {p q : ℕ} → Walk shape position stone p q → p < point_count shape → q < point_count shape
walk-lt-count shape position stone w here = walk_keeps shape position stone (λ r. r < point_count shape) (λ q r on n e. neighbour-lt-count shape q r n) w here

-- a set of members of a group, with its start and each neighbour of a member that has the cell
module _ (shape : Shape) (position : Position) (start : ℕ) (Member : ℕ → Type 0)
    (here : Member start)
    (within : (q : ℕ) → Member q → IsInGroup shape position start q)
    (closed : (q r : ℕ) → Member q → AreNeighbours shape q r → cell_at position r ≡ cell_at position start → Member r) where
  -- is the group
  pub group_from_closed : (q : ℕ) → Member q ↔ IsInGroup shape position start q
  group_from_closed q = (within q, λ w. walk_keeps shape position (cell_at position start) Member closed w here)

  -- which has no liberty if no member has an empty neighbour
  pub surrounded_from_closed : ((q r : ℕ) → Member q → AreNeighbours shape q r → cell_at position r ≢ cell.Empty) → ¬ HasLiberty shape position start
  surrounded_from_closed solid free = solid free.member free.liberty ((group_from_closed free.member).1 free.in_group) free.neighbour free.empty
