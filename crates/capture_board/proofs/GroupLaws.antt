-- Laws of the definitions of the capture rule: neighbours come in pairs, and groups divide the points of a board.
use Rattle.std.proofs.Common.{◌≡◌, ℕ, ◌⊎◌, ◌↔◌, inl, inr, List, refl, sym}
use Rattle.std.specs.Prelude.{Contains}
use Rattle.kb_geometry.specs.declared.shape.Shape.{Shape}
use Rattle.kb_geometry.specs.declared.shape.Point.{Point}
use Rattle.kb_geometry.specs.declared.stone.Cell.{Cell}
use Rattle.kb_geometry.specs.Board.{AreNeighbours, IsOneStep}
use Rattle.kb_geometry.specs.Capture.{Position, Walk, stay, go, IsInGroup, HasLiberty, cell_at}
use Rattle.capture_board.specs.WholeGroups.{HasWholeGroups}
use Rattle.capture_board.proofs.Walks.{walk_cell}

IsOneStep-symmetric : (p q : Point) → IsOneStep p q → IsOneStep q p
IsOneStep-symmetric p q (inl (row, inl right)) = inl (sym row, inr right)
IsOneStep-symmetric p q (inl (row, inr left)) = inl (sym row, inl left)
IsOneStep-symmetric p q (inr (column, inl down)) = inr (sym column, inr down)
IsOneStep-symmetric p q (inr (column, inr up)) = inr (sym column, inl up)

pub AreNeighbours-symmetric : (shape : Shape) (p q : ℕ) → AreNeighbours shape p q → AreNeighbours shape q p
AreNeighbours-symmetric shape p q h = record {
  from = h.to;
  to = h.from;
  from_on_board = h.to_on_board;
  to_on_board = h.from_on_board;
  from_number = h.to_number;
  to_number = h.from_number;
  one_step = IsOneStep-symmetric h.from h.to h.one_step;
}

module _ (shape : Shape) (position : Position) (stone : Cell) where
  pub walk_from_neighbour : {p q r : ℕ} → cell_at position p ≡ stone → AreNeighbours shape p q → Walk shape position stone q r → Walk shape position stone p r
  walk_from_neighbour here near (stay e) = go (stay here) near e
  walk_from_neighbour here near (go w n e) = go (walk_from_neighbour here near w) n e

  pub walk_back : {p q : ℕ} → Walk shape position stone p q → Walk shape position stone q p
  walk_back (stay e) = stay e
  walk_back (go w n e) = walk_from_neighbour e (AreNeighbours-symmetric shape _ _ n) (walk_back w)

  pub walk_on : {p q r : ℕ} → Walk shape position stone p q → Walk shape position stone q r → Walk shape position stone p r
  walk_on v (stay e) = v
  walk_on v (go w n e) = go (walk_on v w) n e

  -- a walk is one in each position that has the same stones
  pub walk_in_other : (other : Position) → ((q : ℕ) → cell_at position q ≡ stone → cell_at other q ≡ stone) → {p q : ℕ} → Walk shape position stone p q → Walk shape other stone p q
  walk_in_other other same (stay e) = stay (same _ e)
  walk_in_other other same (go w n e) = go (walk_in_other other same w) n (same _ e)

module _ (shape : Shape) (position : Position) where
  pub IsInGroup-reflexive : (p : ℕ) → IsInGroup shape position p p
  IsInGroup-reflexive p = stay refl

  pub IsInGroup-symmetric : (p q : ℕ) → IsInGroup shape position p q → IsInGroup shape position q p
  IsInGroup-symmetric p q w = rw (walk_cell shape position (cell_at position p) w) (walk_back shape position (cell_at position p) w)

  pub IsInGroup-transitive : (p q r : ℕ) → IsInGroup shape position p q → IsInGroup shape position q r → IsInGroup shape position p r
  IsInGroup-transitive p q r w v = walk_on shape position (cell_at position p) w (rw (walk_cell shape position (cell_at position p) w) at v)

  -- a liberty of a group is one of each member's group
  pub HasLiberty-in_group : (p q : ℕ) → IsInGroup shape position p q → HasLiberty shape position p → HasLiberty shape position q
  HasLiberty-in_group p q w free = record {
    member = free.member;
    liberty = free.liberty;
    in_group = IsInGroup-transitive q p free.member (IsInGroup-symmetric p q w) free.in_group;
    neighbour = free.neighbour;
    empty = free.empty;
  }

  -- a set with whole groups, joined with one more group
  pub HasWholeGroups-joined : (start : ℕ) (before group after : List ℕ) → HasWholeGroups shape position before → ((q : ℕ) → Contains group q ↔ IsInGroup shape position start q) → ((q : ℕ) → Contains after q ↔ (Contains before q ⊎ Contains group q)) → HasWholeGroups shape position after
  HasWholeGroups-joined start before group after whole members joined p q h w = elim ((joined p).0 h) [
    | inl old ↦ (joined q).1 (inl (whole p q old w))
    | inr new ↦ (joined q).1 (inr ((members q).1 (IsInGroup-transitive start p q ((members p).0 new) w)))
  ]
