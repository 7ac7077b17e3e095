-- Each move has a position after it: walks, liberties and captures are decided, and the position is built cell by cell.
use Rattle.std.proofs.Common.{◌≡◌, ℕ, zero, suc, ◌<◌, ◌⊎◌, inl, inr, [], ◌∷◌, set, Option, Some, None, refl, ap}
use Rattle.std.specs.Prelude.{IfSome}
use Rattle.std.proofs.lemmas.Bool.{cases_eq}
use Rattle.kb_geometry.specs.declared.shape.Shape.{Shape}
use Rattle.kb_geometry.specs.declared.shape.Point.{Point}
use Rattle.kb_geometry.specs.declared.stone.Cell.{Cell}
use Rattle.kb_geometry.specs.declared.stone.Cell.TheVariants as cell
use Rattle.kb_geometry.specs.declared.stone.Colour.{Colour}
use Rattle.kb_geometry.specs.Board.{AreNeighbours, IsOnBoard, IsOneStep, cols_of, number_of, point_count, rows_of}
use Rattle.kb_geometry.specs.Capture.{Position, Walk, stay, go, IsInGroup, HasLiberty, IsWithout, IsCaptured, IsSuicide, IsPlayed, IsMovePlayed, cell_at, stone_of, other_side}
use Rattle.kb_geometry.proofs.Shapes.{number_of-lt-count}
use Rattle.capture_board.proofs.Cells.{cases_cell}
use Rattle.capture_board.proofs.Decisions.{IsDecided, SomeBelow, Leads, decided_and, decided_below, decided_not, decided_or, decided_same, leads_decided, leads_from_step, leads_keeps, leads_on}
use Rattle.capture_board.proofs.GroupLaws.{walk_on}
use Rattle.capture_board.proofs.Neighbours.{neighbour-lt-count}
use Rattle.capture_board.proofs.Walks.{walk_cell, walk_keeps, walk-lt-count}

-- ---- neighbours

step-decided : (p q : Point) → IsDecided (IsOneStep p q)
step-decided p q =
    let one : (a b : ℕ) → IsDecided (a ≡ b) = cases_eq in
    decided_or _ _
    (decided_and _ _ (one p.y q.y) (decided_or _ _ (cases_eq _ q.x) (cases_eq _ p.x)))
    (decided_and _ _ (one p.x q.x) (decided_or _ _ (cases_eq _ q.y) (cases_eq _ p.y)))

-- two points of the board, by their columns and rows, with these numbers and one step apart
abbrev AreApart : Shape → ℕ → ℕ → Point → Point → Type 0
AreApart shape p q from to = (number_of shape from ≡ p) × ((number_of shape to ≡ q) × IsOneStep from to)

abbrev at : ℕ → ℕ → Point
at x y = record { x = x; y = y }

module _ (shape : Shape) (p q : ℕ) where
  apart-decided : (from to : Point) → IsDecided (AreApart shape p q from to)
  apart-decided from to =
      decided_and (number_of shape from ≡ p) ((number_of shape to ≡ q) × IsOneStep from to)
      (cases_eq (number_of shape from) p)
      (decided_and (number_of shape to ≡ q) (IsOneStep from to) (cases_eq (number_of shape to) q) (step-decided from to))

  abbrev ToSome : Point → Type 0
  ToSome from = SomeBelow (λ x. SomeBelow (λ y. AreApart shape p q from (at x y)) (rows_of shape)) (cols_of shape)

  abbrev FromSome : Type 0
  FromSome = SomeBelow (λ x. SomeBelow (λ y. ToSome (at x y)) (rows_of shape)) (cols_of shape)

  some-decided : IsDecided FromSome
  some-decided =
      decided_below _ (cols_of shape) (λ x _.
      decided_below _ (rows_of shape) (λ y _.
      decided_below _ (cols_of shape) (λ u _.
      decided_below _ (rows_of shape) (λ v _. apart-decided (at x y) (at u v)))))

  near_from_some : FromSome → AreNeighbours shape p q
  near_from_some (x, x_on, (y, y_on, (u, u_on, (v, v_on, (is_p, (is_q, step)))))) = record {
    from = at x y;
    to = at u v;
    from_on_board = (x_on, y_on);
    to_on_board = (u_on, v_on);
    from_number = is_p;
    to_number = is_q;
    one_step = step;
  }

  some_from_near : AreNeighbours shape p q → FromSome
  some_from_near h = (
    h.from.x,
    h.from_on_board.0,
    (
      h.from.y,
      h.from_on_board.1,
      (h.to.x, h.to_on_board.0, (h.to.y, h.to_on_board.1, (h.from_number, (h.to_number, h.one_step)))),
    ),
  )

  pub neighbours-decided : IsDecided (AreNeighbours shape p q)
  neighbours-decided = decided_same _ _ (near_from_some, some_from_near) some-decided

-- ---- groups and liberties

module _ (shape : Shape) (position : Position) where
  module _ (stone : Cell) where
    -- no step, or one to a neighbour with the cell
    abbrev GoesTo : ℕ → ℕ → Type 0
    GoesTo p q = (p ≡ q) ⊎ (AreNeighbours shape p q × (cell_at position q ≡ stone))

    goes-decided : (p q : ℕ) → IsDecided (GoesTo p q)
    goes-decided p q =
        decided_or (p ≡ q) (AreNeighbours shape p q × (cell_at position q ≡ stone)) (cases_eq p q)
        (decided_and (AreNeighbours shape p q) (cell_at position q ≡ stone) (neighbours-decided shape p q)
        (cases_cell (cell_at position q) stone))

    -- a walk from a point of the board, by steps over the points of the board
    leads_from_walk : (p q : ℕ) → p < point_count shape → Walk shape position stone p q
        → (q < point_count shape) × Leads GoesTo (point_count shape) p q
    leads_from_walk p q on w =
        walk_keeps shape position stone (λ r. (r < point_count shape) × Leads GoesTo (point_count shape) p r)
        (λ q r so_far near e. (
          neighbour-lt-count shape q r near,
          leads_on GoesTo (point_count shape) q p r so_far.0 so_far.1
              (leads_from_step GoesTo (point_count shape) q r (inr (near, e))),
        ))
        w (on, leads_from_step GoesTo (point_count shape) p p (inl refl))

    walk_from_step : (p q : ℕ) → GoesTo p q → cell_at position p ≡ stone → Walk shape position stone p q
    walk_from_step p q (inl e) here = rw (← e) (stay here)
    walk_from_step p q (inr h) here = go (stay here) h.0 h.1

    walk_from_leads : (k p q : ℕ) → Leads GoesTo k p q → cell_at position p ≡ stone → Walk shape position stone p q
    walk_from_leads =
        leads_keeps GoesTo (λ p q. cell_at position p ≡ stone → Walk shape position stone p q) walk_from_step
        (λ p m q first rest here. let w = first here in
        walk_on shape position stone w (rest (walk_cell shape position stone w)))

  pub in_group-decided : (p q : ℕ) → p < point_count shape → IsDecided (IsInGroup shape position p q)
  in_group-decided p q on =
      let stone = cell_at position p in
      decided_same (Leads (GoesTo stone) (point_count shape) p q) (IsInGroup shape position p q)
      (λ h. walk_from_leads stone (point_count shape) p q h refl, λ w. (leads_from_walk stone p q on w).1)
      (leads_decided (GoesTo stone) (goes-decided stone) (point_count shape) p q)

  -- a member of the group of p, and an empty neighbour of it
  abbrev IsFree : ℕ → ℕ → ℕ → Type 0
  IsFree p member liberty =
      IsInGroup shape position p member × (AreNeighbours shape member liberty × (cell_at position liberty ≡ cell.Empty))

  abbrev SomeFree : ℕ → Type 0
  SomeFree p = SomeBelow (λ m. SomeBelow (IsFree p m) (point_count shape)) (point_count shape)

  some_free : (p : ℕ) → p < point_count shape → HasLiberty shape position p → SomeFree p
  some_free p on h = (
    h.member,
    walk-lt-count shape position (cell_at position p) h.in_group on,
    (h.liberty, neighbour-lt-count shape h.member h.liberty h.neighbour, (h.in_group, (h.neighbour, h.empty))),
  )

  liberty_from_free : (p : ℕ) → SomeFree p → HasLiberty shape position p
  liberty_from_free p h = record {
    member = h.0;
    liberty = h.2.0;
    in_group = h.2.2.0;
    neighbour = h.2.2.1.0;
    empty = h.2.2.1.1;
  }

  pub has_liberty-decided : (p : ℕ) → p < point_count shape → IsDecided (HasLiberty shape position p)
  has_liberty-decided p on =
      decided_same (SomeFree p) (HasLiberty shape position p) (liberty_from_free p, some_free p on)
      (decided_below (λ m. SomeBelow (IsFree p m) (point_count shape)) (point_count shape) (λ m _.
      decided_below (IsFree p m) (point_count shape) (λ l _.
      decided_and (IsInGroup shape position p m) (AreNeighbours shape m l × (cell_at position l ≡ cell.Empty))
      (in_group-decided p m on)
      (decided_and (AreNeighbours shape m l) (cell_at position l ≡ cell.Empty) (neighbours-decided shape m l)
      (cases_cell (cell_at position l) cell.Empty)))))

  -- ---- captured stones

  module _ (side : Colour) (point q : ℕ) where
    -- q is in a group without liberties of the side, which this neighbour of the point belongs to
    abbrev IsTakenBy : ℕ → Type 0
    IsTakenBy t =
        (AreNeighbours shape point t × (cell_at position t ≡ stone_of side))
        × (IsInGroup shape position t q × (¬ HasLiberty shape position t))

    taken_by-decided : (t : ℕ) → t < point_count shape → IsDecided (IsTakenBy t)
    taken_by-decided t on =
        decided_and (AreNeighbours shape point t × (cell_at position t ≡ stone_of side))
        (IsInGroup shape position t q × (¬ HasLiberty shape position t))
        (decided_and (AreNeighbours shape point t) (cell_at position t ≡ stone_of side)
        (neighbours-decided shape point t) (cases_cell (cell_at position t) (stone_of side)))
        (decided_and (IsInGroup shape position t q) (¬ HasLiberty shape position t) (in_group-decided t q on)
        (decided_not (HasLiberty shape position t) (has_liberty-decided t on)))

    captured_from_some : SomeBelow IsTakenBy (point_count shape) → IsCaptured shape position side point q
    captured_from_some h = record {
      touching = h.0;
      neighbour = h.2.0.0;
      stone = h.2.0.1;
      in_group = h.2.1.0;
      surrounded = h.2.1.1;
    }

    some_captures : IsCaptured shape position side point q → SomeBelow IsTakenBy (point_count shape)
    some_captures h = (
      h.touching,
      neighbour-lt-count shape point h.touching h.neighbour,
      ((h.neighbour, h.stone), (h.in_group, h.surrounded)),
    )

    pub captured-decided : IsDecided (IsCaptured shape position side point q)
    captured-decided =
        decided_same (SomeBelow IsTakenBy (point_count shape)) (IsCaptured shape position side point q)
        (captured_from_some, some_captures) (decided_below IsTakenBy (point_count shape) taken_by-decided)

  pub suicide-decided : (point q : ℕ) → point < point_count shape → IsDecided (IsSuicide shape position point q)
  suicide-decided point q on =
      decided_same (IsInGroup shape position point q × (¬ HasLiberty shape position point))
      (IsSuicide shape position point q)
      (λ h. record { in_group = h.0; surrounded = h.1 }, λ h. (h.in_group, h.surrounded))
      (decided_and (IsInGroup shape position point q) (¬ HasLiberty shape position point) (in_group-decided point q on)
      (decided_not (HasLiberty shape position point) (has_liberty-decided point on)))

-- ---- the position without some stones

-- one cell before those of a position
module _ (taken : ℕ → Type 0) (x y : Cell) (xs ys : Position)
    (rest : IsWithout (λ q. taken (suc q)) xs ys)
    (gone : taken 0 → y ≡ cell.Empty) (kept : ¬ taken 0 → y ≡ x) where
  gone_before : (q : ℕ) → taken q → cell_at (y ∷ ys) q ≡ cell.Empty
  gone_before zero t = gone t
  gone_before (suc q) t = rest.gone q t

  kept_before : (q : ℕ) → ¬ taken q → cell_at (y ∷ ys) q ≡ cell_at (x ∷ xs) q
  kept_before zero left = kept left
  kept_before (suc q) left = rest.kept q left

  without_before : IsWithout taken (x ∷ xs) (y ∷ ys)
  without_before = record { same_length = ap suc rest.same_length; gone = gone_before; kept = kept_before }

abbrev WithoutSome : (ℕ → Type 0) → Position → Type 0
WithoutSome taken before = (after : Position) × IsWithout taken before after

pub without : (taken : ℕ → Type 0) → ((q : ℕ) → IsDecided (taken q)) → (before : Position) → WithoutSome taken before
without taken each [] = ([], record { same_length = refl; gone = λ q _. refl; kept = λ q _. refl })
without taken each (x ∷ xs) =
    let rest = without (λ q. taken (suc q)) (λ q. each (suc q)) xs in
    elim (each 0) [
      | inl here ↦
          (cell.Empty ∷ rest.0, without_before taken x cell.Empty xs rest.0 rest.1 (λ _. refl) (λ left. absurd (left here)))
      | inr left ↦ (x ∷ rest.0, without_before taken x x xs rest.0 rest.1 (λ here. absurd (left here)) (λ _. refl))
    ]

-- ---- a move

-- the position after a stone is played on a point of the board
pub played : (shape : Shape) (before : Position) (side : Colour) (point : ℕ) → point < point_count shape
    → (after : Position) × IsPlayed shape before side point after
played shape before side point on =
    let placed = set before point (stone_of side) in
    let captures = without (IsCaptured shape placed (other_side side) point)
    (λ q. captured-decided shape placed (other_side side) point q) placed in
    let suicide = without (IsSuicide shape captures.0 point)
    (λ q. suicide-decided shape captures.0 point q on) captures.0 in
    (suicide.0, record { between = captures.0; captures = captures.1; suicide = suicide.1 })

-- the position after a move on the board, or a pass
pub move_played : (shape : Shape) (before : Position) (side : Colour) (move : Option Point)
    → IfSome move (IsOnBoard shape) → (after : Position) × IsMovePlayed shape before side move after
move_played shape before side None on = (before, refl)
move_played shape before side (Some p) on =
    played shape before side (number_of shape p) (number_of-lt-count shape p on)
