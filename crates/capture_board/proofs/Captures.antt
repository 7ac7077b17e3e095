-- Captured stones, stones taken off, and a move by the capture rule.
use Rattle.std.proofs.Common.{◌≡◌, ◌≢◌, ℕ, ◌+◌, ◌<◌, ◌⊎◌, ◌↔◌, inl, inr, List, [], length, get_or, set, Option, Some, None, refl, sym, ◌∙◌, arith, below_more}
use Rattle.std.specs.Prelude.{Contains}
use Rattle.std.proofs.lemmas.List.{get_or_default, ext_get_or}
use Rattle.capture_board.proofs.Cells.{cases_cell}
use Rattle.kb_geometry.specs.declared.shape.Shape.{Shape}
use Rattle.kb_geometry.specs.declared.stone.Cell.{Cell}
use Rattle.kb_geometry.specs.declared.stone.Cell.TheVariants as cell
use Rattle.kb_geometry.specs.declared.stone.Colour.{Colour}
use Rattle.kb_geometry.specs.Board.{AreNeighbours, point_count}
use Rattle.kb_geometry.specs.Capture.{Position, IsInGroup, HasLiberty, IsWithout, IsCaptured, IsSuicide, IsPlayed, cell_at, stay, stone_of, other_side}
use Rattle.capture_board.proofs.Neighbours.{neighbour-lt-count}
use Rattle.capture_board.proofs.Walks.{walk-lt-count}

-- the same points taken, in other words
pub IsWithout-same : (P Q : ℕ → Type 0) (before after : Position) → ((q : ℕ) → P q ↔ Q q) → IsWithout P before after → IsWithout Q before after
IsWithout-same P Q before after same h = record {
  same_length = h.same_length;
  gone = λ q taken. h.gone q ((same q).1 taken);
  kept = λ q no. h.kept q (λ taken. no ((same q).0 taken));
}

-- no points taken
pub IsWithout-none : (P : ℕ → Type 0) (position : Position) → ((q : ℕ) → P q → ⊥) → IsWithout P position position
IsWithout-none P position none = record { same_length = refl; gone = λ q taken. absurd (none q taken); kept = λ q h. refl }

-- a group of a stone on touching, without a liberty
abbrev pub IsSurrounded : Shape → Position → Cell → ℕ → ℕ → Type 0
IsSurrounded shape position stone touching q = (cell_at position touching ≡ stone) × (¬ HasLiberty shape position touching) × IsInGroup shape position touching q

same_at : (P : ℕ → Type 0) (before one other : Position) → IsWithout P before one → IsWithout P before other → (q : ℕ) → (cell_at one q ≡ cell_at other q) ⊎ (cell_at one q ≢ cell_at other q) → cell_at one q ≡ cell_at other q
same_at P before one other h k q (inl same) = same
same_at P before one other h k q (inr differ) =
    let left : ¬ P q = λ taken. differ (h.gone q taken ∙ sym (k.gone q taken)) in
    absurd (differ (h.kept q left ∙ sym (k.kept q left)))

-- what is taken determines what is left
pub IsWithout-unique : (P : ℕ → Type 0) (before one other : Position) → IsWithout P before one → IsWithout P before other → one ≡ other
IsWithout-unique P before one other h k = ext_get_or cell.Empty one other (h.same_length ∙ sym k.same_length) (λ i lt. same_at P before one other h k i (cases_cell (cell_at one i) (cell_at other i)))

-- a move has one outcome
pub IsPlayed-unique : (shape : Shape) (before : Position) (side : Colour) (point : ℕ) (one other : Position) → IsPlayed shape before side point one → IsPlayed shape before side point other → one ≡ other
IsPlayed-unique shape before side point one other h k =
    let placed = set before point (stone_of side) in
    let same : k.between ≡ h.between = IsWithout-unique (IsCaptured shape placed (other_side side) point) placed k.between h.between k.captures h.captures in
    IsWithout-unique (IsSuicide shape h.between point) h.between one other h.suicide (rw same at k.suicide)

-- the captured stones of the groups at the first count points around
pub record IsTaken (shape : Shape) (position : Position) (side : Colour) (point : ℕ) (around : List (Option ℕ)) (taken : List ℕ) (count : ℕ) : Type 0 where
  pub only : (q : ℕ) → Contains taken q → IsCaptured shape position side point q
  pub added : (k : ℕ) → k < count → (t : ℕ) → get_or around k None ≡ Some t → (q : ℕ) → IsSurrounded shape position (stone_of side) t q → Contains taken q

module _ (shape : Shape) (position : Position) (side : Colour) (point : ℕ) (around : List (Option ℕ)) where
  pub IsTaken-none : IsTaken shape position side point around [] 0
  IsTaken-none = record { only = λ q h. absurd (omega (arith, h.1)); added = λ k lt. absurd (omega arith) }

  module _ (taken : List ℕ) (n : ℕ) (so_far : IsTaken shape position side point around taken n) where
    pub IsTaken-skip : get_or around n None ≡ None → IsTaken shape position side point around taken (n + 1)
    IsTaken-skip none = record { only = so_far.only; added = below_more _ _ so_far.added (λ t e. cc) }

    taken_only : (t : ℕ) → AreNeighbours shape point t → (q : ℕ) → Contains taken q ⊎ IsSurrounded shape position (stone_of side) t q → IsCaptured shape position side point q
    taken_only t near q (inl h) = so_far.only q h
    taken_only t near q (inr h) = record { touching = t; neighbour = near; stone = h.0; in_group = h.2; surrounded = h.1 }

    pub IsTaken-more : (t : ℕ) → get_or around n None ≡ Some t → AreNeighbours shape point t → (grown : List ℕ) → ((q : ℕ) → Contains grown q ↔ (Contains taken q ⊎ IsSurrounded shape position (stone_of side) t q)) → IsTaken shape position side point around grown (n + 1)
    IsTaken-more t here near grown are = record {
      only = λ q h. taken_only t near q ((are q).0 h);
      added = below_more _ _ (λ k lt r e q s. (are q).1 (inl (so_far.added k lt r e q s))) (λ r e q s. let same : t ≡ r = cc in (are q).1 (inr (rw same s)));
    }

    taken_all : length around ≡ n → ((q : ℕ) → Contains around (Some q) ↔ AreNeighbours shape point q) → (q : ℕ) → IsCaptured shape position side point q → Contains taken q
    taken_all whole are q h =
        let m = (are h.touching).1 h.neighbour in
        let e : get_or around m.0 None ≡ Some h.touching = get_or_default around m.0 None (Some h.touching) m.1 ∙ m.2 in
        so_far.added m.0 (omega (arith, m.1)) h.touching e q (h.stone, h.surrounded, h.in_group)

    pub IsTaken-all : length around ≡ n → ((q : ℕ) → Contains around (Some q) ↔ AreNeighbours shape point q) → (q : ℕ) → Contains taken q ↔ IsCaptured shape position side point q
    IsTaken-all whole are q = (so_far.only q, taken_all whole are q)

-- a captured stone stands on the board
pub captured-lt-count : (shape : Shape) (position : Position) (side : Colour) (point q : ℕ) → IsCaptured shape position side point q → q < point_count shape
captured-lt-count shape position side point q h = walk-lt-count shape position (cell_at position h.touching) h.in_group (neighbour-lt-count shape point h.touching h.neighbour)

module _ (shape : Shape) (position : Position) (point : ℕ) where
  -- a group with a liberty is no suicide
  pub no_suicide : HasLiberty shape position point → (q : ℕ) → IsSuicide shape position point q → ⊥
  no_suicide free q h = h.surrounded free

  -- a point with an empty neighbour has a liberty
  pub free_beside : (q : ℕ) → AreNeighbours shape point q → cell_at position q ≡ cell.Empty → HasLiberty shape position point
  free_beside q near empty = record { member = point; liberty = q; in_group = stay refl; neighbour = near; empty = empty }

  -- the group of the point, if it has no liberty
  pub suicide_is : ¬ HasLiberty shape position point → (group : List ℕ) → ((q : ℕ) → Contains group q ↔ IsInGroup shape position point q) → (q : ℕ) → Contains group q ↔ IsSuicide shape position point q
  suicide_is none group are q = (λ h. record { in_group = (are q).0 h; surrounded = none }, λ h. (are q).1 h.in_group)
