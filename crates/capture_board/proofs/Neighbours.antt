-- The neighbours of a point: at most one to the left, to the right, above and below.
use Rattle.std.proofs.Common.{◌≡◌, ℕ, zero, suc, ◌+◌, ◌-◌, ◌<◌, ◌⊎◌, ◌↔◌, inl, inr, List, [], ◌∷◌, length, get_or, Option, Some, None, refl, sym, ap, ◌∙◌, arith}
use Rattle.std.specs.Prelude.{Contains}
use Rattle.std.specs.Option.{SomeIff}
use Rattle.std.proofs.lemmas.List.{get_or_default, get_or_past}
use Rattle.std.proofs.lemmas.Bool.{cases_lt}
use Rattle.kb_geometry.specs.declared.shape.Shape.{Shape}
use Rattle.kb_geometry.specs.declared.shape.Point.{Point}
use Rattle.kb_geometry.proofs.Shapes.{number_of-lt-count}
use Rattle.kb_geometry.specs.Board.{AreNeighbours, IsOnBoard, IsOneStep, number_of, cols_of, rows_of, point_count}

pub neighbour-lt-count : (shape : Shape) (p q : ℕ) → AreNeighbours shape p q → q < point_count shape
neighbour-lt-count shape p q h = rw (← h.to_number) (number_of-lt-count shape h.to h.to_on_board)

none_not_some : (q : ℕ) → ◌≡◌ {A = Option ℕ} None (Some q) → ⊥
none_not_some q e = cc

-- what stands in a list of neighbours is in it
pub some_entry : (around : List (Option ℕ)) (k q : ℕ) → get_or around k None ≡ Some q → Contains around (Some q)
some_entry around k q e = elim (cases_lt k (length around)) [ inl lt ↦ (k, lt, get_or_default around k (Some q) None lt ∙ e) | inr le ↦ absurd (none_not_some q (sym (get_or_past around k None le) ∙ e)) ]

-- an entry of the list of neighbours is a neighbour
pub around_neighbour : (shape : Shape) (point : ℕ) (around : List (Option ℕ)) → ((q : ℕ) → Contains around (Some q) ↔ AreNeighbours shape point q) → (k q : ℕ) → get_or around k None ≡ Some q → AreNeighbours shape point q
around_neighbour shape point around are k q e = (are q).0 (some_entry around k q e)

four_at : {X : Type 0} (a b c d x : X) (k : ℕ) → k < 4 → get_or (a ∷ b ∷ c ∷ d ∷ []) k x ≡ x → (a ≡ x) ⊎ ((b ≡ x) ⊎ ((c ≡ x) ⊎ (d ≡ x)))
four_at a b c d x zero lt e = inl e
four_at a b c d x (suc zero) lt e = inr (inl e)
four_at a b c d x (suc (suc zero)) lt e = inr (inr (inl e))
four_at a b c d x (suc (suc (suc zero))) lt e = inr (inr (inr e))
four_at a b c d x (suc (suc (suc (suc k)))) lt e = absurd (omega arith)

-- one of four
contains_four : {X : Type 0} (a b c d x : X) → Contains (a ∷ b ∷ c ∷ d ∷ []) x → (a ≡ x) ⊎ ((b ≡ x) ⊎ ((c ≡ x) ⊎ (d ≡ x)))
contains_four a b c d x h = four_at a b c d x h.0 h.1 h.2

SomeIff-value : (o : Option ℕ) (P : Type 0) (v q : ℕ) → SomeIff o P v → o ≡ Some q → P × (v ≡ q)
SomeIff-value None P v q h e = cc
SomeIff-value (Some x) P v q h e = (h.0, cc)

SomeIff-some : (o : Option ℕ) (P : Type 0) (v : ℕ) → SomeIff o P v → P → o ≡ Some v
SomeIff-some None P v h p = absurd (h p)
SomeIff-some (Some x) P v h p = ap (λ n. Some n) h.1

-- the point with these coordinates
abbrev pub point_at : ℕ → ℕ → Point
point_at x y = record { x = x; y = y }

-- the number of the point with these coordinates
abbrev pub number_at : Shape → ℕ → ℕ → ℕ
number_at shape x y = number_of shape (point_at x y)

module _ (shape : Shape) (p : Point) (number : ℕ) (on_board : IsOnBoard shape p) (same : number_of shape p ≡ number) where
  to_left : 0 < p.x → AreNeighbours shape number (number_at shape (p.x - 1) p.y)
  to_left h = record { from = p; to = point_at (p.x - 1) p.y; from_on_board = on_board; to_on_board = (omega arith, omega arith); from_number = same; to_number = refl; one_step = inl (refl, inr (omega arith)) }

  to_right : p.x + 1 < cols_of shape → AreNeighbours shape number (number_at shape (p.x + 1) p.y)
  to_right h = record { from = p; to = point_at (p.x + 1) p.y; from_on_board = on_board; to_on_board = (omega arith, omega arith); from_number = same; to_number = refl; one_step = inl (refl, inl refl) }

  to_above : 0 < p.y → AreNeighbours shape number (number_at shape p.x (p.y - 1))
  to_above h = record { from = p; to = point_at p.x (p.y - 1); from_on_board = on_board; to_on_board = (omega arith, omega arith); from_number = same; to_number = refl; one_step = inr (refl, inr (omega arith)) }

  to_below : p.y + 1 < rows_of shape → AreNeighbours shape number (number_at shape p.x (p.y + 1))
  to_below h = record { from = p; to = point_at p.x (p.y + 1); from_on_board = on_board; to_on_board = (omega arith, omega arith); from_number = same; to_number = refl; one_step = inr (refl, inl refl) }

  module _ (left right above below : Option ℕ)
      (left_is : SomeIff left (0 < p.x) (number_at shape (p.x - 1) p.y))
      (right_is : SomeIff right (p.x + 1 < cols_of shape) (number_at shape (p.x + 1) p.y))
      (above_is : SomeIff above (0 < p.y) (number_at shape p.x (p.y - 1)))
      (below_is : SomeIff below (p.y + 1 < rows_of shape) (number_at shape p.x (p.y + 1))) where
    are_neighbours : (q : ℕ) → (left ≡ Some q) ⊎ ((right ≡ Some q) ⊎ ((above ≡ Some q) ⊎ (below ≡ Some q))) → AreNeighbours shape number q
    are_neighbours q (inl e) = let v = SomeIff-value left _ _ q left_is e in rw (← v.1) (to_left v.0)
    are_neighbours q (inr (inl e)) = let v = SomeIff-value right _ _ q right_is e in rw (← v.1) (to_right v.0)
    are_neighbours q (inr (inr (inl e))) = let v = SomeIff-value above _ _ q above_is e in rw (← v.1) (to_above v.0)
    are_neighbours q (inr (inr (inr e))) = let v = SomeIff-value below _ _ q below_is e in rw (← v.1) (to_below v.0)

    are_among_at : (to : Point) (q : ℕ) → IsOnBoard shape to → number_of shape to ≡ q → IsOneStep p to → Contains (left ∷ right ∷ above ∷ below ∷ []) (Some q)
    are_among_at to q on e (inl (row, inr step)) =
        let x_is : p.x - 1 ≡ to.x = omega arith in
        let v : number_at shape (p.x - 1) p.y ≡ q = rw (x_is, row) e in
        (0, omega arith, rw (← v) (SomeIff-some left _ _ left_is (omega arith)))
    are_among_at to q on e (inl (row, inl step)) =
        let v : number_at shape (p.x + 1) p.y ≡ q = rw (step, row) e in
        (1, omega arith, rw (← v) (SomeIff-some right _ _ right_is (omega arith)))
    are_among_at to q on e (inr (column, inr step)) =
        let y_is : p.y - 1 ≡ to.y = omega arith in
        let v : number_at shape p.x (p.y - 1) ≡ q = rw (y_is, column) e in
        (2, omega arith, rw (← v) (SomeIff-some above _ _ above_is (omega arith)))
    are_among_at to q on e (inr (column, inl step)) =
        let v : number_at shape p.x (p.y + 1) ≡ q = rw (step, column) e in
        (3, omega arith, rw (← v) (SomeIff-some below _ _ below_is (omega arith)))

    are_among : ((r : Point) → IsOnBoard shape r → number_of shape r ≡ number → r ≡ p) → (q : ℕ) → AreNeighbours shape number q → Contains (left ∷ right ∷ above ∷ below ∷ []) (Some q)
    are_among only q h =
        let here = only h.from h.from_on_board h.from_number in
        are_among_at h.to q h.to_on_board h.to_number (rw here at h.one_step)

    -- the four possible neighbours are all neighbours
    pub neighbours_are_four : ((r : Point) → IsOnBoard shape r → number_of shape r ≡ number → r ≡ p) → (q : ℕ) → Contains (left ∷ right ∷ above ∷ below ∷ []) (Some q) ↔ AreNeighbours shape number q
    neighbours_are_four only q = (λ h. are_neighbours q (contains_four left right above below (Some q) h), are_among only q)
