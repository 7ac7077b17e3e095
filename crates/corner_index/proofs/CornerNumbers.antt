-- The number of a corner of a position, and of the position after a change.
use Rattle.std.proofs.Common.{◌≡◌, ◌≢◌, ℕ, ◌+◌, ◌*◌, ◌-◌, ◌/◌, ◌%◌, ◌^◌, ◌<◌, ◌≤◌, set, refl, sym, ◌∙◌, ap, subst, arith, inl, inr}
use Rattle.std.proofs.Math.Nat.{mul-le-mul_right}
use Rattle.std.proofs.lemmas.Bool.{cases_lt}
use Rattle.std.proofs.lemmas.List.{get_or-replicate, get_or-set_other, get_or-set_same, get_or_past, length-replicate}
use Rattle.kb_geometry.specs.declared.shape.Shape.{Shape}
use Rattle.kb_geometry.specs.declared.stone.Cell.{Cell}
use Rattle.kb_geometry.specs.declared.stone.Cell.TheVariants as cell
use Rattle.kb_geometry.specs.declared.stone.Change.{Change}
use Rattle.kb_geometry.specs.Board.{point_count}
use Rattle.kb_geometry.specs.Capture.{Position, cell_at, empty_board}
use Rattle.corner_index.specs.Corners.{corner_number, digit_of, point_in_frame, sum_below, term_of}
use Rattle.corner_index.specs.Keys.{StandsBefore, point_on}
use Rattle.corner_index.proofs.Sums.{digits_same, power_grows, sum_below-digits, sum_below-one, sum_below-rows, sum_below-same, sum_below-term, sum_below-zero}

-- a place is known by its column and its row
place_column : (x y : ℕ) → x < 6 → (y * 6 + x) % 6 ≡ x
place_column x y lt = omega arith

place_row : (x y : ℕ) → x < 6 → (y * 6 + x) / 6 ≡ y
place_row x y lt = omega arith

digit_of-small : (c : Cell) → digit_of c ≤ 2
digit_of-small cell.Empty = omega arith
digit_of-small cell.Black = omega arith
digit_of-small cell.White = omega arith

-- the term of a place
abbrev pub term_on : ℕ → Shape → Position → ℕ → ℕ
term_on corner shape position k = digit_of (cell_at position (point_on corner shape k)) * 3 ^ k

module _ (corner : ℕ) (shape : Shape) (position : Position) where
  abbrev digit_at : ℕ → ℕ → ℕ
  digit_at column row = digit_of (cell_at position (point_in_frame corner shape column row))

  term_in_row : (row column : ℕ) → column < 6 → term_of corner shape position column row ≡ term_on corner shape position (6 * row + column)
  term_in_row row column lt =
      let sum : 6 * row + column ≡ row * 6 + column = omega arith in
      let x : (6 * row + column) % 6 ≡ column = ap (λ n. n % 6) sum ∙ place_column column row lt in
      let y : (6 * row + column) / 6 ≡ row = ap (λ n. n / 6) sum ∙ place_row column row lt in
      ap (λ i. digit_at i row * 3 ^ (6 * row + column)) (sym x) ∙ ap (λ j. digit_at ((6 * row + column) % 6) j * 3 ^ (6 * row + column)) (sym y)

  pub corner_number-places : corner_number corner shape position ≡ sum_below 36 (term_on corner shape position)
  unfolding corner_number
  corner_number-places =
      sum_below-same 6 _ _ (λ row h. sum_below-same 6 _ _ (λ column lt. term_in_row row column lt))
      ∙ sum_below-rows 6 (term_on corner shape position)

  corner_number-small : corner_number corner shape position < 3 ^ 36
  corner_number-small =
      let below = sum_below-digits 36 (λ k. digit_of (cell_at position (point_on corner shape k))) (λ k. digit_of-small (cell_at position (point_on corner shape k))) in
      subst (λ n. n < 3 ^ 36) (sym corner_number-places) below

  pub corner_number-below : corner_number corner shape position < 150094635296999121
  corner_number-below =
      let below = corner_number-small in
      let top : 3 ^ 36 ≡ 150094635296999121 = refl in
      omega (arith, below, top)

  pub corner_number-term : (k : ℕ) → k < 36 → term_on corner shape position k ≤ corner_number corner shape position
  corner_number-term k lt =
      subst (λ n. term_on corner shape position k ≤ n) (sym corner_number-places) (sum_below-term 36 (term_on corner shape position) k lt)

digit_of-same : (a b : Cell) → digit_of a ≡ digit_of b → a ≡ b
digit_of-same cell.Empty cell.Empty e = refl
digit_of-same cell.Empty cell.Black e = absurd (omega (arith, e))
digit_of-same cell.Empty cell.White e = absurd (omega (arith, e))
digit_of-same cell.Black cell.Empty e = absurd (omega (arith, e))
digit_of-same cell.Black cell.Black e = refl
digit_of-same cell.Black cell.White e = absurd (omega (arith, e))
digit_of-same cell.White cell.Empty e = absurd (omega (arith, e))
digit_of-same cell.White cell.Black e = absurd (omega (arith, e))
digit_of-same cell.White cell.White e = refl

-- two positions with one number have the same cells in the corner
module _ (corner : ℕ) (shape : Shape) (p q : Position) (same : corner_number corner shape p ≡ corner_number corner shape q) where
  abbrev digit_on : Position → ℕ → ℕ
  digit_on position k = digit_of (cell_at position (point_on corner shape k))

  same_digits : (k : ℕ) → k < 36 → digit_on p k ≡ digit_on q k
  same_digits =
      digits_same 36 (digit_on p) (digit_on q) (λ k. digit_of-small (cell_at p (point_on corner shape k))) (λ k. digit_of-small (cell_at q (point_on corner shape k)))
      (sym (corner_number-places corner shape p) ∙ same ∙ corner_number-places corner shape q)

  pub same_cells : (column row : ℕ) → column < 6 → row < 6 → cell_at p (point_in_frame corner shape column row) ≡ cell_at q (point_in_frame corner shape column row)
  same_cells column row left high =
      let place : row * 6 + column < 36 = omega (arith, left, high) in
      let x = place_column column row left in
      let y = place_row column row left in
      let there : point_on corner shape (row * 6 + column) ≡ point_in_frame corner shape column row = ap (λ i. point_in_frame corner shape i ((row * 6 + column) / 6)) x ∙ ap (λ j. point_in_frame corner shape column j) y in
      ap (cell_at p) (sym there) ∙ digit_of-same _ _ (same_digits (row * 6 + column) place) ∙ ap (cell_at q) there

no_weight : (w : ℕ) → 0 * w ≡ 0
no_weight w = omega arith

-- on the empty board each number is 0
pub corner_number-empty : (corner : ℕ) (shape : Shape) → corner_number corner shape (empty_board shape) ≡ 0
corner_number-empty corner shape =
    corner_number-places corner shape (empty_board shape)
    ∙ sum_below-zero 36 (term_on corner shape (empty_board shape)) (λ k lt. empty_term (point_on corner shape k) k)
  where
    empty_cell : (p : ℕ) → cell_at (empty_board shape) p ≡ cell.Empty
    empty_cell p =
        elim (cases_lt p (point_count shape)) [
          | inl on ↦ get_or-replicate (point_count shape) p cell.Empty cell.Empty on
          | inr off ↦ get_or_past (empty_board shape) p cell.Empty (omega (arith, off, length-replicate (point_count shape) cell.Empty))
        ]

    empty_term : (p k : ℕ) → digit_of (cell_at (empty_board shape) p) * 3 ^ k ≡ 0
    empty_term p k = ap (λ (c : Cell). digit_of c * 3 ^ k) (empty_cell p) ∙ no_weight (3 ^ k)

pub weight_fits : (k : ℕ) → k < 36 → 3 ^ k ≤ 3 ^ 35
weight_fits k lt =
    let last : k + (35 - k) ≡ 35 = omega arith in
    subst (λ n. 3 ^ k ≤ 3 ^ n) last (power_grows k (35 - k))

pub power_fits : (n k : ℕ) → n ≡ k → k < 36 → 3 ^ n < 18446744073709551616
power_fits n k e lt =
    let weight = weight_fits k lt in
    let same : 3 ^ n ≡ 3 ^ k = ap (λ i. 3 ^ i) e in
    let top : 3 ^ 35 ≡ 50031545098999707 = refl in
    omega (arith, weight, same, top)

-- the digit of a cell, times the weight of a place, as they are at hand
product_is : (d w from k : ℕ) (c : Cell) → d ≡ digit_of c → w ≡ 3 ^ from → from ≡ k → d * w ≡ digit_of c * 3 ^ k
product_is d w from k c e f g = ap (λ x. x * w) e ∙ ap (λ y. digit_of c * y) (f ∙ ap (λ i. 3 ^ i) g)

pub product_fits : (d w from k : ℕ) (c : Cell) → d ≡ digit_of c → w ≡ 3 ^ from → from ≡ k → k < 36 → d * w ≤ 100063090197999414
product_fits d w from k c e f g lt =
    let is = product_is d w from k c e f g in
    let weight = weight_fits k lt in
    let top : 3 ^ 35 ≡ 50031545098999707 = refl in
    let small : digit_of c * 3 ^ k ≤ 2 * 3 ^ k = mul-le-mul_right (3 ^ k) (digit_of-small c) in
    omega (arith, is, weight, top, small)

-- ---- a change
module _ (corner : ℕ) (shape : Shape) (number : ℕ) (change : Change) (p : Position) (stands : StandsBefore corner shape number change p) where
  abbrev after : Position
  after = set p change.point change.new

  -- a place of another point keeps its term
  kept : (k : ℕ) → point_on corner shape k ≢ change.point → term_on corner shape p k ≡ term_on corner shape after k
  kept k ne =
      ap (λ (c : Cell). digit_of c * 3 ^ k) (sym (get_or-set_other p change.point (point_on corner shape k) change.new cell.Empty ne))

  -- a change off the corner leaves the number
  pub changed_off : ((k : ℕ) → k < 36 → point_on corner shape k ≢ change.point) → number ≡ corner_number corner shape after
  changed_off off =
      stands.is ∙ corner_number-places corner shape p
      ∙ sum_below-same 36 (term_on corner shape p) (term_on corner shape after) (λ k lt. kept k (off k lt))
      ∙ sym (corner_number-places corner shape after)

  module _ (place : ℕ) (within : place < 36) (there : point_on corner shape place ≡ change.point) (only : (k : ℕ) → k < 36 → point_on corner shape k ≡ change.point → k ≡ place) where
    old_term : term_on corner shape p place ≡ digit_of change.old * 3 ^ place
    old_term = ap (λ (c : Cell). digit_of c * 3 ^ place) (ap (cell_at p) there ∙ sym stands.old)

    new_term : change.point < point_count shape → term_on corner shape after place ≡ digit_of change.new * 3 ^ place
    new_term on =
        ap (λ (c : Cell). digit_of c * 3 ^ place)
        (ap (cell_at after) there ∙ get_or-set_same p change.point change.new cell.Empty (omega (arith, on, stands.count)))

    pub old_fits : digit_of change.old * 3 ^ place ≤ number
    old_fits =
        let term = corner_number-term corner shape p place within in
        omega (arith, term, old_term, stands.is)

    pub changed_on : change.point < point_count shape → corner_number corner shape after + digit_of change.old * 3 ^ place ≡ number + digit_of change.new * 3 ^ place
    changed_on on =
        let sums = sum_below-one 36 (term_on corner shape p) (term_on corner shape after) place within (λ k lt ne. kept k (λ e. ne (only k lt e))) in
        let one = corner_number-places corner shape p in
        let other = corner_number-places corner shape after in
        let made = new_term on in
        omega (arith, sums, one, other, made, old_term, stands.is)

    -- the sum as the code makes it
    pub number_after : (d e w from : ℕ) → d ≡ digit_of change.old → e ≡ digit_of change.new → w ≡ 3 ^ from → from ≡ place → change.point < point_count shape → number - d * w + e * w ≡ corner_number corner shape after
    number_after d e w from old new weight is on =
        let taken = product_is d w from place change.old old weight is in
        let added = product_is e w from place change.new new weight is in
        let sums = changed_on on in
        let fits = old_fits in
        omega (arith, taken, added, sums, fits)

    pub taken_fits : (d w from : ℕ) → d ≡ digit_of change.old → w ≡ 3 ^ from → from ≡ place → d * w ≤ number
    taken_fits d w from old weight is =
        let taken = product_is d w from place change.old old weight is in
        let fits = old_fits in
        omega (arith, taken, fits)

  pub number_small : number < 150094635296999121
  number_small =
      let below = corner_number-below corner shape p in
      omega (arith, below, stands.is)
