-- The cells of a placement over the places of a corner's frame, and the number that they make.
use Prim.Native.Nat.{zero}
use Rattle.std.proofs.Common.{◌≡◌, ◌⊎◌, ℕ, suc, ◌+◌, ◌-◌, ◌*◌, ◌/◌, ◌%◌, ◌^◌, ◌<◌, ◌≤◌, Bool, true, cond, refl, sym, ◌∙◌, ap, subst, arith, inl, inr}
use Rattle.std.specs.Prelude.{nat_le, nat_lt, ◌&&◌}
use Rattle.std.proofs.lemmas.Bool.{and_from, and_parts, cases_Bool, cases_lt, le-leb, leb-true, lt-ltb, ltb-true}
use Rattle.std.proofs.lemmas.Nat.{div-mul-add, mod-mul-add}
use Rattle.std.proofs.Math.Nat.{mul-le-mul_right, pow-suc}
use Rattle.kb_geometry.specs.declared.shape.Shape.{Shape}
use Rattle.kb_geometry.specs.declared.shape.Point.{Point}
use Rattle.kb_geometry.specs.Board.{IsOnBoard, cols_of, number_of, rows_of}
use Rattle.kb_geometry.specs.Symmetry.{moved, point_of}
use Rattle.kb_geometry.proofs.Symmetries.{each_symmetry, moved-on_board, same_point}
use Rattle.pattern_images.specs.declared.cell.PatternCell.{PatternCell}
use Rattle.pattern_images.specs.declared.cell.PatternCell.TheVariants as kind
use Rattle.pattern_images.specs.Grid.{cell_in}
use Rattle.pattern_images.specs.ImageList.{IsPlacedOn}
use Rattle.pattern_images.specs.Placements.{Placement}
use Rattle.ready_images.specs.Corners.{CoversCorner, HasCorners, IsCornerNumber, IsExact, LiesOn, cell_over, corner_point, digit_of, frame_cell, frame_point, is_under, number_to}
use Rattle.ready_images.specs.StoredCorners.{IsNumberTo}

-- ---- one cell

digit_of-small : (c : PatternCell) → digit_of c ≤ 2
digit_of-small kind.Empty = omega arith
digit_of-small kind.Black = omega arith
digit_of-small kind.White = omega arith
digit_of-small kind.NotWhite = omega arith
digit_of-small kind.NotBlack = omega arith
digit_of-small kind.Any = omega arith

-- the placement's cell over a point of its rectangle
module _ (placement : Placement) (p : Point) where
  cell_over-in : (dx dy : ℕ) → dx < placement.grid.cols → dy < placement.grid.rows → p.x ≡ placement.x + dx → p.y ≡ placement.y + dy → cell_over placement p ≡ cell_in placement.grid dx dy
  cell_over-in dx dy in_cols in_rows x y =
      let column : p.x - placement.x ≡ dx = omega (arith, x) in
      let row : p.y - placement.y ≡ dy = omega (arith, y) in
      let under : is_under placement p ≡ true =
      and_from (nat_le placement.x p.x && nat_lt (p.x - placement.x) placement.grid.cols) (nat_le placement.y p.y && nat_lt (p.y - placement.y) placement.grid.rows)
      (and_from (nat_le placement.x p.x) (nat_lt (p.x - placement.x) placement.grid.cols) (le-leb placement.x p.x (omega (arith, x))) (lt-ltb (p.x - placement.x) placement.grid.cols (omega (arith, column, in_cols))))
      (and_from (nat_le placement.y p.y) (nat_lt (p.y - placement.y) placement.grid.rows) (le-leb placement.y p.y (omega (arith, y))) (lt-ltb (p.y - placement.y) placement.grid.rows (omega (arith, row, in_rows)))) in
      ap (λ (b : Bool). cond b (cell_in placement.grid (p.x - placement.x) (p.y - placement.y)) kind.Any) under
      ∙ ap (λ (i : ℕ). cell_in placement.grid i (p.y - placement.y)) column
      ∙ ap (λ (j : ℕ). cell_in placement.grid dx j) row

  -- an empty, black or white cell over a point is one of the rectangle
  cell_over-exact : IsExact (cell_over placement p) → (dx : ℕ) × (dy : ℕ) × (dx < placement.grid.cols) × (dy < placement.grid.rows) × (p.x ≡ placement.x + dx) × (p.y ≡ placement.y + dy)
  cell_over-exact exact =
      elim (cases_Bool (is_under placement p)) [
        | inl under ↦
            let parts = and_parts (nat_le placement.x p.x && nat_lt (p.x - placement.x) placement.grid.cols) (nat_le placement.y p.y && nat_lt (p.y - placement.y) placement.grid.rows) under in
            let across = and_parts (nat_le placement.x p.x) (nat_lt (p.x - placement.x) placement.grid.cols) parts.0 in
            let down = and_parts (nat_le placement.y p.y) (nat_lt (p.y - placement.y) placement.grid.rows) parts.1 in
            let right : placement.x ≤ p.x = leb-true placement.x p.x across.0 in
            let below : placement.y ≤ p.y = leb-true placement.y p.y down.0 in
            let column : p.x ≡ placement.x + (p.x - placement.x) = omega (arith, right) in
            let row : p.y ≡ placement.y + (p.y - placement.y) = omega (arith, below) in
            (p.x - placement.x, p.y - placement.y, ltb-true (p.x - placement.x) placement.grid.cols across.1, ltb-true (p.y - placement.y) placement.grid.rows down.1, column, row)
        | inr off ↦ absurd (subst (λ (b : Bool). IsExact (cond b (cell_in placement.grid (p.x - placement.x) (p.y - placement.y)) kind.Any)) off exact)
      ]

-- ---- what is covered

-- two points of the board with one number are one
pub number_same : (shape : Shape) (p q : Point) → IsOnBoard shape p → IsOnBoard shape q → number_of shape p ≡ number_of shape q → (p.x ≡ q.x) × (p.y ≡ q.y)
number_same shape p q one other same = (
  sym (mod-mul-add p.y (cols_of shape) p.x one.0) ∙ ap (λ (n : ℕ). n % cols_of shape) same ∙ mod-mul-add q.y (cols_of shape) q.x other.0,
  sym (div-mul-add p.y (cols_of shape) p.x one.0) ∙ ap (λ (n : ℕ). n / cols_of shape) same ∙ div-mul-add q.y (cols_of shape) q.x other.0,
)

place_column : (x y : ℕ) → x < 6 → (y * 6 + x) % 6 ≡ x
place_column x y lt = omega arith

place_row : (x y : ℕ) → x < 6 → (y * 6 + x) / 6 ≡ y
place_row x y lt = omega arith

module _ (shape : Shape) (placement : Placement) (placed : IsPlacedOn shape placement) (corner : ℕ) (few : corner < 4) (sides : HasCorners shape) where
  -- a place of the frame is on the board
  frame-on_board : (column row : ℕ) → column < 6 → row < 6 → IsOnBoard shape (corner_point corner shape column row)
  frame-on_board column row left high =
      moved-on_board shape (point_of column row) (omega (arith, left, sides.0), omega (arith, high, sides.1)) corner (omega (arith, few)) (λ quarter. absurd (omega (arith, quarter, few)))

  under-on_board : (dx dy : ℕ) → dx < placement.grid.cols → dy < placement.grid.rows → IsOnBoard shape (point_of (placement.x + dx) (placement.y + dy))
  under-on_board dx dy in_cols in_rows = (omega (arith, placed.columns, in_cols), omega (arith, placed.rows, in_rows))

  -- where a cell lies on a place of the frame
  lies-at : (column row dx dy : ℕ) → column < 6 → row < 6 → LiesOn shape placement corner column row dx dy → ((corner_point corner shape column row).x ≡ placement.x + dx) × ((corner_point corner shape column row).y ≡ placement.y + dy)
  lies-at column row dx dy left high lies =
      let same = number_same shape (point_of (placement.x + dx) (placement.y + dy)) (corner_point corner shape column row) (under-on_board dx dy lies.in_cols lies.in_rows) (frame-on_board column row left high) lies.on_point in
      (sym same.0, sym same.1)

  pub lies-cell : (column row dx dy : ℕ) → column < 6 → row < 6 → LiesOn shape placement corner column row dx dy → cell_over placement (corner_point corner shape column row) ≡ cell_in placement.grid dx dy
  lies-cell column row dx dy left high lies =
      let at = lies-at column row dx dy left high lies in
      cell_over-in placement (corner_point corner shape column row) dx dy lies.in_cols lies.in_rows at.0 at.1

  pub frame-place : (column row : ℕ) → column < 6 → corner_point corner shape column row ≡ frame_point corner shape (row * 6 + column)
  frame-place column row left =
      ap (λ (i : ℕ). moved corner shape (point_of i row)) (sym (place_column column row left))
      ∙ ap (λ (j : ℕ). moved corner shape (point_of ((row * 6 + column) % 6) j)) (sym (place_row column row left))

  -- empty, black and white cells over all places cover the corner
  covers-told : ((k : ℕ) → k < 36 → IsExact (frame_cell shape placement corner k)) → CoversCorner shape placement corner
  covers-told exact column row left high =
      let p = corner_point corner shape column row in
      let here : IsExact (cell_over placement (corner_point corner shape column row)) =
      subst (λ (q : Point). IsExact (cell_over placement q)) (sym (frame-place column row left)) (exact (row * 6 + column) (omega (arith, left, high))) in
      let at = cell_over-exact placement p here in
      let same : point_of (placement.x + at.0) (placement.y + at.1) ≡ p = same_point (point_of (placement.x + at.0) (placement.y + at.1)) p (sym at.4) (sym at.5) in
      let over : cell_over placement p ≡ cell_in placement.grid at.0 at.1 = cell_over-in placement p at.0 at.1 at.2 at.3 at.4 at.5 in
      (at.0, at.1, record { in_cols = at.2; in_rows = at.3; on_point = ap (number_of shape) same }, subst IsExact over here)

  pub told-covers : CoversCorner shape placement corner → (k : ℕ) → k < 36 → IsExact (frame_cell shape placement corner k)
  told-covers covers k lt =
      let left : k % 6 < 6 = omega arith in
      let high : k / 6 < 6 = omega (arith, lt) in
      let at = covers (k % 6) (k / 6) left high in
      subst IsExact (sym (lies-cell (k % 6) (k / 6) at.0 at.1 left high at.2)) at.3

  pub open-covers : (k : ℕ) → k < 36 → ¬ IsExact (frame_cell shape placement corner k) → ¬ CoversCorner shape placement corner
  open-covers k lt unmet covers = unmet (told-covers covers k lt)

  pub number-told : (number : ℕ) → IsNumberTo shape placement corner 36 number → IsCornerNumber shape placement corner number
  number-told number is = record { in_range = few; sides = sides; covers = covers-told is.exact; is = is.is }

-- the first point of a corner's frame is the corner itself
corner-itself : (shape : Shape) (corner : ℕ) → corner < 4 → (((corner_point corner shape 0 0).x ≡ 0) ⊎ ((corner_point corner shape 0 0).x ≡ cols_of shape - 1)) × (((corner_point corner shape 0 0).y ≡ 0) ⊎ ((corner_point corner shape 0 0).y ≡ rows_of shape - 1))
corner-itself shape corner few =
    each_symmetry (λ (n : ℕ). n < 4 → (((corner_point n shape 0 0).x ≡ 0) ⊎ ((corner_point n shape 0 0).x ≡ cols_of shape - 1)) × (((corner_point n shape 0 0).y ≡ 0) ⊎ ((corner_point n shape 0 0).y ≡ rows_of shape - 1)))
    (λ lt. (inl refl, inl refl))
    (λ lt. (inr (omega arith), inl refl))
    (λ lt. (inl refl, inr (omega arith)))
    (λ lt. (inr (omega arith), inr (omega arith)))
    (λ lt. absurd (omega (arith, lt)))
    (λ lt. absurd (omega (arith, lt)))
    (λ lt. absurd (omega (arith, lt)))
    (λ lt. absurd (omega (arith, lt)))
    corner (omega (arith, few)) few

-- a placement that covers a corner reaches it
pub covers-reaches : (shape : Shape) (placement : Placement) → IsPlacedOn shape placement → HasCorners shape → (corner : ℕ) → corner < 4 → CoversCorner shape placement corner →
    ((placement.x ≡ 0) ⊎ (placement.x + placement.grid.cols ≡ cols_of shape)) × ((placement.y ≡ 0) ⊎ (placement.y + placement.grid.rows ≡ rows_of shape))
covers-reaches shape placement placed sides corner few covers =
    let first = covers 0 0 (omega arith) (omega arith) in
    let at = lies-at shape placement placed corner few sides 0 0 first.0 first.1 (omega arith) (omega arith) first.2 in
    let there = corner-itself shape corner few in (
      elim there.0 [
        | inl left ↦ inl (omega (arith, left, at.0))
        | inr right ↦ inr (omega (arith, right, at.0, first.2.in_cols, placed.columns, sides.0))
      ],
      elim there.1 [
        | inl top ↦ inl (omega (arith, top, at.1))
        | inr bottom ↦ inr (omega (arith, bottom, at.1, first.2.in_rows, placed.rows, sides.1))
      ],
    )

-- the same by what is at hand
pub reached : (x cols side from count last : ℕ) → from ≡ x → count ≡ cols → last ≡ side → ((x ≡ 0) ⊎ (x + cols ≡ side)) → (from ≡ 0) ⊎ (from + count ≡ last)
reached x cols side from count last a b e (inl first) = inl (omega (arith, a, first))
reached x cols side from count last a b e (inr far) = inr (omega (arith, a, b, e, far))

-- ---- the number so far

-- a higher power is no less
power_grows : (k more : ℕ) → 3 ^ k ≤ 3 ^ (k + more)
power_grows k zero =
    let none : k ≡ k + 0 = omega arith in
    let own : 3 ^ k ≤ 3 ^ k = omega arith in
    subst (λ n. 3 ^ k ≤ 3 ^ n) none own
power_grows k (suc more) =
    let before = power_grows k more in
    let next : 3 ^ suc (k + more) ≡ 3 ^ (k + more) * 3 = pow-suc 3 (k + more) in
    let on : suc (k + more) ≡ k + suc more = omega arith in
    let grown : 3 ^ k ≤ 3 ^ suc (k + more) = omega (arith, before, next) in
    subst (λ n. 3 ^ k ≤ 3 ^ n) on grown

-- the next power
pub power_next : (w k : ℕ) → w ≡ 3 ^ k → w * 3 ≡ 3 ^ (k + 1)
power_next w k is =
    let next : 3 ^ suc k ≡ 3 ^ k * 3 = pow-suc 3 k in
    let here : 3 ^ suc k ≡ 3 ^ (k + 1) = ap (λ (n : ℕ). 3 ^ n) (omega arith) in
    omega (arith, is, next, here)

pub power_fits : (w k : ℕ) → w ≡ 3 ^ k → k < 36 → w * 3 < 18446744073709551616
power_fits w k is lt =
    let last : k + (35 - k) ≡ 35 = omega (arith, lt) in
    let weight : 3 ^ k ≤ 3 ^ 35 = subst (λ (m : ℕ). 3 ^ k ≤ 3 ^ m) last (power_grows k (35 - k)) in
    let top : 3 ^ 35 ≡ 50031545098999707 = refl in
    omega (arith, weight, is, top)

-- the cell over a place, by what is at hand
pub over_place : (placement : Placement) (p : Point) (corner n k : ℕ) (shape s : Shape) → p ≡ frame_point n s k → n ≡ corner → s ≡ shape → cell_over placement p ≡ frame_cell shape placement corner k
over_place placement p corner n k shape s at number is =
    ap (cell_over placement) (at ∙ ap (λ (m : ℕ). frame_point m s k) number ∙ ap (λ (t : Shape). frame_point corner t k) is)

module _ (shape : Shape) (placement : Placement) (corner : ℕ) where
  pub number_to-none : number_to shape placement corner 0 ≡ 0
  unfolding number_to
  number_to-none = refl

  pub number_to-more : (k : ℕ) → number_to shape placement corner (suc k) ≡ number_to shape placement corner k + digit_of (frame_cell shape placement corner k) * 3 ^ k
  unfolding number_to
  number_to-more k = refl

  number_to-small : (n : ℕ) → number_to shape placement corner n < 3 ^ n
  number_to-small zero = omega (arith, number_to-none)
  number_to-small (suc n) =
      let before = number_to-small n in
      let here : digit_of (frame_cell shape placement corner n) * 3 ^ n ≤ 2 * 3 ^ n = mul-le-mul_right (3 ^ n) (digit_of-small (frame_cell shape placement corner n)) in
      let next : 3 ^ suc n ≡ 3 ^ n * 3 = pow-suc 3 n in
      omega (arith, before, here, next, number_to-more n)

  pub IsNumberTo-start : IsNumberTo shape placement corner 0 0
  IsNumberTo-start = record { exact = λ k lt. absurd (omega (arith, lt)); is = sym number_to-none }

  module _ (count number : ℕ) (so_far : IsNumberTo shape placement corner count number) (pattern : PatternCell) (over : pattern ≡ frame_cell shape placement corner count) (d w : ℕ) (digit : d ≡ digit_of pattern) (weight : w ≡ 3 ^ count) where
    more : number_to shape placement corner (suc count) ≡ number + d * w
    more =
        let product : d * w ≡ digit_of (frame_cell shape placement corner count) * 3 ^ count =
        ap (λ (x : ℕ). x * w) (digit ∙ ap digit_of over) ∙ ap (λ (y : ℕ). digit_of (frame_cell shape placement corner count) * y) weight in
        omega (arith, number_to-more count, product, so_far.is)

    pub IsNumberTo-more : IsExact pattern → IsNumberTo shape placement corner (count + 1) (number + d * w)
    IsNumberTo-more exact = record {
      exact = λ k lt. elim (cases_lt k count) [
        | inl before ↦ so_far.exact k before
        | inr last ↦
            let here : count ≡ k = omega (arith, lt, last) in
            subst (λ (i : ℕ). IsExact (frame_cell shape placement corner i)) here (subst IsExact over exact)
      ];
      is = sym more ∙ ap (number_to shape placement corner) (omega arith);
    }

    pub number_fits : count < 36 → number + d * w < 150094635296999121
    number_fits lt =
        let below : number_to shape placement corner (suc count) < 3 ^ suc count = number_to-small (suc count) in
        let last : suc count + (35 - count) ≡ 36 = omega (arith, lt) in
        let grown : 3 ^ suc count ≤ 3 ^ 36 = subst (λ (n : ℕ). 3 ^ suc count ≤ 3 ^ n) last (power_grows (suc count) (35 - count)) in
        let top : 3 ^ 36 ≡ 150094635296999121 = refl in
        omega (arith, below, more, grown, top)
