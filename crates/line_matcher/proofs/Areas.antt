-- Placements by their upper left points: those outside an area don't begin to hold.
use Rattle.std.proofs.Common.{◌≡◌, ℕ, ◌+◌, ◌*◌, ◌<◌, ◌≤◌, inl, inr, Bool, false, List, length, slice_index, ap, arith}
use Rattle.std.specs.Prelude.{All}
use Rattle.std.proofs.Math.Nat.{mul-le-mul_right}
use Rattle.std.proofs.lemmas.Bool.{cases_lt, cases_order, false_from_ne_true}
use Rattle.kb_geometry.specs.declared.shape.Shape.{Shape}
use Rattle.kb_geometry.specs.declared.shape.Rect.{Rect}
use Rattle.kb_geometry.specs.Board.{cols_of, rows_of, point_count, IsInside, IsOrderedRectOnBoard}
use Rattle.kb_geometry.specs.Symmetry.{point_of}
use Rattle.pattern_images.specs.ImageList.{ImageList, IsPlacedOn, no_grid, placement_at}
use Rattle.pattern_images.specs.Placements.{Placement}
use Rattle.pattern_occurrences.specs.declared.occurrence.Occurrence.{Occurrence}
use Rattle.line_matcher.specs.declared.visit.Visit.{Visit}
use Rattle.line_matcher.specs.Begins.{AreStarts, holds_anew, corner_of, seen}
use Rattle.line_matcher.specs.Visits.{IsFoundAt, IsNear}
use Rattle.line_matcher.proofs.FoundLists.{IsAdded-skip}

-- ---- rows of points

-- a placement whose upper left point is one of the first so many of a row
pub in_row : (shape : Shape) (placement : Placement) (y width : ℕ) → IsPlacedOn shape placement → width ≤ cols_of shape → y * cols_of shape ≤ corner_of shape placement → corner_of shape placement < y * cols_of shape + width →
    (placement.y ≡ y) × (placement.x < width)
in_row shape placement y width placed wide low high =
    elim (cases_order placement.y y) [
      | inl same ↦ let e : placement.y * cols_of shape ≡ y * cols_of shape = ap (λ (n : ℕ). n * cols_of shape) same in (same, omega arith)
      | inr other ↦ elim other [
        | inl above ↦
            let rows : (placement.y + 1) * cols_of shape ≤ y * cols_of shape = mul-le-mul_right (cols_of shape) (omega arith) in
            absurd (omega (arith, placed.columns, placed.some_column))
        | inr below ↦
            let rows : (y + 1) * cols_of shape ≤ placement.y * cols_of shape = mul-le-mul_right (cols_of shape) (omega arith) in
            absurd (omega arith)
      ]
    ]

-- a placement whose upper left point stands before a row
pub above_row : (shape : Shape) (placement : Placement) (y : ℕ) → corner_of shape placement < y * cols_of shape → placement.y < y
above_row shape placement y before =
    elim (cases_lt placement.y y) [
      | inl lt ↦ lt
      | inr le ↦ let rows : y * cols_of shape ≤ placement.y * cols_of shape = mul-le-mul_right (cols_of shape) le in absurd (omega arith)
    ]

-- one whose upper left point doesn't
pub below_row : (shape : Shape) (placement : Placement) (y : ℕ) → IsPlacedOn shape placement → y * cols_of shape ≤ corner_of shape placement → y ≤ placement.y
below_row shape placement y placed from =
    elim (cases_lt placement.y y) [
      | inl lt ↦
          let rows : (placement.y + 1) * cols_of shape ≤ y * cols_of shape = mul-le-mul_right (cols_of shape) (omega arith) in
          absurd (omega (arith, placed.columns, placed.some_column))
      | inr le ↦ le
    ]

-- the first point of a row, and those of it, are numbers up to the count of points
pub row_within : (shape : Shape) (y x : ℕ) → y < rows_of shape → x ≤ cols_of shape → y * cols_of shape + x ≤ point_count shape
row_within shape y x row column =
    let rows : (y + 1) * cols_of shape ≤ rows_of shape * cols_of shape = mul-le-mul_right (cols_of shape) (omega arith) in
    omega arith

pub row_end : (shape : Shape) (y : ℕ) → y ≤ rows_of shape → y * cols_of shape ≤ point_count shape
row_end shape y row =
    let rows : y * cols_of shape ≤ rows_of shape * cols_of shape = mul-le-mul_right (cols_of shape) row in
    omega arith

-- ---- the placements between two points
module _ (images : ImageList) (placed : All (IsPlacedOn images.shape) images.placements) (starts : List ℕ) (are : AreStarts images.shape images.placements starts) where
  abbrev start : ℕ → ℕ
  start p = slice_index starts p

  abbrev at : ℕ → Placement
  at i = placement_at images.placements i

  placed_at : (i : ℕ) → i < length images.placements → IsPlacedOn images.shape (at i)
  placed_at i lt = placed i (record { label = 0; x = 0; y = 0; grid = no_grid }) lt

  pub start_le : (p q : ℕ) → p ≤ q → q ≤ point_count images.shape → start p ≤ start q
  start_le p q le within =
      elim (cases_lt (start q) (start p)) [
        | inl lt ↦
            let one = are.each p (omega arith) in
            let i_lt : start q < length images.placements = omega (arith, one.most) in
            let before = (one.before (start q) i_lt).0 lt in
            absurd (omega (arith, ((are.each q within).before (start q) i_lt).1 (omega arith)))
        | inr ge ↦ ge
      ]

  pub from_start : (p i : ℕ) → p ≤ point_count images.shape → start p ≤ i → i < length images.placements → p ≤ corner_of images.shape (at i)
  from_start p i within from lt =
      elim (cases_lt (corner_of images.shape (at i)) p) [
        | inl below ↦ absurd (omega (arith, ((are.each p within).before i lt).1 below))
        | inr ge ↦ ge
      ]

  pub before_start : (p i : ℕ) → p ≤ point_count images.shape → i < start p → (i < length images.placements) × (corner_of images.shape (at i) < p)
  before_start p i within lt =
      let i_lt : i < length images.placements = omega (arith, (are.each p within).most) in
      (i_lt, ((are.each p within).before i i_lt).0 lt)

  -- the placements at one point
  pub at_point : (p i : ℕ) → p < point_count images.shape → start p ≤ i → i < start (p + 1) → p ≡ corner_of images.shape (at i)
  at_point p i lt low high =
      let before = before_start (p + 1) i (omega arith) high in
      omega (arith, from_start p i (omega arith) low before.0, before.1)

  module _ (visit : Visit) (area : Rect) (near : IsNear images visit area) where
    abbrev test : Placement → Bool
    test = holds_anew images.shape visit.walker.now.position (seen visit.changed)

    outside : (i : ℕ) → i < length images.placements → (IsInside area (point_of (at i).x (at i).y) → ⊥) → test (at i) ≡ false
    outside i lt out = false_from_ne_true (test (at i)) (λ t. out (near.inside i lt t))

    -- ---- one row
    module _ (on_board : IsOrderedRectOnBoard images.shape area) (y : ℕ) (row : y < rows_of images.shape) where
      abbrev row_start : ℕ
      row_start = y * cols_of images.shape

      -- the points before the area
      pub row_left : (found : List Occurrence) → IsFoundAt images visit (start row_start) (start (row_start + area.x0)) found found
      row_left found =
          let end = row_within images.shape y area.x0 row (omega (arith, on_board)) in
          IsAdded-skip images.placements test visit.node (start row_start) (start (row_start + area.x0)) found
          (start_le row_start (row_start + area.x0) (omega arith) end)
          (λ i low high.
          let before = before_start (row_start + area.x0) i end high in
          let from = from_start row_start i (omega arith) low before.0 in
          let here = in_row images.shape (at i) y area.x0 (placed_at i before.0) (omega (arith, on_board)) from before.1 in
          outside i before.0 (λ inside. omega (arith, here.1, inside.0)))

      -- the points behind it
      pub row_right : (x : ℕ) (found : List Occurrence) → x ≡ area.x1 + 1 → IsFoundAt images visit (start (row_start + x)) (start ((y + 1) * cols_of images.shape)) found found
      row_right x found e =
          let end = row_end images.shape (y + 1) (omega arith) in
          IsAdded-skip images.placements test visit.node (start (row_start + x)) (start ((y + 1) * cols_of images.shape)) found
          (start_le (row_start + x) ((y + 1) * cols_of images.shape) (omega (arith, on_board)) end)
          (λ i low high.
          let before = before_start ((y + 1) * cols_of images.shape) i end high in
          let from = from_start (row_start + x) i (omega (arith, on_board)) low before.0 in
          let here = in_row images.shape (at i) y (cols_of images.shape) (placed_at i before.0) (omega arith) (omega arith) (omega arith) in
          let e_row : (at i).y * cols_of images.shape ≡ row_start = ap (λ (n : ℕ). n * cols_of images.shape) here.0 in
          outside i before.0 (λ inside. omega (arith, inside.1)))

    -- ---- all rows
    module _ (on_board : IsOrderedRectOnBoard images.shape area) where
      -- the rows above the area
      pub rows_above : (found : List Occurrence) → IsFoundAt images visit 0 (start (area.y0 * cols_of images.shape)) found found
      rows_above found =
          let end = row_end images.shape area.y0 (omega (arith, on_board)) in
          IsAdded-skip images.placements test visit.node 0 (start (area.y0 * cols_of images.shape)) found (omega arith)
          (λ i low high.
          let before = before_start (area.y0 * cols_of images.shape) i end high in
          let above = above_row images.shape (at i) area.y0 before.1 in
          outside i before.0 (λ inside. omega (arith, inside.2)))

      -- the rows below it
      pub rows_below : (y : ℕ) (found : List Occurrence) → y ≡ area.y1 + 1 → IsFoundAt images visit (start (y * cols_of images.shape)) (length images.placements) found found
      rows_below y found e =
          let within = row_end images.shape y (omega (arith, on_board)) in
          IsAdded-skip images.placements test visit.node (start (y * cols_of images.shape)) (length images.placements) found ((are.each (y * cols_of images.shape) within).most)
          (λ i low lt.
          let from = from_start (y * cols_of images.shape) i within low lt in
          let below = below_row images.shape (at i) y (placed_at i lt) from in
          outside i lt (λ inside. omega (arith, inside.3)))
