-- Rows of a rectangle that get one cell, one after another.
use Rattle.std.proofs.Common.{◌≡◌, ℕ, ◌+◌, ◌-◌, ◌*◌, ◌/◌, ◌%◌, ◌<◌, ◌≤◌, ◌⊎◌, inl, inr, true, false, cond, length, get_or, zero-add, refl, sym, ap, ◌∙◌, arith}
use Rattle.std.proofs.lemmas.List.FromFn.{fill_by_all, length-range_with_len, get_or-range_with_len}
use Rattle.std.proofs.lemmas.List.{get_or-map, get_or_past, length-map}
use Rattle.std.proofs.Math.Nat.{mul-le-mul_right}
use Rattle.std.specs.List.{range_with_len}
use Rattle.std.proofs.lemmas.Bool.{cases_lt, cases_Bool, and_parts, and_from, leb-true, le-leb, false≢true, cond-true, cond-false}
use Rattle.std.proofs.lemmas.Nat.{div-mul-add, mod-mul-add, div-add-mod'}
use Rattle.kb_geometry.specs.declared.shape.Shape.{Shape}
use Rattle.kb_geometry.specs.declared.shape.Rect.{Rect}
use Rattle.kb_geometry.specs.declared.stone.Cell.{Cell}
use Rattle.kb_geometry.specs.declared.stone.Cell.TheVariants as cell
use Rattle.kb_geometry.specs.Board.{IsOrderedRectOnBoard, cols_of, point_count}
use Rattle.kb_geometry.specs.Capture.{Position, cell_at, is_inside, with_rect}
use Rattle.capture_board.specs.Runs.{IsRunSet}

-- the point with this number lies in the rectangle, in a row above end
pub record IsInRows (shape : Shape) (rect : Rect) (end q : ℕ) : Type 0 where
  pub left : rect.x0 ≤ q % cols_of shape
  pub right : q % cols_of shape ≤ rect.x1
  pub upper : rect.y0 ≤ q / cols_of shape
  pub lower : q / cols_of shape < end

-- after is before with the cell on the rectangle's points in rows above end
pub record AreRowsSet (shape : Shape) (rect : Rect) (stone : Cell) (end : ℕ) (before after : Position) : Type 0 where
  pub same_length : length after ≡ length before
  pub inside : (q : ℕ) → IsInRows shape rect end q → cell_at after q ≡ stone
  pub outside : (q : ℕ) → ¬ IsInRows shape rect end q → cell_at after q ≡ cell_at before q

module _ (shape : Shape) (rect : Rect) (stone : Cell) (before : Position) (on_board : IsOrderedRectOnBoard shape rect) where
  pub AreRowsSet-none : AreRowsSet shape rect stone rect.y0 before before
  AreRowsSet-none = record {
    same_length = refl;
    inside = λ q h. absurd (omega (arith, h.upper, h.lower));
    outside = λ q h. refl;
  }

  -- a point of the run from a row's first point in the rectangle to its last
  module _ (y q : ℕ) where
    in_run : rect.y0 ≤ y → y * cols_of shape + rect.x0 ≤ q → q < y * cols_of shape + rect.x1 + 1 → IsInRows shape rect (y + 1) q
    in_run low from lt =
        let x = q - y * cols_of shape in
        let is : y * cols_of shape + x ≡ q = omega arith in
        let narrow : x < cols_of shape = omega (arith, on_board.2) in
        let row = rw is at (div-mul-add y (cols_of shape) x narrow) in
        let column = rw is at (mod-mul-add y (cols_of shape) x narrow) in
        record { left = omega arith; right = omega arith; upper = omega arith; lower = omega arith }

    from_run : IsInRows shape rect (y + 1) q → y ≤ q / cols_of shape → (y * cols_of shape + rect.x0 ≤ q) × (q < y * cols_of shape + rect.x1 + 1)
    from_run h high =
        let row : q / cols_of shape ≡ y = omega (arith, h.lower) in
        let is = rw row at (div-add-mod' q (cols_of shape)) in
        (omega (arith, h.left), omega (arith, h.right))

  module _ (y : ℕ) (low : rect.y0 ≤ y) (middle after : Position) (so_far : AreRowsSet shape rect stone y before middle) (run : IsRunSet stone (y * cols_of shape + rect.x0) (y * cols_of shape + rect.x1 + 1) middle after) where
    above : (q : ℕ) → IsInRows shape rect y q → IsInRows shape rect (y + 1) q
    above q h = record { left = h.left; right = h.right; upper = h.upper; lower = omega (arith, h.lower) }

    inside_more : (q : ℕ) → IsInRows shape rect (y + 1) q → (q / cols_of shape < y) ⊎ (y ≤ q / cols_of shape) → cell_at after q ≡ stone
    inside_more q h (inr here) = let at = from_run y q h here in run.inside q at.0 at.1
    inside_more q h (inl earlier) =
        let old : IsInRows shape rect y q = record { left = h.left; right = h.right; upper = h.upper; lower = earlier } in
        run_or_not q (cell_at after q ≡ stone) (run.inside q) (λ out. run.outside q out ∙ so_far.inside q old)
      where
        run_or_not : (q : ℕ) (P : Type 0) → (y * cols_of shape + rect.x0 ≤ q → q < y * cols_of shape + rect.x1 + 1 → P) → ((q < y * cols_of shape + rect.x0) ⊎ (y * cols_of shape + rect.x1 + 1 ≤ q) → P) → P
        run_or_not q P within without = elim (cases_lt q (y * cols_of shape + rect.x0)) [
          | inl less ↦ without (inl less)
          | inr from ↦ elim (cases_lt q (y * cols_of shape + rect.x1 + 1)) [ inl lt ↦ within from lt | inr past ↦ without (inr past) ]
        ]

    outside_more : (q : ℕ) → ¬ IsInRows shape rect (y + 1) q → (q < y * cols_of shape + rect.x0) ⊎ (y * cols_of shape + rect.x0 ≤ q) → (q < y * cols_of shape + rect.x1 + 1) ⊎ (y * cols_of shape + rect.x1 + 1 ≤ q) → cell_at after q ≡ cell_at before q
    outside_more q none (inl less) end = run.outside q (inl less) ∙ so_far.outside q (λ h. none (above q h))
    outside_more q none (inr from) (inl lt) = absurd (none (in_run y q low from lt))
    outside_more q none (inr from) (inr past) = run.outside q (inr past) ∙ so_far.outside q (λ h. none (above q h))

    pub AreRowsSet-more : AreRowsSet shape rect stone (y + 1) before after
    AreRowsSet-more = record {
      same_length = run.same_length ∙ so_far.same_length;
      inside = λ q h. inside_more q h (cases_lt (q / cols_of shape) y);
      outside = λ q none. outside_more q none (cases_lt q (y * cols_of shape + rect.x0)) (cases_lt q (y * cols_of shape + rect.x1 + 1));
    }

  module _ (after : Position) (all : AreRowsSet shape rect stone (rect.y1 + 1) before after) where
    -- what the test for a point in a rectangle tells
    inside_from_test : (q : ℕ) → is_inside shape rect q ≡ true → IsInRows shape rect (rect.y1 + 1) q
    inside_from_test q e =
        let a = and_parts _ _ e in
        let b = and_parts _ _ a.0 in
        let d = and_parts _ _ b.0 in
        let right = leb-true _ _ d.1 in
        let upper = leb-true _ _ b.1 in
        let lower = leb-true _ _ a.1 in
        record { left = leb-true _ _ d.0; right = right; upper = upper; lower = omega arith }

    test_from_inside : (q : ℕ) → IsInRows shape rect (rect.y1 + 1) q → is_inside shape rect q ≡ true
    test_from_inside q h =
        let lower : q / cols_of shape ≤ rect.y1 = omega (arith, h.lower) in
        and_from _ _ (and_from _ _ (and_from _ _ (le-leb _ _ h.left) (le-leb _ _ h.right)) (le-leb _ _ h.upper)) (le-leb _ _ lower)

    cell_is : (q : ℕ) → (is_inside shape rect q ≡ true) ⊎ (is_inside shape rect q ≡ false) → cell_at after q ≡ cond (is_inside shape rect q) stone (cell_at before q)
    cell_is q (inl e) = all.inside q (inside_from_test q e) ∙ sym (cond-true (is_inside shape rect q) stone (cell_at before q) e)
    cell_is q (inr e) = all.outside q (λ h. false≢true (sym e ∙ test_from_inside q h)) ∙ sym (cond-false (is_inside shape rect q) stone (cell_at before q) e)

    -- all rows of the rectangle are set
    pub AreRowsSet-all : length before ≡ point_count shape → after ≡ with_rect shape before stone rect
    AreRowsSet-all whole = fill_by_all (λ (q : ℕ). cond (is_inside shape rect q) stone (cell_at before q)) after (point_count shape) cell.Empty (all.same_length ∙ whole) (λ q lt. cell_is q (cases_Bool (is_inside shape rect q)))

-- a point of a lower number than the upper left corner keeps its cell
module _ (shape : Shape) (rect : Rect) (stone : Cell) (before : Position) (whole : length before ≡ point_count shape) where
  kept_lower : (q : ℕ) → q < rect.y0 * cols_of shape + rect.x0 → (is_inside shape rect q ≡ true) ⊎ (is_inside shape rect q ≡ false) → cond (is_inside shape rect q) stone (cell_at before q) ≡ cell_at before q
  kept_lower q low (inr out) = cond-false (is_inside shape rect q) stone (cell_at before q) out
  kept_lower q low (inl inside) =
      let a = and_parts _ _ inside in
      let b = and_parts _ _ a.0 in
      let d = and_parts _ _ b.0 in
      let left : rect.x0 ≤ q % cols_of shape = leb-true _ _ d.0 in
      let upper : rect.y0 ≤ q / cols_of shape = leb-true _ _ b.1 in
      let rows : rect.y0 * cols_of shape ≤ q / cols_of shape * cols_of shape = mul-le-mul_right (cols_of shape) upper in
      let is = div-add-mod' q (cols_of shape) in
      absurd (omega arith)

  cell_of_rect : (q : ℕ) → q < rect.y0 * cols_of shape + rect.x0 → (q < point_count shape) ⊎ (point_count shape ≤ q) → cell_at (with_rect shape before stone rect) q ≡ cell_at before q
  cell_of_rect q low (inl lt) =
      let here : get_or (range_with_len 0 (point_count shape)) q 0 ≡ q = get_or-range_with_len 0 (point_count shape) q 0 lt ∙ zero-add q in
      get_or-map (λ (p : ℕ). cond (is_inside shape rect p) stone (cell_at before p)) (range_with_len 0 (point_count shape)) q 0 cell.Empty (rw length-range_with_len lt)
      ∙ (ap (λ (p : ℕ). cond (is_inside shape rect p) stone (cell_at before p)) here ∙ kept_lower q low (cases_Bool (is_inside shape rect q)))
  cell_of_rect q low (inr past) =
      let long : length (with_rect shape before stone rect) ≤ q = rw (length-map, length-range_with_len) past in
      get_or_past (with_rect shape before stone rect) q cell.Empty long ∙ sym (get_or_past before q cell.Empty (omega arith))

  pub with_rect-lower : (q : ℕ) → q < rect.y0 * cols_of shape + rect.x0 → cell_at (with_rect shape before stone rect) q ≡ cell_at before q
  with_rect-lower q low = cell_of_rect q low (cases_lt q (point_count shape))
