-- The rows of a placement fit the board exactly where the placement holds.
use Rattle.std.proofs.Common.{◌≡◌, ℕ, ◌+◌, ◌*◌, ◌<◌, ◌≤◌, ◌↔◌, inl, inr, cond, List, length, slice_index_or, refl, sym, ◌∙◌, arith, Contains}
use Rattle.std.specs.Int.{bit_at}
use Rattle.std.proofs.Math.Nat.{mul-le-mul_right}
use Rattle.std.proofs.lemmas.Nat.{mul-add-lt}
use Rattle.std.proofs.lemmas.Bool.{cases_lt}
use Rattle.kb_geometry.specs.declared.shape.Shape.{Shape}
use Rattle.kb_geometry.specs.declared.stone.Cell.{Cell}
use Rattle.kb_geometry.specs.declared.stone.Cell.TheVariants as stone
use Rattle.kb_geometry.specs.Board.{cols_of, rows_of, point_count}
use Rattle.kb_geometry.specs.Capture.{Position, cell_at}
use Rattle.pattern_images.specs.declared.cell.PatternCell.{PatternCell}
use Rattle.pattern_images.specs.declared.cell.PatternCell.TheVariants as cell
use Rattle.pattern_images.specs.Grid.{Grid, cell_in}
use Rattle.pattern_images.specs.Placements.{Placement}
use Rattle.pattern_images.specs.Holds.{Allows, Holds, number_under}
use Rattle.pattern_images.specs.ImageList.{IsPlacedOn}
use Rattle.line_matcher.specs.declared.mask.RowMask.{RowMask}
use Rattle.line_matcher.specs.Begins.{corner_of}
use Rattle.line_matcher.specs.Masks.{AreRowsOf, FitsRow, IsRowTo, asks_black, asks_white, is_black, is_white, no_mask}

-- a cell allows what stands under it exactly where its bits say so
module _ (s : Cell) (black white : Type 0) (is_b : black ↔ (s ≡ stone.Black)) (is_w : white ↔ (s ≡ stone.White))
    (bb wb bc wc : ℕ) where
  bits_of_allowed : (c : PatternCell) → bb ≡ cond (is_black c) 1 0 → wb ≡ cond (is_white c) 1 0 →
      bc ≡ cond (asks_black c) 1 0 → wc ≡ cond (asks_white c) 1 0 → Allows c s →
      ((bb ≡ 1) ↔ (black × (bc ≡ 1))) × ((wb ≡ 1) ↔ (white × (wc ≡ 1)))
  bits_of_allowed cell.Any b w bcare wcare allowed = (
    (λ e. absurd (omega arith), λ h. let one = h.1 in absurd (omega arith)),
    (λ e. absurd (omega arith), λ h. let one = h.1 in absurd (omega arith)),
  )
  bits_of_allowed cell.Empty b w bcare wcare allowed = (
    (λ e. absurd (omega arith), λ h. let same = sym allowed ∙ is_b.0 h.0 in absurd cc),
    (λ e. absurd (omega arith), λ h. let same = sym allowed ∙ is_w.0 h.0 in absurd cc),
  )
  bits_of_allowed cell.Black b w bcare wcare allowed = (
    (λ e. (is_b.1 allowed, bcare), λ h. b),
    (λ e. absurd (omega arith), λ h. let same = sym allowed ∙ is_w.0 h.0 in absurd cc),
  )
  bits_of_allowed cell.White b w bcare wcare allowed = (
    (λ e. absurd (omega arith), λ h. let same = sym allowed ∙ is_b.0 h.0 in absurd cc),
    (λ e. (is_w.1 allowed, wcare), λ h. w),
  )
  bits_of_allowed cell.NotWhite b w bcare wcare allowed = (
    (λ e. absurd (omega arith), λ h. let one = h.1 in absurd (omega arith)),
    (λ e. absurd (omega arith), λ h. absurd (allowed (is_w.0 h.0))),
  )
  bits_of_allowed cell.NotBlack b w bcare wcare allowed = (
    (λ e. absurd (omega arith), λ h. absurd (allowed (is_b.0 h.0))),
    (λ e. absurd (omega arith), λ h. let one = h.1 in absurd (omega arith)),
  )

  neither : (t : Cell) → s ≡ t → (black → ⊥) → (white → ⊥) → s ≡ stone.Empty
  neither stone.Empty e no_b no_w = e
  neither stone.Black e no_b no_w = absurd (no_b (is_b.1 e))
  neither stone.White e no_b no_w = absurd (no_w (is_w.1 e))

  allowed_by_bits : (c : PatternCell) → bb ≡ cond (is_black c) 1 0 → wb ≡ cond (is_white c) 1 0 →
      bc ≡ cond (asks_black c) 1 0 → wc ≡ cond (asks_white c) 1 0 →
      ((bb ≡ 1) ↔ (black × (bc ≡ 1))) → ((wb ≡ 1) ↔ (white × (wc ≡ 1))) → Allows c s
  allowed_by_bits cell.Any b w bcare wcare told_b told_w = tt
  allowed_by_bits cell.Empty b w bcare wcare told_b told_w =
      neither s refl (λ h. let one = told_b.1 (h, bcare) in omega arith) (λ h. let one = told_w.1 (h, wcare) in omega arith)
  allowed_by_bits cell.Black b w bcare wcare told_b told_w = is_b.0 (told_b.0 b).0
  allowed_by_bits cell.White b w bcare wcare told_b told_w = is_w.0 (told_w.0 w).0
  allowed_by_bits cell.NotWhite b w bcare wcare told_b told_w = λ e. let one = told_w.1 (is_w.1 e, wcare) in omega arith
  allowed_by_bits cell.NotBlack b w bcare wcare told_b told_w = λ e. let one = told_b.1 (is_b.1 e, bcare) in omega arith

-- a set is that of the points that have a cell
abbrev pub HasCell : Shape → Position → Cell → List ℕ → Type 0
HasCell shape position stone points = (p : ℕ) → Contains points p ↔ ((p < point_count shape) × (cell_at position p ≡ stone))

module _ (shape : Shape) (position : Position) (black white : List ℕ) (is_b : HasCell shape position stone.Black black) (is_w : HasCell shape position stone.White white) where
  on_point : (p : ℕ) (s : Cell) (points : List ℕ) → p < point_count shape → HasCell shape position s points → Contains points p ↔ (cell_at position p ≡ s)
  on_point p s points lt has = (λ h. ((has p).0 h).1, λ e. (has p).1 (lt, e))

  module _ (grid : Grid) (dy start : ℕ) (row : RowMask) (is : IsRowTo grid dy grid.cols row) (narrow : grid.cols ≤ 64) (below : (dx : ℕ) → dx < grid.cols → start + dx < point_count shape) where
    pub row_allows : FitsRow row black white start → (dx : ℕ) → dx < grid.cols → Allows (cell_in grid dx dy) (cell_at position (start + dx))
    row_allows fits dx lt =
        let p = start + dx in
        allowed_by_bits (cell_at position p) (Contains black p) (Contains white p) (on_point p stone.Black black (below dx lt) is_b) (on_point p stone.White white (below dx lt) is_w)
        (bit_at row.black dx) (bit_at row.white dx) (bit_at row.black_care dx) (bit_at row.white_care dx)
        (cell_in grid dx dy) (is.black.within dx lt) (is.white.within dx lt) (is.black_care.within dx lt) (is.white_care.within dx lt)
        (fits.black_cells.bits dx (omega arith)) (fits.white_cells.bits dx (omega arith))

    module _ (allows : (dx : ℕ) → dx < grid.cols → Allows (cell_in grid dx dy) (cell_at position (start + dx))) where
      bits_within : (dx : ℕ) → dx < grid.cols →
          ((bit_at row.black dx ≡ 1) ↔ (Contains black (start + dx) × (bit_at row.black_care dx ≡ 1)))
          × ((bit_at row.white dx ≡ 1) ↔ (Contains white (start + dx) × (bit_at row.white_care dx ≡ 1)))
      bits_within dx lt =
          let p = start + dx in
          bits_of_allowed (cell_at position p) (Contains black p) (Contains white p) (on_point p stone.Black black (below dx lt) is_b) (on_point p stone.White white (below dx lt) is_w)
          (bit_at row.black dx) (bit_at row.white dx) (bit_at row.black_care dx) (bit_at row.white_care dx)
          (cell_in grid dx dy) (is.black.within dx lt) (is.white.within dx lt) (is.black_care.within dx lt) (is.white_care.within dx lt) (allows dx lt)

      -- no bit stands behind the row's end
      behind : (b cb : ℕ) (has : Type 0) → b ≡ 0 → cb ≡ 0 → (b ≡ 1) ↔ (has × (cb ≡ 1))
      behind b cb has none careless = (λ e. absurd (omega arith), λ h. let one = h.1 in absurd (omega arith))

      pub row_fits : FitsRow row black white start
      row_fits = record {
        black_cells = record {
          bits = λ k k_lt. elim (cases_lt k grid.cols) [
            | inl lt ↦ (bits_within k lt).0
            | inr le ↦ behind (bit_at row.black k) (bit_at row.black_care k) (Contains black (start + k)) (is.black.behind k le) (is.black_care.behind k le)
          ];
        };
        white_cells = record {
          bits = λ k k_lt. elim (cases_lt k grid.cols) [
            | inl lt ↦ (bits_within k lt).1
            | inr le ↦ behind (bit_at row.white k) (bit_at row.white_care k) (Contains white (start + k)) (is.white.behind k le) (is.white_care.behind k le)
          ];
        };
      }

-- ---- a placement on the board

module _ (shape : Shape) (placement : Placement) (placed : IsPlacedOn shape placement) where
  -- the number of a point under the placement
  pub number_under-is : (dx dy : ℕ) → number_under shape placement dx dy ≡ corner_of shape placement + dy * cols_of shape + dx
  number_under-is dx dy = omega arith

  -- the points under it lie on the board
  pub number_under-lt : (dx dy : ℕ) → dx < placement.grid.cols → dy < placement.grid.rows → corner_of shape placement + dy * cols_of shape + dx < point_count shape
  number_under-lt dx dy in_cols in_rows =
      let below : (placement.y + dy) * cols_of shape + (placement.x + dx) < cols_of shape * rows_of shape =
      mul-add-lt (placement.y + dy) (cols_of shape) (placement.x + dx) (rows_of shape) (omega (arith, placed.rows)) (omega (arith, placed.columns)) in
      omega arith

  -- behind the last row there is room for a number of 16 bits
  pub rows_room : corner_of shape placement + placement.grid.rows * cols_of shape ≤ point_count shape + cols_of shape
  rows_room =
      let last : (placement.y + placement.grid.rows) * cols_of shape ≤ rows_of shape * cols_of shape = mul-le-mul_right (cols_of shape) placed.rows in
      omega (arith, placed.columns)

  pub narrow_grid : placement.grid.cols ≤ 64
  narrow_grid = omega (arith, placed.columns, shape.in_range.0)

  module _ (position : Position) (black white : List ℕ) (is_b : HasCell shape position stone.Black black) (is_w : HasCell shape position stone.White white) (rows : List RowMask) (are : AreRowsOf placement.grid rows) where
    -- where the row with this number begins
    abbrev start_of : ℕ → ℕ
    start_of dy = corner_of shape placement + dy * cols_of shape

    pub rows_fit-holds : ((dy : ℕ) → dy < length rows → FitsRow (slice_index_or rows dy no_mask) black white (start_of dy)) → Holds shape position placement
    rows_fit-holds fits dx dy in_cols in_rows =
        let row = slice_index_or rows dy no_mask in
        let lt : dy < length rows = omega (arith, are.count) in
        let allows = row_allows shape position black white is_b is_w placement.grid dy (start_of dy) row (are.each dy in_rows) narrow_grid (λ dx' lt'. number_under-lt dx' dy lt' in_rows) (fits dy lt) dx in_cols in
        rw (number_under-is dx dy) allows

    pub holds-rows_fit : Holds shape position placement → (dy : ℕ) → dy < length rows → FitsRow (slice_index_or rows dy no_mask) black white (start_of dy)
    holds-rows_fit holds dy lt =
        let row = slice_index_or rows dy no_mask in
        let in_rows : dy < placement.grid.rows = omega (arith, are.count) in
        row_fits shape position black white is_b is_w placement.grid dy (start_of dy) row (are.each dy in_rows) narrow_grid (λ dx' lt'. number_under-lt dx' dy lt' in_rows)
        (λ dx in_cols. rw (number_under-is dx dy) at (holds dx dy in_cols in_rows))
