-- The tests of a placement's rows tell whether it begins to hold.
use Rattle.std.proofs.Common.{◌≡◌, ℕ, ◌+◌, ◌*◌, ◌<◌, ◌↔◌, inl, inr, Bool, true, false, cond, nat_eq, IsTrue, List, [], length, slice_index_or, refl, sym, ap, ◌∙◌, arith, subst, Contains}
use Rattle.std.specs.Prelude.{◌&&◌}
use Rattle.std.specs.Bool.{Decides}
use Rattle.std.specs.Cmp.{nat_eq_equiv}
use Rattle.std.specs.List.{list_any, range_with_len}
use Rattle.std.proofs.lemmas.Bool.{cases_lt, and_parts, and_from}
use Rattle.std.proofs.lemmas.Bool.Decides.{same_from_decides}
use Rattle.std.proofs.lemmas.Map.Views.{Contains-from_any, list_any-from_Contains, exact_unsigned_eq}
use Rattle.kb_geometry.specs.declared.shape.Shape.{Shape}
use Rattle.kb_geometry.specs.declared.stone.Cell.TheVariants as stone
use Rattle.kb_geometry.specs.declared.stone.Colour.{Colour}
use Rattle.kb_geometry.specs.declared.stone.Colour.TheVariants as side
use Rattle.kb_geometry.specs.Board.{cols_of}
use Rattle.kb_geometry.specs.Capture.{Position}
use Rattle.pattern_images.specs.declared.cell.PatternCell.{PatternCell}
use Rattle.pattern_images.specs.Grid.{Grid, cell_in}
use Rattle.pattern_images.specs.Holds.{number_under}
use Rattle.pattern_images.specs.ImageList.{IsPlacedOn, grid_at}
use Rattle.pattern_images.specs.Placements.{Placement}
use Rattle.pattern_occurrences.specs.Occurrences.{holds}
use Rattle.pattern_occurrences.proofs.HoldsLaw.{holds-decides}
use Rattle.line_matcher.specs.declared.mask.RowMask.{RowMask}
use Rattle.line_matcher.specs.Begins.{corner_of, touches}
use Rattle.line_matcher.specs.GridRows.{AreGridRows}
use Rattle.line_matcher.specs.Masks.{AreRowsOf, FitsRow, IsRowTo, IsRowWord, TouchesAt, asks, care_of, no_mask}
use Rattle.line_matcher.proofs.Ranges.{any_below}
use Rattle.line_matcher.proofs.RowFits.{HasCell, holds-rows_fit, narrow_grid, number_under-is, rows_fit-holds}

-- a bit that a test sets is 1 exactly where the test passes
passes_from_bit : (b : Bool) → ◌≡◌ {A = ℕ} (cond b 1 0) 1 → b ≡ true
passes_from_bit true e = refl
passes_from_bit false e = absurd (omega arith)

-- the word of the cells that ask of a colour
care_word : (colour : Colour) (grid : Grid) (dy cols : ℕ) (row : RowMask) → IsRowTo grid dy cols row → IsRowWord (asks colour) grid dy cols (care_of colour row)
care_word side.Black grid dy cols row is = is.black_care
care_word side.White grid dy cols row is = is.white_care

-- a cell that passes the test, with one of the points under it, in column dx and row dy
pub record Touched (passes : PatternCell → Bool) (shape : Shape) (points : List ℕ) (placement : Placement) (dx dy : ℕ) : Type 0 where
  pub column : dx < placement.grid.cols
  pub row : dy < placement.grid.rows
  pub care : passes (cell_in placement.grid dx dy) ≡ true
  pub point : Contains points (number_under shape placement dx dy)

module _ (passes : PatternCell → Bool) (shape : Shape) (points : List ℕ) (placement : Placement) where
  abbrev test : ℕ → ℕ → Bool
  test dy dx = passes (cell_in placement.grid dx dy) && list_any (nat_eq (number_under shape placement dx dy)) points

  pub touches-decides : Decides (touches passes shape points placement) ((dx : ℕ) × (dy : ℕ) × Touched passes shape points placement dx dy)
  touches-decides =
      let rows = any_below (λ dy. list_any (test dy) (range_with_len 0 placement.grid.cols)) placement.grid.rows in
      let cols = λ (dy : ℕ). any_below (test dy) placement.grid.cols in (
        λ t. let y = rows.0 t in let x = (cols y.0).0 y.2 in
            let parts = and_parts (passes (cell_in placement.grid x.0 y.0)) (list_any (nat_eq (number_under shape placement x.0 y.0)) points) x.2 in
            (x.0, y.0, record { column = x.1; row = y.1; care = parts.0; point = Contains-from_any exact_unsigned_eq (number_under shape placement x.0 y.0) points parts.1 }),
        λ (dx, dy, at). rows.1 (dy, at.row, (cols dy).1 (dx, at.column, and_from (passes (cell_in placement.grid dx dy)) (list_any (nat_eq (number_under shape placement dx dy)) points) at.care (list_any-from_Contains nat_eq_equiv (number_under shape placement dx dy) points at.point))),
      )

module _ (shape : Shape) (placement : Placement) (placed : IsPlacedOn shape placement) (rows : List RowMask) (are : AreRowsOf placement.grid rows) where
  abbrev start_of : ℕ → ℕ
  start_of dy = corner_of shape placement + dy * cols_of shape

  -- ---- the rows touch the points
  module _ (colour : Colour) where
    abbrev RowsTouch : List ℕ → Type 0
    RowsTouch points =
        (dy : ℕ) × (dy < length rows) × ((k : ℕ) × TouchesAt (care_of colour (slice_index_or rows dy no_mask)) points (start_of dy) k)

    touched : (points : List ℕ) → RowsTouch points → (dx : ℕ) × (dy : ℕ) × Touched (asks colour) shape points placement dx dy
    touched points (dy, lt, (k, at)) =
        let in_rows : dy < placement.grid.rows = omega (arith, are.count) in
        let is = care_word colour placement.grid dy placement.grid.cols (slice_index_or rows dy no_mask) (are.each dy in_rows) in
        elim (cases_lt k placement.grid.cols) [
          | inl in_cols ↦ (
            k,
            dy,
            record {
              column = in_cols;
              row = in_rows;
              care = passes_from_bit (asks colour (cell_in placement.grid k dy)) (sym (is.within k in_cols) ∙ at.care_bit);
              point = subst (Contains points) (sym (number_under-is shape placement placed k dy)) at.point;
            },
          )
          | inr past ↦ absurd (omega (arith, is.behind k past, at.care_bit))
        ]

    rows_touched : (points : List ℕ) → (dx : ℕ) × (dy : ℕ) × Touched (asks colour) shape points placement dx dy → RowsTouch points
    rows_touched points (dx, dy, at) =
        let narrow = narrow_grid shape placement placed in
        let is = care_word colour placement.grid dy placement.grid.cols (slice_index_or rows dy no_mask) (are.each dy at.row) in (
          dy,
          omega (arith, are.count, at.row),
          (
            dx,
            record {
              narrow = omega (arith, at.column);
              care_bit = is.within dx at.column ∙ ap (λ (b : Bool). cond b 1 0) at.care;
              point = subst (Contains points) (number_under-is shape placement placed dx dy) at.point;
            },
          ),
        )

    pub touches-told : (points : List ℕ) (r : Bool) → IsTrue r ↔ RowsTouch points → r ≡ touches (asks colour) shape points placement
    touches-told points r told =
        let decides = touches-decides (asks colour) shape points placement in
        same_from_decides r (touches (asks colour) shape points placement) (λ t. touched points (told.0 t), λ h. told.1 (rows_touched points h)) decides

  -- ---- the rows fit the board
  module _ (position : Position) (black white : List ℕ) (is_b : HasCell shape position stone.Black black) (is_w : HasCell shape position stone.White white) where
    pub holds-told : (r : Bool) → IsTrue r ↔ ((dy : ℕ) → dy < length rows → FitsRow (slice_index_or rows dy no_mask) black white (start_of dy)) → r ≡ holds shape position placement
    holds-told r told =
        same_from_decides r (holds shape position placement)
        (λ t. rows_fit-holds shape placement placed position black white is_b is_w rows are (told.0 t), λ h. told.1 (holds-rows_fit shape placement placed position black white is_b is_w rows are h))
        (holds-decides shape position placement)

-- ---- as the functions tell it
module _ (shape : Shape) (placement : Placement) (placed : IsPlacedOn shape placement) (rows : List RowMask) (are : AreRowsOf placement.grid rows) (first cols : ℕ) (first_is : first ≡ corner_of shape placement) (cols_is : cols ≡ cols_of shape) where
  pub touches-read : (colour : Colour) (points : List ℕ) (r : Bool) →
      IsTrue r ↔ ((dy : ℕ) × (dy < length rows) × ((k : ℕ) × TouchesAt (care_of colour (slice_index_or rows dy no_mask)) points (first + dy * cols) k)) →
      r ≡ touches (asks colour) shape points placement
  touches-read colour points r told =
      touches-told shape placement placed rows are colour points r
      (subst (λ (n : ℕ). IsTrue r ↔ ((dy : ℕ) × (dy < length rows) × ((k : ℕ) × TouchesAt (care_of colour (slice_index_or rows dy no_mask)) points (n + dy * cols_of shape) k))) first_is
      (subst (λ (n : ℕ). IsTrue r ↔ ((dy : ℕ) × (dy < length rows) × ((k : ℕ) × TouchesAt (care_of colour (slice_index_or rows dy no_mask)) points (first + dy * n) k))) cols_is told))

  pub holds-read : (shown : Shape) (position : Position) (black white : List ℕ) → shown ≡ shape → HasCell shown position stone.Black black → HasCell shown position stone.White white →
      (r : Bool) → IsTrue r ↔ ((dy : ℕ) → dy < length rows → FitsRow (slice_index_or rows dy no_mask) black white (first + dy * cols)) → r ≡ holds shape position placement
  holds-read shown position black white same is_b is_w r told =
      holds-told shape placement placed rows are position black white
      (subst (λ (s : Shape). HasCell s position stone.Black black) same is_b)
      (subst (λ (s : Shape). HasCell s position stone.White white) same is_w)
      r
      (subst (λ (n : ℕ). IsTrue r ↔ ((dy : ℕ) → dy < length rows → FitsRow (slice_index_or rows dy no_mask) black white (n + dy * cols_of shape))) first_is
      (subst (λ (n : ℕ). IsTrue r ↔ ((dy : ℕ) → dy < length rows → FitsRow (slice_index_or rows dy no_mask) black white (first + dy * n))) cols_is told))

-- the rows that a matcher keeps for a placement
pub placement_rows : (grids : List Grid) (lists : List (List RowMask)) (k : ℕ) (grid : Grid) (rows : List RowMask) → AreGridRows grids lists → k < length grids → grid_at grids k ≡ grid → rows ≡ slice_index_or lists k [] → AreRowsOf grid rows
placement_rows grids lists k grid rows are lt same read =
    subst (λ (g : Grid). AreRowsOf g rows) same (subst (AreRowsOf (grid_at grids k)) (sym read) (are.each k lt))
