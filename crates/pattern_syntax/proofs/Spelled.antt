-- A text spells one pattern, and one that spells a pattern has no fault.
use Rattle.std.proofs.Common.{◌≡◌, ◌≢◌, ◌==◌, inl, inr, ℕ, zero, suc, ◌+◌, ◌*◌, ◌/◌, ◌%◌, ◌<◌, ◌≤◌, List, length, get_or, take, refl, sym, ap, ◌∙◌, subst, arith}
use Rattle.std.proofs.Math.Nat.{mod-lt, mod-add-div', div-lt_iff_lt-mul, mul-le-mul_right, eq_of_mul-eq-mul_right}
use Rattle.std.proofs.lemmas.Bool.{cases_lt}
use Rattle.std.proofs.lemmas.Bool.Decides.{nat_tests}
use Rattle.std.proofs.lemmas.Nat.{mul-add-lt}
use Rattle.std.proofs.lemmas.List.{same_lists, get_or_default, get_or-take, length-take-le}
use Rattle.std.proofs.lemmas.List.Sums.{count_by_more_yes, count_by_more_no}
use Rattle.pattern_images.specs.declared.cell.PatternCell.{PatternCell}
use Rattle.pattern_images.specs.declared.cell.PatternCell.TheVariants as cell
use Rattle.pattern_images.specs.Grid.{Grid, cell_in}
use Rattle.pattern_images.proofs.Turned.{same_grid}
use Rattle.pattern_syntax.specs.Text.{slash, cell_byte, SpellsPattern}
use Rattle.pattern_syntax.specs.Faults.{HasPatternFault, slashes_before}
use Rattle.pattern_syntax.specs.Faults.HasPatternFault.{unknown_byte, empty_row, uneven_row, long_row, many_rows}
use Rattle.pattern_syntax.specs.Reading.{HasRows}
use Rattle.pattern_syntax.proofs.Bytes.{cell_byte-ne-slash, same_cell}
use Rattle.pattern_syntax.proofs.Rows.{EndsRow, ends-within}
use Rattle.pattern_syntax.proofs.Steps.{clean-cell, clean-end}
use Rattle.pattern_syntax.proofs.TextBytes.{IsLaidOut, pattern_text-laid_out, offset-place, not_last}

pub laid_out : (text : List ℕ) (grid : Grid) → SpellsPattern text grid → IsLaidOut text grid
laid_out text grid spells = subst (λ t. IsLaidOut t grid) (sym spells.same) (pattern_text-laid_out grid (omega (arith, spells.rows)))

-- ---- one pattern

not_wider : (text : List ℕ) (a b : Grid) → 0 < a.rows → 0 < b.rows → IsLaidOut text a → IsLaidOut text b → ¬ (a.cols < b.cols)
not_wider text a b some other one two lt =
    let byte : get_or text a.cols 0 ≡ cell_byte (cell_in b a.cols 0) = ap (λ i. get_or text i 0) (omega arith) ∙ two.cells a.cols 0 lt other in
    elim (cases_lt 1 a.rows) [
      | inl more ↦ cell_byte-ne-slash (cell_in b a.cols 0) (sym byte ∙ ap (λ i. get_or text i 0) (omega arith) ∙ one.parted 0 (omega arith))
      | inr single ↦
          let all : a.rows * (a.cols + 1) ≡ 1 * (a.cols + 1) = ap (λ n. n * (a.cols + 1)) (let e : a.rows ≡ 1 = omega arith in e) in
          let long : 1 * (b.cols + 1) ≤ b.rows * (b.cols + 1) = mul-le-mul_right (b.cols + 1) other in
          omega (arith, one.size, two.size)
    ]

-- the row and the column of the cell with a number
cell-place : (cols rows k : ℕ) → 0 < cols → k < cols * rows → (y : ℕ) × (x : ℕ) × (y < rows) × (x < cols) × (y * cols + x ≡ k)
cell-place cols rows k some lt =
    let at : k % cols + k / cols * cols ≡ k = mod-add-div' k cols in
    let turned : k < rows * cols = omega arith in
    (k / cols, k % cols, (div-lt_iff_lt-mul some).1 turned, mod-lt k some, omega arith)

-- the cell in a column and a row, by the byte that stands for it
same_cell_at : (text : List ℕ) (a b : Grid) → IsLaidOut text a → IsLaidOut text b → a.cols ≡ b.cols → a.rows ≡ b.rows →
    (y x k : ℕ) → y < b.rows → x < b.cols → y * b.cols + x ≡ k → get_or a.cells k cell.Any ≡ get_or b.cells k cell.Any
same_cell_at text a b one two cols rows y x k row column at =
    let byte : cell_byte (cell_in a x y) ≡ cell_byte (cell_in b x y) =
    sym (one.cells x y (subst (λ n. x < n) (sym cols) column) (subst (λ n. y < n) (sym rows) row))
    ∙ ap (λ n. get_or text (y * (n + 1) + x) 0) cols
    ∙ two.cells x y column row in
    ap (λ n. get_or a.cells n cell.Any) (sym at ∙ ap (λ n. y * n + x) (sym cols)) ∙ same_cell (cell_in a x y) (cell_in b x y) byte ∙ ap (λ n. get_or b.cells n cell.Any) at

same_cells : (text : List ℕ) (a b : Grid) → IsLaidOut text a → IsLaidOut text b → 0 < b.cols → a.cols ≡ b.cols → a.rows ≡ b.rows →
    length a.cells ≡ b.cols * b.rows → length b.cells ≡ b.cols * b.rows → a.cells ≡ b.cells
same_cells text a b one two some cols rows count_a count_b = same_lists a.cells b.cells (count_a ∙ sym count_b) (λ k d lt.
    let place = cell-place b.cols b.rows k some (subst (λ n. k < n) count_a lt) in
    let same : get_or a.cells k cell.Any ≡ get_or b.cells k cell.Any = same_cell_at text a b one two cols rows place.0 place.1 k place.2 place.3 place.4 in
    get_or_default a.cells k d cell.Any lt ∙ same ∙ get_or_default b.cells k cell.Any d (subst (λ n. k < n) (count_a ∙ sym count_b) lt))

pub spells-one : (text : List ℕ) (a b : Grid) → SpellsPattern text a → SpellsPattern text b → a ≡ b
spells-one text a b one two =
    let first : IsLaidOut text a = laid_out text a one in
    let second : IsLaidOut text b = laid_out text b two in
    let some : 0 < a.rows = omega (arith, one.rows) in
    let other : 0 < b.rows = omega (arith, two.rows) in
    let cols : a.cols ≡ b.cols = elim (cases_lt a.cols b.cols) [
      | inl lt ↦ absurd (not_wider text a b some other first second lt)
      | inr ge ↦ elim (cases_lt b.cols a.cols) [ inl lt ↦ absurd (not_wider text b a other some second first lt) | inr le ↦ omega arith ]
    ] in
    let size : a.rows * (b.cols + 1) ≡ b.rows * (b.cols + 1) = ap (λ n. a.rows * (n + 1)) (sym cols) ∙ omega (arith, first.size, second.size) in
    let rows : a.rows ≡ b.rows = eq_of_mul-eq-mul_right (b.cols + 1) (omega arith) a.rows b.rows size in
    let count : length a.cells ≡ b.cols * b.rows = one.count ∙ ap (λ n. n * a.rows) cols ∙ ap (λ n. b.cols * n) rows in
    same_grid a b cols rows (same_cells text a b first second (omega (arith, two.cols)) cols rows count two.count)

-- ---- no fault

-- a fault stands in the text or at its end
pub fault-within : (text : List ℕ) (k : ℕ) → HasPatternFault text k → k ≤ length text
fault-within text k (unknown_byte below unknown) = omega arith
fault-within text k (empty_row row) = ends-within text k row.ends
fault-within text k (uneven_row first from one row other) = ends-within text k row.ends
fault-within text k (long_row from to row at before) = omega (arith, ends-within text to row.ends)
fault-within text k (many_rows there last) = omega (arith, there.0)

module _ (text : List ℕ) (grid : Grid) (spells : SpellsPattern text grid) where
  is_laid_out : IsLaidOut text grid
  is_laid_out = laid_out text grid spells

  offset-lt : (y x : ℕ) → y < grid.rows → x ≤ grid.cols → y * (grid.cols + 1) + x ≤ length text
  offset-lt y x row column = omega (arith, is_laid_out.size, mul-add-lt y (grid.cols + 1) x grid.rows row (omega arith))

  -- as many `/` stand before a row as there are rows before it
  slashes_to : (k y x : ℕ) → y < grid.rows → x ≤ grid.cols → y * (grid.cols + 1) + x ≡ k → slashes_before text k ≡ y
  slashes_to zero zero x row column at = refl
  slashes_to zero (suc y) x row column at = absurd (omega arith)
  slashes_to (suc k) zero zero row column at = absurd (omega arith)
  slashes_to (suc k) (suc y) zero row column at =
      let place : y * (grid.cols + 1) + grid.cols ≡ k = omega arith in
      let lt : k < length text = omega (arith, offset-lt (suc y) 0 row column) in
      let byte : get_or text k 0 ≡ slash = ap (λ i. get_or text i 0) (sym place) ∙ is_laid_out.parted y (omega arith) in
      ap (slashes_before text) (let e : suc k ≡ k + 1 = omega arith in e)
      ∙ count_by_more_yes (λ b. b == slash) text k 0 lt (grind (arith, nat_tests))
      ∙ ap (λ n. n + 1) (slashes_to k y grid.cols (omega arith) (omega arith) place) ∙ omega arith
  slashes_to (suc k) y (suc x) row column at =
      let place : y * (grid.cols + 1) + x ≡ k = omega arith in
      let lt : k < length text = omega (arith, offset-lt y (suc x) row column) in
      let byte : get_or text k 0 ≡ cell_byte (cell_in grid x y) = ap (λ i. get_or text i 0) (sym place) ∙ is_laid_out.cells x y (omega arith) row in
      let other : get_or text k 0 ≢ slash = λ e. cell_byte-ne-slash (cell_in grid x y) (sym byte ∙ e) in
      ap (slashes_before text) (let e : suc k ≡ k + 1 = omega arith in e)
      ∙ count_by_more_no (λ b. b == slash) text k 0 lt (grind (arith, nat_tests))
      ∙ slashes_to k y x row (omega arith) place

  -- the rows of the text up to an offset in a row or at its end
  rows_to : (y x : ℕ) → y < grid.rows → x ≤ grid.cols → HasRows text (y * (grid.cols + 1) + x) y grid.cols x (take (y * grid.cols + x) grid.cells)
  rows_to y x row column = record {
    place = refl;
    within = offset-lt y x row column;
    few = omega (arith, spells.rows);
    narrow = spells.cols.1;
    short = omega (arith, spells.cols);
    count = length-take-le (y * grid.cols + x) grid.cells (omega (arith, spells.count, mul-le-mul_right grid.cols (let le : y + 1 ≤ grid.rows = omega arith in le)));
    closed = λ x' y' column' row'. is_laid_out.cells x' y' column' (omega arith)
        ∙ ap cell_byte (sym (get_or-take (y * grid.cols + x) grid.cells (y' * grid.cols + x') cell.Any (omega (arith, mul-add-lt y' grid.cols x' y row' column'))));
    begun = λ x' column'. is_laid_out.cells x' y (omega arith) row
        ∙ ap cell_byte (sym (get_or-take (y * grid.cols + x) grid.cells (y * grid.cols + x') cell.Any (omega arith)));
    parted = λ y' row'. is_laid_out.parted y' (omega arith);
    slashes = slashes_to (y * (grid.cols + 1) + x) y x row column refl;
  }

  -- no fault stands in a row or at its end
  faultless_at : (y x k : ℕ) → y < grid.rows → x ≤ grid.cols → y * (grid.cols + 1) + x ≡ k → ¬ HasPatternFault text k
  faultless_at y x k row column at =
      let cells : List PatternCell = take (y * grid.cols + x) grid.cells in
      let read : HasRows text k y grid.cols x cells = subst (λ n. HasRows text n y grid.cols x cells) at (rows_to y x row column) in
      elim (cases_lt x grid.cols) [
        | inl before ↦
            let lt : k < length text = omega (arith, offset-lt y grid.cols row (omega arith)) in
            let byte : get_or text k 0 ≡ cell_byte (cell_in grid x y) = ap (λ i. get_or text i 0) (sym at) ∙ is_laid_out.cells x y before row in
            clean-cell text k y grid.cols x cells read (cell_in grid x y) lt byte (omega (arith, spells.cols))
        | inr behind ↦
            let whole : x ≡ grid.cols = omega arith in
            let place : y * (grid.cols + 1) + grid.cols ≡ k = omega arith in
            let closed : HasRows text k y x x cells = subst (λ n. HasRows text k y n x cells) (sym whole) read in
            let ends : EndsRow text k = elim (cases_lt (y + 1) grid.rows) [
              | inl more ↦ inr (omega (arith, offset-lt (y + 1) 0 more (omega arith)), ap (λ i. get_or text i 0) (sym place) ∙ is_laid_out.parted y more)
              | inr last ↦
                  let all : grid.rows * (grid.cols + 1) ≡ (y + 1) * (grid.cols + 1) = ap (λ n. n * (grid.cols + 1)) (let e : grid.rows ≡ y + 1 = omega arith in e) in
                  inl (omega (arith, is_laid_out.size))
            ] in
            clean-end text k y x cells closed ends (omega (arith, spells.cols))
            (λ there. omega (arith, spells.rows, not_last (length text) grid.cols grid.rows y k is_laid_out.size there.0 row place))
      ]

  pub spelled-faultless : (k : ℕ) → ¬ HasPatternFault text k
  spelled-faultless k fault =
      let place = offset-place grid.cols grid.rows k (omega (arith, is_laid_out.size, fault-within text k fault)) in
      faultless_at place.0 place.1 k place.2 place.3 place.4 fault
