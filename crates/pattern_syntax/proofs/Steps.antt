-- What one more byte of a text does to the rows that were read, and where it is a fault.
use Rattle.std.proofs.Common.{◌≡◌, ◌≢◌, ◌⊎◌, ◌==◌, inl, inr, ℕ, ◌+◌, ◌-◌, ◌*◌, ◌<◌, ◌≤◌, List, [], ◌∷◌, ◌++◌, length, get_or, refl, sym, ap, ◌∙◌, subst, arith}
use Rattle.std.proofs.lemmas.Bool.{cases_eq, cases_lt}
use Rattle.std.proofs.lemmas.Bool.Decides.{nat_tests}
use Rattle.std.proofs.lemmas.Nat.{mul-add-lt, mul-le}
use Rattle.std.proofs.lemmas.List.{get_or_append_left, get_or_push, length_push}
use Rattle.std.proofs.lemmas.List.Sums.{count_by_more_yes, count_by_more_no}
use Rattle.pattern_images.specs.declared.cell.PatternCell.{PatternCell}
use Rattle.pattern_images.specs.declared.cell.PatternCell.TheVariants as cell
use Rattle.pattern_syntax.specs.Text.{slash, cell_byte}
use Rattle.pattern_syntax.specs.Faults.{HasSlash, IsRow, HasPatternFault}
use Rattle.pattern_syntax.specs.Faults.HasPatternFault.{unknown_byte, empty_row, uneven_row, long_row, many_rows}
use Rattle.pattern_syntax.specs.Reading.{HasRows}
use Rattle.pattern_syntax.proofs.Bytes.{cell_byte-ne-slash}
use Rattle.pattern_syntax.proofs.Rows.{EndsRow, no_slash, ends-last, same_row, row_end, begun-row, row_from, first_closed}

-- ---- faults

module _ (text : List ℕ) (k rows cols width : ℕ) (cells : List PatternCell) (h : HasRows text k rows cols width cells) where
  -- the row that is begun ends empty
  pub fault-empty : EndsRow text k → width ≡ 0 → HasPatternFault text k
  fault-empty ends none =
      let row : IsRow text (rows * (cols + 1)) k = begun-row text k rows cols width cells h k (omega arith) (λ j le lt. absurd (omega arith)) ends in
      empty_row (subst (λ from. IsRow text from k) (omega (arith, h.place)) row)

  -- it ends with another length than the closed ones
  pub fault-uneven : EndsRow text k → 0 < rows → cols ≢ width → HasPatternFault text k
  fault-uneven ends some other =
      let row : IsRow text (rows * (cols + 1)) k = begun-row text k rows cols width cells h k (omega arith) (λ j le lt. absurd (omega arith)) ends in
      uneven_row cols (rows * (cols + 1)) (first_closed text k rows cols width cells h some) row (λ e. other (omega (arith, h.place)))

  -- it has one more byte than it may have
  pub fault-long : ¬ EndsRow text k → width ≡ 52 → HasPatternFault text k
  fault-long goes_on full =
      let end = row_end (length text - k) text k (omega (arith, h.within)) in
      let row : IsRow text (rows * (cols + 1)) end.0 = begun-row text k rows cols width cells h end.0 end.1 end.2 end.3 in
      let behind : k < end.0 = elim (cases_lt k end.0) [ inl lt ↦ lt | inr ge ↦ absurd (goes_on (subst (EndsRow text) (omega (arith, end.1)) end.3)) ] in
      long_row (rows * (cols + 1)) end.0 row (omega (arith, h.place)) behind

  -- there may be no row behind the `/`
  pub fault-many : HasSlash text k → rows + 1 ≡ 52 → HasPatternFault text k
  fault-many there last = many_rows there (omega (arith, h.slashes))

  -- ---- bytes without a fault

  pub clean-cell : (c : PatternCell) → k < length text → get_or text k 0 ≡ cell_byte c → width < 52 → ¬ HasPatternFault text k
  clean-cell c lt is room (unknown_byte below unknown) = unknown (inr (c, sym is))
  clean-cell c lt is room (empty_row row) = elim row.ends [ inl e ↦ omega arith | inr there ↦ no_slash text k c is there ]
  clean-cell c lt is room (uneven_row first from one row other) = elim row.ends [ inl e ↦ omega arith | inr there ↦ no_slash text k c is there ]
  clean-cell c lt is room (long_row from to row at before) =
      let same : from ≡ rows * (cols + 1) = row_from text k rows cols width cells h from to row (omega arith) (omega arith) in
      omega (arith, h.place)
  clean-cell c lt is room (many_rows there last) = no_slash text k c is there

-- the row that is begun ends as long as the closed ones
module _ (text : List ℕ) (k rows width : ℕ) (cells : List PatternCell) (h : HasRows text k rows width width cells) where
  first_row : EndsRow text k → IsRow text 0 width
  first_row ends = elim (cases_eq rows 0) [
    | inl none ↦
        let row : IsRow text (rows * (width + 1)) k = begun-row text k rows width width cells h k (omega arith) (λ j le lt. absurd (omega arith)) ends in
        let from : rows * (width + 1) ≡ 0 = ap (λ n. n * (width + 1)) none ∙ omega arith in
        let to : k ≡ width = omega (arith, h.place) in
        subst (λ n. IsRow text n width) from (subst (λ n. IsRow text (rows * (width + 1)) n) to row)
    | inr some ↦ first_closed text k rows width width cells h (omega arith)
  ]

  pub clean-end : EndsRow text k → 0 < width → (HasSlash text k → rows + 1 < 52) → ¬ HasPatternFault text k
  clean-end ends some few (unknown_byte below unknown) = elim ends [ inl e ↦ omega arith | inr there ↦ unknown (inl there.1) ]
  clean-end ends some few (empty_row row) =
      let same : k ≡ rows * (width + 1) = row_from text k rows width width cells h k k row (omega arith) (omega arith) in
      omega (arith, h.place)
  clean-end ends some few (uneven_row first from one row other) =
      let same : from ≡ rows * (width + 1) = row_from text k rows width width cells h from k row row.ordered (omega arith) in
      let even : first ≡ width = same_row text 0 first width one (first_row ends) in
      other (omega (arith, h.place))
  clean-end ends some few (long_row from to row at before) =
      let le : to ≤ k = ends-last text k from to row ends (omega arith) in
      omega arith
  clean-end ends some few (many_rows there last) = let lt : rows + 1 < 52 = few there in omega (arith, h.slashes)

-- ---- one more byte

pub start : (text : List ℕ) → HasRows text 0 0 0 0 []
start text = record {
  place = refl;
  within = omega arith;
  few = omega arith;
  narrow = omega arith;
  short = omega arith;
  count = refl;
  closed = λ x y column row. absurd (omega arith);
  begun = λ x column. absurd (omega arith);
  parted = λ y row. absurd (omega arith);
  slashes = refl;
}

-- as long as no row is closed, any length will do for the closed ones
pub evened : (text : List ℕ) (k rows cols width : ℕ) (cells : List PatternCell) → HasRows text k rows cols width cells → (rows ≡ 0) ⊎ (cols ≡ width) → HasRows text k rows width width cells
evened text k rows cols width cells h (inr same) = subst (λ n. HasRows text k rows n width cells) same h
evened text k rows cols width cells h (inl none) =
    let nothing : (n : ℕ) → rows * n ≡ 0 = λ n. ap (λ m. m * n) none ∙ omega arith in
    record {
      place = omega (arith, h.place, nothing (width + 1), nothing (cols + 1));
      within = h.within;
      few = h.few;
      narrow = h.short;
      short = h.short;
      count = h.count ∙ omega (arith, nothing cols, nothing width);
      closed = λ x y column row. absurd (omega arith);
      begun = λ x column. ap (λ n. get_or text (n + x) 0) (nothing (width + 1) ∙ sym (nothing (cols + 1))) ∙ h.begun x column
          ∙ ap (λ n. cell_byte (get_or cells (n + x) cell.Any)) (nothing cols ∙ sym (nothing width));
      parted = λ y row. absurd (omega arith);
      slashes = h.slashes;
    }

module _ (text : List ℕ) (k rows cols width : ℕ) (cells : List PatternCell) (h : HasRows text k rows cols width cells) where
  pub more-cell : (c : PatternCell) → k < length text → get_or text k 0 ≡ cell_byte c → width < 52 → HasRows text (k + 1) rows cols (width + 1) (cells ++ c ∷ [])
  more-cell c lt is room = record {
    place = omega (arith, h.place);
    within = omega arith;
    few = h.few;
    narrow = h.narrow;
    short = omega arith;
    count = length_push cells c ∙ omega (arith, h.count);
    closed = λ x y column row. h.closed x y column row
        ∙ ap cell_byte (sym (get_or_append_left cells (c ∷ []) cell.Any (y * cols + x) (omega (arith, h.count, mul-add-lt y cols x rows row column))));
    begun = λ x column. elim (cases_eq x width) [
      | inl e ↦ ap (λ n. get_or text n 0) (omega (arith, h.place)) ∙ is ∙ ap cell_byte (sym (get_or_push cells c cell.Any (rows * cols + x) (omega (arith, h.count))))
      | inr other ↦ h.begun x (omega arith) ∙ ap cell_byte (sym (get_or_append_left cells (c ∷ []) cell.Any (rows * cols + x) (omega (arith, h.count))))
    ];
    parted = h.parted;
    slashes = count_by_more_no (λ b. b == slash) text k 0 lt (let ne : get_or text k 0 ≢ slash = λ e. cell_byte-ne-slash c (sym is ∙ e) in grind (arith, nat_tests)) ∙ h.slashes;
  }

module _ (text : List ℕ) (k rows width : ℕ) (cells : List PatternCell) (h : HasRows text k rows width width cells) where
  pub more-row : HasSlash text k → rows + 1 < 52 → HasRows text (k + 1) (rows + 1) width 0 cells
  more-row there few = record {
    place = omega (arith, h.place);
    within = omega arith;
    few = few;
    narrow = h.short;
    short = omega arith;
    count = h.count ∙ omega arith;
    closed = λ x y column row. elim (cases_eq y rows) [
      | inl e ↦ subst (λ n. get_or text (n * (width + 1) + x) 0 ≡ cell_byte (get_or cells (n * width + x) cell.Any)) (sym e) (h.begun x column)
      | inr other ↦ h.closed x y column (omega arith)
    ];
    begun = λ x column. absurd (omega arith);
    parted = λ y row. elim (cases_eq y rows) [
      | inl e ↦ ap (λ n. get_or text (n * (width + 1) + width) 0) e ∙ ap (λ n. get_or text n 0) h.place ∙ there.1
      | inr other ↦ h.parted y (omega arith)
    ];
    slashes = count_by_more_yes (λ b. b == slash) text k 0 there.0 (let is : get_or text k 0 ≡ slash = there.1 in grind (arith, nat_tests)) ∙ ap (λ n. n + 1) h.slashes;
  }

-- what was read is short
pub near : (text : List ℕ) (k rows cols width : ℕ) (cells : List PatternCell) → HasRows text k rows cols width cells → k < 52 * 53
near text k rows cols width cells h =
    omega (arith, h.place, h.few, h.narrow, h.short, mul-le rows (cols + 1) 51 53 (omega (arith, h.few)) (omega (arith, h.narrow)))
