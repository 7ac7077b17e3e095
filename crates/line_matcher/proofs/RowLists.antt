-- Rows of rectangles of cells, one list of rows after another.
use Rattle.std.proofs.Common.{◌≡◌, ℕ, ◌+◌, ◌-◌, ◌<◌, ◌≤◌, Bool, cond, List, [], ◌∷◌, ◌++◌, length, get_or, map, take, drop, refl, sym, ap, ◌∙◌, arith, subst, inl, inr, append_assoc}
use Rattle.std.specs.Int.{bit_at}
use Rattle.pattern_images.specs.declared.cell.PatternCell.{PatternCell}
use Rattle.std.specs.Prelude.{All, slice_index_or}
use Rattle.std.proofs.lemmas.Bool.{cases_eq, cases_lt}
use Rattle.std.proofs.lemmas.List.{append-nil, length-append, length-drop, length-map, length_push, get_or_append_left, get_or_push, get_or-map, drop-append-le, take-append-le, drop_at, take_all}
use Rattle.std.proofs.lemmas.List.Elements.{All-nil, All-push, All-weaker}
use Rattle.pattern_images.specs.Grid.{Grid, cell_in}
use Rattle.pattern_images.specs.ImageList.{grid_at}
use Rattle.line_matcher.specs.declared.mask.RowMask.{RowMask}
use Rattle.line_matcher.specs.declared.grid_rows.RowRange.{RowRange}
use Rattle.line_matcher.specs.Masks.{AreRowsOf, HasBit, IsRowTo, IsRowWord, IsWithCell, asks_black, asks_white, is_black, is_white, no_mask}
use Rattle.line_matcher.specs.GridRows.{AreGridRows, HaveRowsOf}
use Rattle.line_matcher.specs.StoredRows.{rows_in, IsRangeOf}

-- ---- one row

-- a bit more of a row's word
IsRowWord-more : (test : PatternCell → Bool) (grid : Grid) (dy cols word next : ℕ) → IsRowWord test grid dy cols word → HasBit word cols (test (cell_in grid cols dy)) next → IsRowWord test grid dy (cols + 1) next
IsRowWord-more test grid dy cols word next is bit = record {
  within = λ k lt. elim (cases_eq k cols) [
    | inl last ↦
        let here : bit_at next cols ≡ cond (test (cell_in grid cols dy)) 1 0 = bit.here ∙ ap (λ (n : ℕ). cond (test (cell_in grid cols dy)) 1 n) (is.behind cols (omega arith)) in
        subst (λ (i : ℕ). bit_at next i ≡ cond (test (cell_in grid i dy)) 1 0) (sym last) here
    | inr other ↦ bit.others k other ∙ is.within k (omega arith)
  ];
  behind = λ k le. bit.others k (omega arith) ∙ is.behind k (omega arith);
}

-- a cell more of a row
pub IsRowTo-more : (grid : Grid) (dy cols : ℕ) (row next : RowMask) → IsRowTo grid dy cols row → IsWithCell row cols (cell_in grid cols dy) next → IsRowTo grid dy (cols + 1) next
IsRowTo-more grid dy cols row next is with = record {
  black_care = IsRowWord-more asks_black grid dy cols row.black_care next.black_care is.black_care with.black_care;
  black = IsRowWord-more is_black grid dy cols row.black next.black is.black with.black;
  white_care = IsRowWord-more asks_white grid dy cols row.white_care next.white_care is.white_care with.white_care;
  white = IsRowWord-more is_white grid dy cols row.white next.white is.white with.white;
}

-- ---- the rows of one rectangle

-- the first so many rows of a rectangle come behind those that were there
pub record HaveRowsTo (grid : Grid) (before : List RowMask) (dy : ℕ) (after : List RowMask) : Type 0 where
  pub rows : List RowMask
  pub added : after ≡ before ++ rows
  pub count : length rows ≡ dy
  pub each : (j : ℕ) → j < dy → IsRowTo grid j grid.cols (slice_index_or rows j no_mask)

pub HaveRowsTo-start : (grid : Grid) (before : List RowMask) → HaveRowsTo grid before 0 before
HaveRowsTo-start grid before = record { rows = []; added = sym (append-nil before); count = refl; each = λ j lt. absurd (omega arith) }

pub HaveRowsTo-more : (grid : Grid) (before : List RowMask) (dy : ℕ) (after later : List RowMask) (row : RowMask) → HaveRowsTo grid before dy after → IsRowTo grid dy grid.cols row → later ≡ after ++ row ∷ [] →
    HaveRowsTo grid before (dy + 1) later
HaveRowsTo-more grid before dy after later row have is pushed = record {
  rows = have.rows ++ row ∷ [];
  added = pushed ∙ ap (λ (rows : List RowMask). rows ++ row ∷ []) have.added ∙ append_assoc before have.rows (row ∷ []);
  count = length_push have.rows row ∙ ap (λ (n : ℕ). n + 1) have.count;
  each = λ j lt. elim (cases_lt j dy) [
    | inl below ↦
        subst (λ (r : RowMask). IsRowTo grid j grid.cols r) (sym (get_or_append_left have.rows (row ∷ []) no_mask j (omega (arith, have.count)))) (have.each j below)
    | inr from ↦
        let here : dy ≡ j = omega arith in
        let at : get_or (have.rows ++ row ∷ []) j no_mask ≡ row = get_or_push have.rows row no_mask j (have.count ∙ here) in
        subst (λ (r : RowMask). IsRowTo grid j grid.cols r) (sym at) (subst (λ (i : ℕ). IsRowTo grid i grid.cols row) here is)
  ];
}

pub HaveRowsTo-end : (grid : Grid) (before : List RowMask) (dy : ℕ) (after : List RowMask) → HaveRowsTo grid before dy after → dy ≡ grid.rows → HaveRowsOf grid before after
HaveRowsTo-end grid before dy after have e = record {
  rows = have.rows;
  added = have.added;
  are = record { count = have.count ∙ e; each = λ j lt. have.each j (omega arith) };
}

-- ---- the rows of all rectangles

-- more rows behind the list change no range
rows_in-kept : (rows more : List RowMask) (range : RowRange) → IsRangeOf rows range → rows_in rows range ≡ rows_in (rows ++ more) range
rows_in-kept rows more range within =
    let start : range.start ≤ length rows = omega (arith, within.ordered, within.ends) in
    let count : range.end - range.start ≤ length (drop range.start rows) = omega (arith, length-drop range.start rows, within.ends) in
    sym (ap (take (range.end - range.start)) (drop-append-le range.start rows more start) ∙ take-append-le (range.end - range.start) (drop range.start rows) more count)

-- the range of what is appended
rows_in-last : (rows more : List RowMask) (range : RowRange) → range.start ≡ length rows → range.end ≡ length (rows ++ more) → rows_in (rows ++ more) range ≡ more
rows_in-last rows more range from to =
    ap (take (range.end - range.start)) (drop_at rows more range.start (sym from)) ∙ take_all (range.end - range.start) more (omega (arith, length-append rows more))

-- the first so many rectangles
pub record HaveGridsTo (grids : List Grid) (n : ℕ) (ranges : List RowRange) (rows : List RowMask) : Type 0 where
  pub count : length ranges ≡ n
  pub within : All (IsRangeOf rows) ranges
  pub each : (k : ℕ) (d : RowRange) → k < n → AreRowsOf (grid_at grids k) (rows_in rows (get_or ranges k d))

pub HaveGridsTo-start : (grids : List Grid) → HaveGridsTo grids 0 [] []
HaveGridsTo-start grids = record { count = refl; within = All-nil (IsRangeOf []); each = λ k d lt. absurd (omega arith) }

pub HaveGridsTo-more : (grids : List Grid) (n : ℕ) (ranges later : List RowRange) (rows now : List RowMask) (range : RowRange) → HaveGridsTo grids n ranges rows → HaveRowsOf (grid_at grids n) rows now →
    range.start ≡ length rows → range.end ≡ length now → later ≡ ranges ++ range ∷ [] → HaveGridsTo grids (n + 1) later now
HaveGridsTo-more grids n ranges later rows now range have added from to pushed =
    let longer : length now ≡ length rows + length added.rows = ap length added.added ∙ length-append rows added.rows in
    let kept : All (IsRangeOf now) ranges = All-weaker (IsRangeOf rows) (IsRangeOf now) (λ r w. record { ordered = w.ordered; ends = omega (arith, w.ends) }) ranges have.within in
    record {
      count = ap length pushed ∙ length_push ranges range ∙ ap (λ (i : ℕ). i + 1) have.count;
      within = subst (All (IsRangeOf now)) (sym pushed) (All-push (IsRangeOf now) ranges range kept (record { ordered = omega arith; ends = omega arith }));
      each = λ k d lt. subst (λ (rs : List RowRange). AreRowsOf (grid_at grids k) (rows_in now (get_or rs k d))) (sym pushed) (elim (cases_lt k n) [
        | inl below ↦
            let same : get_or (ranges ++ range ∷ []) k d ≡ get_or ranges k d = get_or_append_left ranges (range ∷ []) d k (omega (arith, have.count)) in
            let here : rows_in now (get_or (ranges ++ range ∷ []) k d) ≡ rows_in rows (get_or ranges k d) =
            ap (rows_in now) same
            ∙ ap (λ (rs : List RowMask). rows_in rs (get_or ranges k d)) added.added
            ∙ sym (rows_in-kept rows added.rows (get_or ranges k d) (have.within k d (omega (arith, have.count)))) in
            subst (AreRowsOf (grid_at grids k)) (sym here) (have.each k d below)
        | inr last ↦
            let here : n ≡ k = omega arith in
            let at : get_or (ranges ++ range ∷ []) k d ≡ range = get_or_push ranges range d k (have.count ∙ here) in
            let last_rows : rows_in now (get_or (ranges ++ range ∷ []) k d) ≡ added.rows =
            ap (rows_in now) at ∙ ap (λ (rs : List RowMask). rows_in rs range) added.added ∙ rows_in-last rows added.rows range from (to ∙ ap length added.added) in
            subst (AreRowsOf (grid_at grids k)) (sym last_rows) (subst (λ (i : ℕ). AreRowsOf (grid_at grids i) added.rows) here added.are)
      ]);
    }

pub HaveGridsTo-end : (grids : List Grid) (n : ℕ) (ranges : List RowRange) (rows : List RowMask) → HaveGridsTo grids n ranges rows → n ≡ length grids → AreGridRows grids (map (rows_in rows) ranges)
HaveGridsTo-end grids n ranges rows have e = record {
  count = length-map ranges (rows_in rows) ∙ have.count ∙ e;
  each = λ k lt.
      let d : RowRange = record { start = 0; end = 0 } in
      subst (AreRowsOf (grid_at grids k)) (sym (get_or-map (rows_in rows) ranges k d [] (omega (arith, have.count)))) (have.each k d (omega arith));
}
