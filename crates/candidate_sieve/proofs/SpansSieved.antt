-- Rows of one class that are sieved at once.
use Rattle.std.proofs.Common.{◌≡◌, ℕ, ◌+◌, ◌-◌, ◌<◌, ◌≤◌, List, length, slice_index, slice_index_or, refl, ap, sym, ◌∙◌, subst, subst₂, arith, inl, inr}
use Rattle.std.specs.Int.{bit_at}
use Rattle.std.specs.Option.{IsSome}
use Rattle.std.specs.Prelude.{None, All}
use mathlib.Core.List.{IsPrefix}
use Rattle.kb_geometry.proofs.Prefixes.{prefix_same, prefix_trans}
use Rattle.std.proofs.lemmas.Bool.{cases_lt}
use Rattle.pattern_images.specs.ImageList.{AreImages, ImageList, grid_at}
use Rattle.ready_images.specs.declared.pair.Pair.{Pair}
use Rattle.ready_images.specs.declared.row.Row.{Row}
use Rattle.ready_images.specs.declared.want.Want.{Want}
use Rattle.ready_images.specs.Pairs.{IsPairIn}
use Rattle.ready_images.specs.Rows.{AreRowsOf, EndAt, IsRowIn, row_at}
use Rattle.ready_images.specs.Wants.{AreWantsOf}
use Rattle.kb_geometry.specs.Board.{point_count}
use Rattle.ready_images.proofs.RowWants.{row-base-small}
use Rattle.ready_images.proofs.PlacementLists.{end-of, end-once}
use Rattle.final_index.specs.Planes.{PlaneGames}
use Rattle.candidate_sieve.specs.declared.candidates.Candidate.{Candidate}
use Rattle.candidate_sieve.specs.declared.order.SpanOrder.{SpanOrder}
use Rattle.candidate_sieve.specs.BlockGames.{AreRowsAdded, AreWordsOfSpan, IsSieved, IsSpanOf, numbers_in, words_in}
use Rattle.candidate_sieve.specs.BlockGames.AreRowsAdded.{none_yet, row_more}
use Rattle.candidate_sieve.specs.Ordered.{ArePairsBelow}
use Rattle.candidate_sieve.proofs.CandidateLists.{AreAddedTo, added-behind}
use Rattle.candidate_sieve.proofs.RowsSieved.{row-added, sliced-number}

-- ---- which rows

pub span-start : (rows : List Row) (first : ℕ) → first < length rows → IsSpanOf rows first (first + 1)
span-start rows first lt = record {
  some = omega arith;
  within = omega (arith, lt);
  classes = λ r ge below. ap (λ (n : ℕ). (row_at rows n).class) (omega (arith, ge, below));
  from = λ r ge below.
      let same : (row_at rows first).base ≡ (row_at rows r).base = ap (λ (n : ℕ). (row_at rows n).base) (omega (arith, ge, below)) in
      omega (arith, same);
  to = λ q r last ge below.
      let same : (row_at rows q).base + (row_at rows q).count ≡ (row_at rows r).base + (row_at rows r).count = ap (λ (n : ℕ). (row_at rows n).base + (row_at rows n).count) (omega (arith, last, ge, below)) in
      omega (arith, same);
}

module _ (rows : List Row) (first last : ℕ) (span : IsSpanOf rows first (last + 1)) (lt : last + 1 < length rows) (class : (row_at rows (last + 1)).class ≡ (row_at rows last).class)
    (behind : (row_at rows last).base + (row_at rows last).count ≤ (row_at rows (last + 1)).base) where
  class-of : (r : ℕ) → first ≤ r → r < last + 1 + 1 → (row_at rows r).class ≡ (row_at rows first).class
  class-of r ge below = elim (cases_lt r (last + 1)) [
    | inl before ↦ span.classes r ge before
    | inr new ↦
        let here : r ≡ last + 1 = omega (arith, below, new) in
        ap (λ (n : ℕ). (row_at rows n).class) here ∙ class ∙ span.classes last (omega (arith, span.some)) (omega arith)
  ]

  from-of : (r : ℕ) → first ≤ r → r < last + 1 + 1 → (row_at rows first).base ≤ (row_at rows r).base
  from-of r ge below = elim (cases_lt r (last + 1)) [
    | inl before ↦ span.from r ge before
    | inr new ↦
        let here : (row_at rows r).base ≡ (row_at rows (last + 1)).base = ap (λ (n : ℕ). (row_at rows n).base) (omega (arith, below, new)) in
        omega (arith, here, behind, span.from last (omega (arith, span.some)) (omega arith))
  ]

  to-of : (q r : ℕ) → last + 1 + 1 ≡ q + 1 → first ≤ r → r < last + 1 + 1 → (row_at rows r).base + (row_at rows r).count ≤ (row_at rows q).base + (row_at rows q).count
  to-of q r end ge below =
      let at : (row_at rows q).base ≡ (row_at rows (last + 1)).base = ap (λ (n : ℕ). (row_at rows n).base) (omega (arith, end)) in
      let long : (row_at rows q).count ≡ (row_at rows (last + 1)).count = ap (λ (n : ℕ). (row_at rows n).count) (omega (arith, end)) in
      elim (cases_lt r (last + 1)) [
        | inl before ↦ omega (arith, at, long, behind, span.to last r (omega arith) ge before)
        | inr new ↦
            let here : (row_at rows r).base ≡ (row_at rows (last + 1)).base = ap (λ (n : ℕ). (row_at rows n).base) (omega (arith, below, new)) in
            let same : (row_at rows r).count ≡ (row_at rows (last + 1)).count = ap (λ (n : ℕ). (row_at rows n).count) (omega (arith, below, new)) in
            omega (arith, at, long, here, same)
      ]

  span-more : IsSpanOf rows first (last + 1 + 1)
  span-more = record {
    some = omega (arith, span.some);
    within = omega (arith, lt);
    classes = class-of;
    from = from-of;
    to = to-of;
  }

pub span-next : (rows : List Row) (first end : ℕ) → IsSpanOf rows first end → end < length rows → (row_at rows end).class ≡ (row_at rows (end - 1)).class → (row_at rows (end - 1)).base + (row_at rows (end - 1)).count ≤ (row_at rows end).base → IsSpanOf rows first (end + 1)
span-next rows first end span lt class behind =
    let is : end ≡ end - 1 + 1 = omega (arith, span.some) in
    subst (λ (n : ℕ). IsSpanOf rows first (n + 1)) (sym is)
    (span-more rows first (end - 1) (subst (IsSpanOf rows first) is span) (subst (λ (n : ℕ). n < length rows) is lt)
    (subst (λ (n : ℕ). (row_at rows n).class ≡ (row_at rows (end - 1)).class) is class)
    (subst (λ (n : ℕ). (row_at rows (end - 1)).base + (row_at rows (end - 1)).count ≤ (row_at rows n).base) is behind))

-- ---- the words of one of the rows

module _ (rows : List Row) (first end : ℕ) (span : IsSpanOf rows first end) (words : List ℕ) (reach : AreWordsOfSpan rows first end (length words)) (r : ℕ) (ge : first ≤ r) (lt : r < end) where
  -- they are among those of all rows
  pub words-within : (row_at rows r).base - (row_at rows first).base + (row_at rows r).count ≤ length words
  words-within = let last : end ≡ end - 1 + 1 = omega (arith, span.some) in omega (arith, span.from r ge lt, reach (end - 1) last, span.to (end - 1) r last ge lt)

  -- what is true of the word of each point behind the base is true of the word of each placement
  pub row-words : (P : ℕ → ℕ → Type 0) → ((k : ℕ) → k < length words → P ((row_at rows first).base + k) (slice_index words k)) → (k : ℕ) → k < (row_at rows r).count → P ((row_at rows r).base + k) (slice_index (words_in words (row_at rows first).base (row_at rows r)) k)
  row-words P each k few =
      let row = row_at rows r in
      let base = (row_at rows first).base in
      let at : base + (row.base - base + k) ≡ row.base + k = omega (arith, span.from r ge lt) in
      subst₂ P at (sym (sliced-number words (row.base - base) row.count k few)) (each (row.base - base + k) (omega (arith, few, words-within)))

-- ---- the board

pub row-end : (images : ImageList) → AreImages images → (numbers : List ℕ) → ((k : ℕ) → k < length numbers → slice_index numbers k < length images.placements) → (row : Row) → IsRowIn images numbers row → row.base + row.count ≤ point_count images.shape
row-end images are numbers in_range row is = omega (arith, row-base-small images are numbers in_range row is (row.count - 1) (omega (arith, is.some)), is.some)

-- what leads to points of the board behind the last row does so behind as many bases from an earlier one on
pub pairs-reach : (points base first count from : ℕ) (pairs : List Pair) → first ≤ base → from ≡ base - first → ArePairsBelow points base pairs count → ArePairsBelow points first pairs (from + count)
pairs-reach points base first count from pairs before is below = λ k d lt. let at = below k d lt in (omega (arith, at.0, before, is), omega (arith, at.1, before, is))

-- ---- the candidates of the rows

module _ (images : ImageList) (are-images : AreImages images) (planes : PlaneGames) (same : images.shape ≡ planes.shape) (numbers : List ℕ) (rows : List Row) (made : AreRowsOf images numbers rows)
    (first end : ℕ) (span : IsSpanOf rows first end) (class : ℕ) (of-class : (row_at rows first).class ≡ class) (wants : List Want) (are : AreWantsOf images.shape (grid_at images.grids class) wants)
    (order : SpanOrder) (pairs : All (IsPairIn images.shape (grid_at images.grids class)) order.pairs.now) (there : ℕ) (present : (g : ℕ) → g < 64 → bit_at there g ≡ 1 → IsSome (slice_index_or planes.games g None))
    (words : List ℕ) (reach : AreWordsOfSpan rows first end (length words)) (sieved : (k : ℕ) → k < length words → IsSieved planes.games wants there order ((row_at rows first).base + k) (slice_index words k)) where
  -- the words of a row of the span are those of its placements
  row-sieved : (r : ℕ) → first ≤ r → r < end → (k : ℕ) → k < (row_at rows r).count → IsSieved planes.games wants there order ((row_at rows r).base + k) (slice_index (words_in words (row_at rows first).base (row_at rows r)) k)
  row-sieved r ge lt = row-words rows first end span words reach r ge lt (λ base word. IsSieved planes.games wants there order base word) sieved

  -- the list has the candidates of the rows before one
  abbrev pub AreAddedBefore : ℕ → List Candidate → List Candidate → Type 0
  AreAddedBefore r old new = (stop : ℕ) × EndAt rows r stop × AreAddedTo planes order.order images there numbers stop old new

  pub rows-added : (old found : List Candidate) → AreAddedBefore first old found → (r : ℕ) (next : List Candidate) → r ≤ end → AreRowsAdded rows numbers words first found r next → AreAddedBefore r old next
  rows-added old found before _ _ within none_yet = before
  rows-added old found before _ next within (row_more r now _ ge so_far last) =
      let row = row_at rows r in
      let inside : r < length rows = omega (arith, within, span.within) in
      let lt : r < end = omega (arith, within) in
      let behind = rows-added old found before r now (omega (arith, within)) so_far in
      let start : behind.0 ≡ row.start = end-once rows r behind.0 row.start behind.1 (made.are_rows.parted r inside) in
      let own : class ≡ row.class = sym (span.classes r ge lt ∙ of-class) in (
        row.start + row.count,
        end-of rows r (row.start + row.count) refl,
        row-added images are-images planes same numbers made.in_range row (made.are_rows.each r inside) wants (subst (λ (c : ℕ). AreWantsOf images.shape (grid_at images.grids c) wants) own are)
            order (subst (λ (c : ℕ). All (IsPairIn images.shape (grid_at images.grids c)) order.pairs.now) own pairs) there present made.once old now next
            (subst (λ (n : ℕ). AreAddedTo planes order.order images there numbers n old now) start behind.2)
            (words_in words (row_at rows first).base row) (row-sieved r ge lt) last,
      )

-- ---- what was in the list stays in front

pub rows-behind : (rows : List Row) (numbers words : List ℕ) (first : ℕ) (old : List Candidate) (r : ℕ) (new : List Candidate) → AreRowsAdded rows numbers words first old r new → IsPrefix old new
rows-behind rows numbers words first old _ _ none_yet = prefix_same old
rows-behind rows numbers words first old _ next (row_more r now _ ge so_far last) =
    prefix_trans old now next (rows-behind rows numbers words first old r now so_far)
    (added-behind (row_at rows r) (numbers_in numbers (row_at rows r)) (words_in words (row_at rows first).base (row_at rows r)) now (row_at rows r).count next last)
