-- The games that are kept by the placements of rows that are sieved at once.
use Rattle.std.proofs.Common.{◌≡◌, ◌⊎◌, ◌↔◌, ℕ, ◌+◌, ◌-◌, ◌^◌, ◌<◌, ◌≤◌, List, None, bit_and, bit_or, inl, inr, length, refl, slice_index, slice_index_or, ap, suc, sym, zero, ◌∙◌, subst, arith}
use Rattle.std.specs.Borrow.{Bor}
use Rattle.std.specs.Int.{bit_at, bit_not, w64}
use Rattle.std.specs.Option.{IsSome}
use Rattle.std.proofs.lemmas.Bool.{cases_eq, cases_lt}
use Rattle.std.proofs.lemmas.Nat.Bits.{bit_at-zero}
use Rattle.kb_geometry.specs.declared.shape.Shape.{Shape}
use Rattle.capture_board.specs.Deltas.{Deltas}
use Rattle.pattern_images.specs.ImageList.{AreImages, ImageList, IsPlacedOn, grid_at, no_placement, placement_at}
use Rattle.pattern_images.specs.Placements.{Placement}
use Rattle.ready_images.specs.declared.row.Row.{Row}
use Rattle.ready_images.specs.declared.want.Want.{Want}
use Rattle.ready_images.specs.Rows.{AreRowsOf, AreRowsTo, EndAt, row_at}
use Rattle.ready_images.specs.Wants.{AreWantsOf}
use Rattle.ready_images.proofs.PlacementLists.{end-of, end-once}
use Rattle.final_index.specs.Planes.{PlaneGames}
use Rattle.final_index.proofs.KeptBits.{or-bit}
use Rattle.candidate_sieve.specs.BlockGames.{AreWordsOfSpan, HaveEach, IsSpanOf, numbers_in, words_in}
use Rattle.candidate_sieve.specs.Kept.{HadCorners, IsKeptBy, WereAllowed}
use Rattle.candidate_sieve.specs.KeptWords.{HasNumbers, IsGameOf, IsInWords, IsMetBy, IsMetInRows}
use Rattle.candidate_sieve.proofs.KeptRows.{AreKeptTo, IsKeptTo, cells-told, is-there, left-bit}
use Rattle.candidate_sieve.proofs.RowsSieved.{row-told, sliced-length, sliced-number}
use Rattle.candidate_sieve.proofs.SpansSieved.{row-words}

-- ---- the games that the rows so far have met

module _ (shape : Shape) (placements : List Placement) (rows : List Row) (numbers words : List ℕ) (first : ℕ) (corners : List (Bor (List (List ℕ)))) where
  pub record AreMetIn (end word : ℕ) : Type 0 where
    pub exact : (g : ℕ) (changes : Deltas) → g < 64 → changes.shape ≡ shape → HasNumbers corners g changes → (bit_at word g ≡ 1) ↔ IsMetInRows placements rows numbers words first end g changes
    pub among : (g : ℕ) → g < 64 → bit_at word g ≡ 1 → IsInWords words g

  pub met_in-start : AreMetIn first 0
  met_in-start = record {
    exact = λ g changes lt same has. (λ e. absurd (omega (arith, e, bit_at-zero g)), λ h. absurd (omega (arith, h.1, h.2)));
    among = λ g lt e. absurd (omega (arith, e, bit_at-zero g));
  }

  module _ (r word new : ℕ) (ge : first ≤ r) (within : (row_at rows r).base - (row_at rows first).base + (row_at rows r).count ≤ length words) (so_far : AreMetIn r word)
      (exact : (g : ℕ) (changes : Deltas) → g < 64 → changes.shape ≡ shape → HasNumbers corners g changes → (bit_at new g ≡ 1) ↔ ((bit_at word g ≡ 1) ⊎ IsMetBy placements (numbers_in numbers (row_at rows r)) (words_in words (row_at rows first).base (row_at rows r)) g changes))
      (among : (g : ℕ) → g < 64 → bit_at new g ≡ 1 → (bit_at word g ≡ 1) ⊎ IsInWords (words_in words (row_at rows first).base (row_at rows r)) g) where
    -- a word of the row is one of all words
    in-words : (g : ℕ) → IsInWords (words_in words (row_at rows first).base (row_at rows r)) g → IsInWords words g
    in-words g (k, lt, e) =
        let from = (row_at rows r).base - (row_at rows first).base in
        let count = (row_at rows r).count in
        let few : k < count = omega (arith, lt, sliced-length words from count within) in
        (from + k, omega (arith, few, within), subst (λ (w : ℕ). bit_at w g ≡ 1) (sliced-number words from count k few) e)

    met-before : (g : ℕ) (changes : Deltas) → IsMetInRows placements rows numbers words first r g changes → IsMetInRows placements rows numbers words first (r + 1) g changes
    met-before g changes t = (t.0, t.1, omega (arith, t.2), t.3)

    met-of : (g : ℕ) (changes : Deltas) → IsMetInRows placements rows numbers words first (r + 1) g changes → IsMetInRows placements rows numbers words first r g changes ⊎ IsMetBy placements (numbers_in numbers (row_at rows r)) (words_in words (row_at rows first).base (row_at rows r)) g changes
    met-of g changes t = elim (cases_lt t.0 r) [
      | inl earlier ↦ inl (t.0, t.1, earlier, t.3)
      | inr from ↦
          let here : t.0 ≡ r = omega (arith, from, t.2) in
          inr (subst (λ (q : ℕ). IsMetBy placements (numbers_in numbers (row_at rows q)) (words_in words (row_at rows first).base (row_at rows q)) g changes) here t.3)
    ]

    pub met_in-next : AreMetIn (r + 1) new
    met_in-next = record {
      exact = λ g changes lt same has.
          let both = exact g changes lt same has in
          let earlier = so_far.exact g changes lt same has in (
            λ e. elim (both.0 e) [ inl was ↦ met-before g changes (earlier.0 was) | inr is ↦ (r, ge, omega arith, is) ],
            λ h. elim (met-of g changes h) [ inl was ↦ both.1 (inl (earlier.1 was)) | inr is ↦ both.1 (inr is) ],
          );
      among = λ g lt e. elim (among g lt e) [ inl was ↦ so_far.among g lt was | inr is ↦ in-words g is ];
    }

-- ---- the places of the placements of some rows

module _ (images : ImageList) (numbers : List ℕ) (rows : List Row) (made : AreRowsTo images numbers rows) where
  -- a row before a place ends there at the latest
  row-before : (r stop q : ℕ) → r ≤ length rows → EndAt rows r stop → q < r → (row_at rows q).start + (row_at rows q).count ≤ stop
  row-before zero stop q few ends lt = absurd (omega (arith, lt))
  row-before (suc r) stop q few ends lt =
      let at : stop ≡ (row_at rows r).start + (row_at rows r).count = ends.1 r (omega arith) in
      elim (cases_lt q r) [
        | inl earlier ↦ omega (arith, at, row-before r (row_at rows r).start q (omega (arith, few)) (made.parted r (omega (arith, few))) earlier)
        | inr from ↦
            let here : (row_at rows q).start + (row_at rows q).count ≡ (row_at rows r).start + (row_at rows r).count = ap (λ (n : ℕ). (row_at rows n).start + (row_at rows n).count) (omega (arith, from, lt)) in
            omega (arith, at, here)
      ]

  -- in one of the rows from one number to the one before another stands the placement at a place
  row-with : (first start r stop j : ℕ) → first ≤ r → r ≤ length rows → EndAt rows first start → EndAt rows r stop → start ≤ j → j < stop → (q : ℕ) × (first ≤ q) × (q < r) × ((row_at rows q).start ≤ j) × (j < (row_at rows q).start + (row_at rows q).count)
  row-with first start zero stop j le few begins ends from lt = absurd (omega (arith, lt, ends.0 refl))
  row-with first start (suc r) stop j le few begins ends from lt =
      elim (cases_eq first (suc r)) [
        | inl none ↦ absurd (omega (arith, from, lt, end-once rows (suc r) start stop (subst (λ (n : ℕ). EndAt rows n start) none begins) ends))
        | inr some ↦
            let at : stop ≡ (row_at rows r).start + (row_at rows r).count = ends.1 r (omega arith) in
            elim (cases_lt j (row_at rows r).start) [
              | inl earlier ↦
                  let (q, ge, below, low, high) = row-with first start r (row_at rows r).start j (omega (arith, le, some)) (omega (arith, few)) begins (made.parted r (omega (arith, few))) from earlier in
                  (q, ge, omega (arith, below), low, high)
              | inr behind ↦ (r, omega (arith, le, some), omega arith, behind, omega (arith, lt, at))
            ]
      ]

-- ---- the games that are kept by the placements of the rows

module _ (images : ImageList) (planes : PlaneGames) (corners : List (Bor (List (List ℕ)))) (numbers : List ℕ) (present : ℕ) (told : (g : ℕ) → g < 64 → (bit_at present g ≡ 1) ↔ IsSome (slice_index_or planes.games g None))
    (are-images : AreImages images) (same : images.shape ≡ planes.shape) (rows : List Row) (made : AreRowsOf images numbers rows)
    (first end : ℕ) (span : IsSpanOf rows first end) (wants : List Want) (are : AreWantsOf images.shape (grid_at images.grids (row_at rows first).class) wants) (kept : ℕ) (fits : kept < 2 ^ 64)
    (words : List ℕ) (reach : AreWordsOfSpan rows first end (length words)) (have : (k : ℕ) → k < length words → HaveEach planes.games ((row_at rows first).base + k) wants (bit_and present (bit_not w64 kept)) (length wants) (slice_index words k)) where
  abbrev left : ℕ
  left = bit_and present (bit_not w64 kept)

  -- a placement of a row
  abbrev here : ℕ → ℕ → Placement
  here r k = placement_at images.placements (slice_index numbers ((row_at rows r).start + k))

  -- the words of a row's placements
  abbrev own-words : ℕ → List ℕ
  own-words r = words_in words (row_at rows first).base (row_at rows r)

  left-there : (g : ℕ) → g < 64 → bit_at left g ≡ 1 → IsSome (slice_index_or planes.games g None)
  left-there g lt e = (told g lt).0 ((left-bit present kept g fits lt).0 e).0

  -- the word of a placement has the games left in which each of its cells was allowed
  word-cells : (r k g : ℕ) (changes : Deltas) → first ≤ r → r < end → k < (row_at rows r).count → g < 64 → IsGameOf planes corners g changes → (bit_at (slice_index (own-words r) k) g ≡ 1) ↔ ((bit_at left g ≡ 1) × WereAllowed changes (here r k))
  word-cells r k g changes ge lt few below game =
      let row = row_at rows r in
      let is = made.are_rows.each r (omega (arith, lt, span.within)) in
      let own = subst (λ (c : ℕ). AreWantsOf images.shape (grid_at images.grids c) wants) (sym (span.classes r ge lt)) are in
      let each = row-words rows first end span words reach r ge lt (λ b w. HaveEach planes.games b wants left (length wants) w) have in
      let word = row-told images are-images planes same numbers made.in_range row is wants own left (own-words r) left-there each k g few below in
      let placed = are-images.placed (slice_index numbers (row.start + k)) no_placement (made.in_range (row.start + k) (omega (arith, is.within, few))) in
      let cells = cells-told changes planes.shape (here r k) (slice_index_or planes.games g None) game.some_node game.same_shape game.sets (subst (λ (s : Shape). IsPlacedOn s (here r k)) same placed) in (
        λ e. let t = word.0 e in (t.0, cells.0 t.1),
        λ h. word.1 (h.0, cells.1 h.1),
      )

  module _ (met : ℕ) (exact : (g : ℕ) (changes : Deltas) → g < 64 → changes.shape ≡ images.shape → HasNumbers corners g changes → (bit_at met g ≡ 1) ↔ IsMetInRows images.placements rows numbers words first end g changes)
      (among : (g : ℕ) → g < 64 → bit_at met g ≡ 1 → IsInWords words g)
      (start : ℕ) (begins : EndAt rows first start) (so_far : AreKeptTo images planes corners numbers start kept) where
    -- the place at which the last row ends
    abbrev stop : ℕ
    stop = (row_at rows (end - 1)).start + (row_at rows (end - 1)).count

    ends : EndAt rows end stop
    ends = let last : end ≡ end - 1 + 1 = omega (arith, span.some) in subst (λ (n : ℕ). EndAt rows n stop) (sym last) (end-of rows (end - 1) stop refl)

    row-within : (r : ℕ) → r < end → (row_at rows r).start + (row_at rows r).count ≤ stop
    row-within r lt = row-before images numbers rows made.are_rows end stop r span.within ends lt

    start-within : start ≤ stop
    start-within =
        let at : start ≡ (row_at rows first).start = end-once rows first start (row_at rows first).start begins (made.are_rows.parted first (omega (arith, span.some, span.within))) in
        omega (arith, at, row-within first span.some)

    -- a placement of the rows keeps a game that is met
    met-kept : (g : ℕ) (changes : Deltas) → g < 64 → IsGameOf planes corners g changes → bit_at met g ≡ 1 → IsKeptTo images planes corners numbers stop changes
    met-kept g changes below game e =
        let (r, ge, lt, (k, less, bit, had)) = (exact g changes below (game.same_shape ∙ sym same) game.numbers).0 e in
        let row = row_at rows r in
        let is = made.are_rows.each r (omega (arith, lt, span.within)) in
        let few : k < row.count = omega (arith, less, sliced-length numbers row.start row.count is.within) in (
          row.start + k,
          omega (arith, few, row-within r lt),
          record {
            cells = ((word-cells r k g changes ge lt few below game).0 bit).1;
            corners = subst (λ (n : ℕ). HadCorners changes (placement_at images.placements n)) (sliced-number numbers row.start row.count k few) had;
          },
        )

    -- a game that wasn't kept before and that a placement of the rows keeps is met
    kept-met : (g : ℕ) (changes : Deltas) → g < 64 → IsGameOf planes corners g changes → ¬ (bit_at kept g ≡ 1) → (r k : ℕ) → first ≤ r → r < end → k < (row_at rows r).count → IsKeptBy changes (here r k) → bit_at met g ≡ 1
    kept-met g changes below game unkept r k ge lt few by =
        let row = row_at rows r in
        let is = made.are_rows.each r (omega (arith, lt, span.within)) in
        let open_still = (left-bit present kept g fits below).1 (is-there images planes corners numbers present told g changes below game, unkept) in
        let bit = (word-cells r k g changes ge lt few below game).1 (open_still, by.cells) in
        let less : k < length (numbers_in numbers row) = omega (arith, few, sliced-length numbers row.start row.count is.within) in
        (exact g changes below (game.same_shape ∙ sym same) game.numbers).1 (r, ge, lt, (k, less, bit, subst (λ (n : ℕ). HadCorners changes (placement_at images.placements n)) (sym (sliced-number numbers row.start row.count k few)) by.corners))

    -- so is one that a placement between the places keeps
    kept-between : (g : ℕ) (changes : Deltas) → g < 64 → IsGameOf planes corners g changes → ¬ (bit_at kept g ≡ 1) → (j : ℕ) → start ≤ j → j < stop → IsKeptBy changes (placement_at images.placements (slice_index numbers j)) → bit_at met g ≡ 1
    kept-between g changes below game unkept j from lt by =
        let (r, ge, before, low, high) = row-with images numbers rows made.are_rows first start end stop j (omega (arith, span.some)) span.within begins ends from lt in
        let row = row_at rows r in
        let at : j ≡ row.start + (j - row.start) = omega (arith, low) in
        kept-met g changes below game unkept r (j - row.start) ge before (omega (arith, low, high)) (subst (λ (n : ℕ). IsKeptBy changes (placement_at images.placements (slice_index numbers n))) at by)

    -- the rows with those before them
    pub kept-span : (n : ℕ) × EndAt rows end n × AreKeptTo images planes corners numbers n (bit_or kept met)
    kept-span = (
      stop,
      ends,
      record {
        exact = λ g changes below game.
            let both = or-bit kept met g in
            let earlier = so_far.exact g changes below game in (
              λ e. elim (both.0 e) [
                | inl was ↦ let t = earlier.0 was in (t.0, omega (arith, t.1, start-within), t.2)
                | inr now ↦ met-kept g changes below game now
              ],
              λ (j, lt, by). elim (cases_lt j start) [
                | inl before ↦ both.1 (inl (earlier.1 (j, before, by)))
                | inr from ↦ elim (cases_eq (bit_at kept g) 1) [
                  | inl was ↦ both.1 (inl was)
                  | inr other ↦ both.1 (inr (kept-between g changes below game other j from lt by))
                ]
              ],
            );
        there = λ g lt e. elim ((or-bit kept met g).0 e) [
          | inl was ↦ so_far.there g lt was
          | inr now ↦ let t = among g lt now in left-there g lt (((have t.0 t.1) g lt).0 t.2).0
        ];
      },
    )
