-- The number of a corner that a placement covers is that of the positions with the placement's cells there.
use Prim.Native.Nat.{zero}
use Rattle.std.proofs.Common.{◌≡◌, ℕ, suc, ◌+◌, ◌*◌, ◌/◌, ◌%◌, ◌^◌, ◌<◌, ◌≤◌, ◌↔◌, List, length, refl, sym, ◌∙◌, ap, subst, arith}
use Rattle.std.specs.Prelude.{Bool, Contains, IsTrue, slice_index_or}
use Rattle.std.proofs.lemmas.List.{get_or_default}
use Rattle.kb_geometry.specs.declared.shape.Shape.{Shape}
use Rattle.kb_geometry.specs.declared.stone.Cell.{Cell}
use Rattle.kb_geometry.specs.declared.stone.Cell.TheVariants as stone
use Rattle.kb_geometry.specs.Board.{number_of}
use Rattle.kb_geometry.specs.Capture.{Position, cell_at}
use Rattle.capture_board.specs.Deltas.{Deltas, node_count, position_at}
use Rattle.pattern_images.specs.declared.cell.PatternCell.{PatternCell}
use Rattle.pattern_images.specs.declared.cell.PatternCell.TheVariants as cell
use Rattle.pattern_images.specs.Grid.{cell_in}
use Rattle.pattern_images.specs.Holds.{Allows, number_under}
use Rattle.pattern_images.specs.ImageList.{ImageList, IsPlacedOn, placement_at}
use Rattle.ready_images.specs.declared.corner_number.CornerNumber.{CornerNumber}
use Rattle.pattern_images.specs.Placements.{Placement}
use Rattle.corner_index.specs.Corners.{AreNumbersOfGame, corner_number, digit_of, keys_of, sum_below}
use Rattle.corner_index.specs.Keys.{point_on}
use Rattle.corner_index.proofs.CornerNumbers.{corner_number-places}
use Rattle.corner_index.proofs.Sums.{digits_same, sum_below-same}
use Rattle.ready_images.specs.Corners.{AreCornersOf, CoversCorner, HasCorners, IsCornerNumber, IsExact, LiesOn, cell_over, frame_cell, number_to}
use Rattle.ready_images.specs.Corners.{digit_of as digit_on}
use Rattle.ready_images.proofs.CornerCells.{frame-place, lies-cell, number_to-more, number_to-none, told-covers}
use Rattle.candidate_sieve.specs.Kept.{HadCorners, HadIfCovered, HasCornerOf}

-- ---- one cell

-- the one cell that an empty, black or white cell of a pattern allows
abbrev wanted_cell : PatternCell → Cell
wanted_cell cell.Empty = stone.Empty
wanted_cell cell.Black = stone.Black
wanted_cell cell.White = stone.White
wanted_cell cell.NotWhite = stone.Empty
wanted_cell cell.NotBlack = stone.Empty
wanted_cell cell.Any = stone.Empty

allows-wanted : (pattern : PatternCell) → IsExact pattern → (c : Cell) → Allows pattern c ↔ (c ≡ wanted_cell pattern)
allows-wanted cell.Empty exact c = (λ e. e, λ e. e)
allows-wanted cell.Black exact c = (λ e. e, λ e. e)
allows-wanted cell.White exact c = (λ e. e, λ e. e)
allows-wanted cell.NotWhite exact c = absurd exact
allows-wanted cell.NotBlack exact c = absurd exact
allows-wanted cell.Any exact c = absurd exact

same-digit : (pattern : PatternCell) → digit_on pattern ≡ digit_of (wanted_cell pattern)
same-digit cell.Empty = refl
same-digit cell.Black = refl
same-digit cell.White = refl
same-digit cell.NotWhite = refl
same-digit cell.NotBlack = refl
same-digit cell.Any = refl

digit_of-small : (c : Cell) → digit_of c ≤ 2
digit_of-small stone.Empty = omega arith
digit_of-small stone.Black = omega arith
digit_of-small stone.White = omega arith

digit_of-same : (a b : Cell) → digit_of a ≡ digit_of b → a ≡ b
digit_of-same stone.Empty stone.Empty e = refl
digit_of-same stone.Empty stone.Black e = absurd (omega (arith, e))
digit_of-same stone.Empty stone.White e = absurd (omega (arith, e))
digit_of-same stone.Black stone.Empty e = absurd (omega (arith, e))
digit_of-same stone.Black stone.Black e = refl
digit_of-same stone.Black stone.White e = absurd (omega (arith, e))
digit_of-same stone.White stone.Empty e = absurd (omega (arith, e))
digit_of-same stone.White stone.Black e = absurd (omega (arith, e))
digit_of-same stone.White stone.White e = refl

-- ---- one corner

-- no corner
abbrev pub no_corner : CornerNumber
no_corner = record { placement = 0; corner = 0; number = 0 }

-- the corner at a place of the list
abbrev pub covered_at : List CornerNumber → ℕ → CornerNumber
covered_at covered k = slice_index_or covered k no_corner

-- the numbers of the corners have that of the corner at a place of the list
abbrev pub IsMet : List (List ℕ) → List CornerNumber → ℕ → Type 0
IsMet keys covered k = Contains (keys_of keys (covered_at covered k).corner) (covered_at covered k).number

module _ (shape : Shape) (placement : Placement) (corner : ℕ) where
  abbrev wanted_on : ℕ → Cell
  wanted_on k = wanted_cell (frame_cell shape placement corner k)

  -- the number is the sum that the index makes of a corner
  number-sum : (n : ℕ) → number_to shape placement corner n ≡ sum_below n (λ k. digit_of (wanted_on k) * 3 ^ k)
  number-sum zero = number_to-none shape placement corner
  number-sum (suc n) =
      let before = number-sum n in
      let here : digit_on (frame_cell shape placement corner n) * 3 ^ n ≡ digit_of (wanted_on n) * 3 ^ n = ap (λ (d : ℕ). d * 3 ^ n) (same-digit (frame_cell shape placement corner n)) in
      omega (arith, number_to-more shape placement corner n, before, here)

  module _ (placed : IsPlacedOn shape placement) (number : ℕ) (is : IsCornerNumber shape placement corner number) (position : Position) where
    abbrev stands_on : ℕ → Cell
    stands_on k = cell_at position (point_on corner shape k)

    exact-on : (k : ℕ) → k < 36 → IsExact (frame_cell shape placement corner k)
    exact-on = told-covers shape placement placed corner is.in_range is.sides is.covers

    number-cells : corner_number corner shape position ≡ number → (k : ℕ) → k < 36 → stands_on k ≡ wanted_on k
    number-cells same k lt =
        digit_of-same (stands_on k) (wanted_on k)
        (digits_same 36 (λ i. digit_of (stands_on i)) (λ i. digit_of (wanted_on i)) (λ i. digit_of-small (stands_on i)) (λ i. digit_of-small (wanted_on i))
        (sym (corner_number-places corner shape position) ∙ same ∙ is.is ∙ number-sum 36) k lt)

    cells-number : ((k : ℕ) → k < 36 → stands_on k ≡ wanted_on k) → corner_number corner shape position ≡ number
    cells-number same =
        corner_number-places corner shape position
        ∙ sum_below-same 36 _ (λ k. digit_of (wanted_on k) * 3 ^ k) (λ k lt. ap (λ (c : Cell). digit_of c * 3 ^ k) (same k lt))
        ∙ sym (number-sum 36)
        ∙ sym is.is

    -- the corner has the placement's cells
    abbrev HasCells : Type 0
    HasCells = (column row dx dy : ℕ) → column < 6 → row < 6 → LiesOn shape placement corner column row dx dy → Allows (cell_in placement.grid dx dy) (cell_at position (number_under shape placement dx dy))

    pub number-has : corner_number corner shape position ≡ number → HasCells
    number-has same column row dx dy left high lies =
        let within : row * 6 + column < 36 = omega (arith, left, high) in
        let place = frame-place shape placement placed corner is.in_range is.sides column row left in
        let over : frame_cell shape placement corner (row * 6 + column) ≡ cell_in placement.grid dx dy =
        ap (cell_over placement) (sym place) ∙ lies-cell shape placement placed corner is.in_range is.sides column row dx dy left high lies in
        let exact : IsExact (cell_in placement.grid dx dy) = subst IsExact over (exact-on (row * 6 + column) within) in
        let point : point_on corner shape (row * 6 + column) ≡ number_under shape placement dx dy = ap (number_of shape) (sym place) ∙ sym lies.on_point in
        let stands : cell_at position (number_under shape placement dx dy) ≡ wanted_cell (cell_in placement.grid dx dy) =
        ap (cell_at position) (sym point) ∙ number-cells same (row * 6 + column) within ∙ ap wanted_cell over in
        (allows-wanted (cell_in placement.grid dx dy) exact (cell_at position (number_under shape placement dx dy))).1 stands

    pub has-number : HasCells → corner_number corner shape position ≡ number
    has-number has = cells-number (λ k lt.
        let left : k % 6 < 6 = omega arith in
        let high : k / 6 < 6 = omega (arith, lt) in
        let (dx, dy, lies, exact) = is.covers (k % 6) (k / 6) left high in
        let over = lies-cell shape placement placed corner is.in_range is.sides (k % 6) (k / 6) dx dy left high lies in
        let allowed = has (k % 6) (k / 6) dx dy left high lies in
        ap (cell_at position) (sym lies.on_point)
        ∙ (allows-wanted (cell_in placement.grid dx dy) exact (cell_at position (number_under shape placement dx dy))).0 allowed
        ∙ ap wanted_cell (sym over))

-- ---- one corner in a game
module _ (deltas : Deltas) (placement : Placement) (placed : IsPlacedOn deltas.shape placement) (corner number : ℕ) (is : IsCornerNumber deltas.shape placement corner number) (keys : List (List ℕ)) (are : AreNumbersOfGame deltas keys) where
  -- the corner had the placement's cells at some node
  abbrev pub HadCorner : Type 0
  HadCorner = (n : ℕ) × (n < node_count deltas) × HasCornerOf deltas placement corner n

  pub number-had : Contains (keys_of keys corner) number ↔ HadCorner
  number-had = (
    λ told.
        let had = (are corner is.in_range number).0 told in
        (had.1.0, had.1.1, number-has deltas.shape placement corner placed number is (position_at deltas had.1.0) had.1.2),
    λ h. (are corner is.in_range number).1 (is.sides, (h.0, h.1, has-number deltas.shape placement corner placed number is (position_at deltas h.0) h.2)),
  )

  -- so for a test of its numbers
  pub number-told : (told : Bool) → IsTrue told ↔ Contains (keys_of keys corner) number → IsTrue told ↔ HadIfCovered deltas placement corner
  number-told told has = (λ t sides covers. number-had.0 (has.0 t), λ had. has.1 (number-had.1 (had is.sides is.covers)))

-- ---- all corners that a placement covers
module _ (deltas : Deltas) (images : ImageList) (i : ℕ) (same : deltas.shape ≡ images.shape) (placed : IsPlacedOn images.shape (placement_at images.placements i)) (covered : List CornerNumber) (of : AreCornersOf images i covered) (keys : List (List ℕ)) (are : AreNumbersOfGame deltas keys) where
  abbrev placement : Placement
  placement = placement_at images.placements i

  here : IsPlacedOn deltas.shape placement
  here = subst (λ (s : Shape). IsPlacedOn s placement) (sym same) placed

  own : (k : ℕ) → k < length covered → IsCornerNumber deltas.shape placement (covered_at covered k).corner (covered_at covered k).number
  own k lt = subst (λ (s : Shape). IsCornerNumber s placement (covered_at covered k).corner (covered_at covered k).number) (sym same) (of.sound k no_corner lt).1

  pub all-had : ((k : ℕ) → k < length covered → IsMet keys covered k) → HadCorners deltas placement
  all-had had corner few sides covers =
      let (k, c, lt, read, at) = of.complete corner few (subst HasCorners same sides) (subst (λ (s : Shape). CoversCorner s placement corner) same covers) in
      let is : covered_at covered k ≡ c = get_or_default covered k no_corner c lt ∙ read in
      let number : (covered_at covered k).corner ≡ corner = ap (λ (x : CornerNumber). x.corner) is ∙ at in
      subst (λ (n : ℕ). (m : ℕ) × (m < node_count deltas) × HasCornerOf deltas placement n m) number
      ((number-had deltas placement here (covered_at covered k).corner (covered_at covered k).number (own k lt) keys are).0 (had k lt))

  pub one-had : HadCorners deltas placement → (k : ℕ) → k < length covered → IsMet keys covered k
  one-had had k lt =
      let is = own k lt in
      (number-had deltas placement here (covered_at covered k).corner (covered_at covered k).number is keys are).1 (had (covered_at covered k).corner is.in_range is.sides is.covers)
