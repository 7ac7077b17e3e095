-- What the order of stones tells of placements.
use Rattle.std.proofs.Common.{◌≡◌, ◌≢◌, ℕ, ◌+◌, ◌<◌, ◌≤◌, List, length, slice_index_or, Option, None, Some, sym, ap, ◌∙◌, subst, subst₂, arith}
use Rattle.std.specs.Borrow.{Bor}
use Rattle.std.specs.Int.{bit_at}
use Rattle.std.specs.Prelude.{All, IfSome}
use Rattle.kb_geometry.specs.declared.shape.Shape.{Shape}
use Rattle.kb_geometry.specs.declared.stone.Cell.{Cell}
use Rattle.kb_geometry.specs.declared.stone.Cell.TheVariants as stone
use Rattle.kb_geometry.specs.Board.{point_count}
use Rattle.kb_geometry.specs.Capture.{cell_at}
use Rattle.capture_board.specs.Deltas.{Deltas, node_count, position_at}
use Rattle.pattern_images.specs.declared.cell.PatternCell.{PatternCell}
use Rattle.pattern_images.specs.declared.cell.PatternCell.TheVariants as kind
use Rattle.pattern_images.specs.Grid.{cell_in}
use Rattle.pattern_images.specs.Holds.{Allows, Holds, number_under}
use Rattle.pattern_images.specs.ImageList.{IsPlacedOn}
use Rattle.pattern_images.specs.Placements.{Placement}
use Rattle.ready_images.specs.declared.pair.Pair.{Pair}
use Rattle.ready_images.specs.Pairs.{IsPairBelow}
use Rattle.ready_images.specs.Wants.{IsWantIn, base_of, rank_of}
use Rattle.ready_images.proofs.WantsOfPlacements.{number_under-base, number_under-on_board}
use Rattle.final_index.specs.Order.{HasOrderOf, MayHaveStood, OrderGames}
use Rattle.candidate_sieve.specs.Ordered.{ArePairsBelow, HadInOrder, IsCutInOrder, StandsInOrder, no_pair}

-- a cell that must be a stone allows no empty point
stone-allowed : (cell : PatternCell) (c : Cell) → rank_of cell ≡ 0 → Allows cell c → c ≢ stone.Empty
stone-allowed kind.Empty c rank allows = absurd (omega (arith, rank))
stone-allowed kind.Black c rank allows = λ e. absurd cc
stone-allowed kind.White c rank allows = λ e. absurd cc
stone-allowed kind.NotWhite c rank allows = absurd (omega (arith, rank))
stone-allowed kind.NotBlack c rank allows = absurd (omega (arith, rank))
stone-allowed kind.Any c rank allows = absurd (omega (arith, rank))

module _ (deltas : Deltas) (order : OrderGames) (placement : Placement) (g n : ℕ) (same : deltas.shape ≡ order.shape) (has : HasOrderOf deltas order g) (placed : IsPlacedOn deltas.shape placement) (lt : n < node_count deltas) (holds : Holds deltas.shape (position_at deltas n) placement) where
  abbrev start : ℕ
  start = base_of deltas.shape placement

  -- a cell of the placement stands on a point of the board, which it allows
  on-point : (offset : ℕ) (cell : PatternCell) → IsWantIn deltas.shape placement.grid (record { offset = offset; cell = cell }) → (start + offset < point_count deltas.shape) × Allows cell (cell_at (position_at deltas n) (start + offset))
  on-point offset cell (dx, dy, in_cols, in_rows, (at, is)) =
      let here : number_under deltas.shape placement dx dy ≡ start + offset = number_under-base deltas.shape placement placed dx dy ∙ ap (λ (i : ℕ). start + i) (sym at) in (
        omega (arith, number_under-on_board deltas.shape placement placed dx dy in_cols in_rows, here),
        subst (λ (c : PatternCell). Allows c (cell_at (position_at deltas n) (start + offset))) (sym is)
            (subst (λ (p : ℕ). Allows (cell_in placement.grid dx dy) (cell_at (position_at deltas n) p)) here (holds dx dy in_cols in_rows)),
      )

  pub stands-in-order : StandsInOrder order g deltas.shape placement
  stands-in-order pair ((cell, rank, want), empty) =
      let (in_p, allows) = on-point pair.stone cell want in
      let (in_q, none) = on-point pair.empty kind.Empty empty in
      has (start + pair.stone) (start + pair.empty)
      (subst (λ (s : Shape). start + pair.stone < point_count s) same in_p) (subst (λ (s : Shape). start + pair.empty < point_count s) same in_q)
      (n, lt, stone-allowed cell (cell_at (position_at deltas n) (start + pair.stone)) rank allows, none)

-- ---- words that are cut

module _ (order : Option (Bor OrderGames)) (base : ℕ) (pairs : List Pair) where
  pub cut-start : (word : ℕ) → IsCutInOrder order base pairs 0 word word
  cut-start word = record { part = λ g e. e; kept = λ g lt e had. e }

  fewer-pairs : (o : Option (Bor OrderGames)) (count g : ℕ) → count ≤ length pairs → IfSome o (λ (b : Bor OrderGames). HadInOrder b.now base pairs (length pairs) g) → IfSome o (λ (b : Bor OrderGames). HadInOrder b.now base pairs count g)
  fewer-pairs None count g few had = tt
  fewer-pairs (Some b) count g few had = λ k lt. had k (omega (arith, lt, few))

  -- a word may be cut for fewer pairs
  pub cut-all : (count : ℕ) (before after : ℕ) → count ≤ length pairs → IsCutInOrder order base pairs count before after → IsCutInOrder order base pairs (length pairs) before after
  cut-all count before after few cut = record {
    part = cut.part;
    kept = λ g lt e had. cut.kept g lt e (fewer-pairs order count g few had);
  }

-- where the order isn't known all stay
pub cut-unknown : (order : Option (Bor OrderGames)) → order ≡ None → (base : ℕ) (pairs : List Pair) (count word : ℕ) → IsCutInOrder order base pairs count word word
cut-unknown order none base pairs count word = record { part = λ g e. e; kept = λ g lt e had. e }

-- one pair more
module _ (order : Option (Bor OrderGames)) (o : Bor OrderGames) (known : order ≡ Some o) (base : ℕ) (pairs : List Pair) (count before mid after : ℕ) (cut : IsCutInOrder order base pairs count before mid) (pair : Pair) (at : slice_index_or pairs count no_pair ≡ pair) where
  -- what is had by so many pairs
  abbrev IsHad : ℕ → ℕ → Option (Bor OrderGames) → Type 0
  IsHad n g q = IfSome q (λ (b : Bor OrderGames). HadInOrder b.now base pairs n g)

  pub cut-more : ((g : ℕ) → bit_at after g ≡ 1 → bit_at mid g ≡ 1) → ((g : ℕ) → g < 64 → bit_at mid g ≡ 1 → MayHaveStood o.now g (base + pair.stone) (base + pair.empty) → bit_at after g ≡ 1) → IsCutInOrder order base pairs (count + 1) before after
  cut-more part kept = record {
    part = λ g e. cut.part g (part g e);
    kept = λ g lt e had.
        let all : HadInOrder o.now base pairs (count + 1) g = subst (IsHad (count + 1) g) known had in
        let now = subst (λ (q : Pair). MayHaveStood o.now g (base + q.stone) (base + q.empty)) at (all count (omega arith)) in
        let before-it : HadInOrder o.now base pairs count g = λ k less. all k (omega (arith, less)) in
        kept g lt (cut.kept g lt e (subst (IsHad count g) (sym known) before-it)) now;
  }

-- the pairs of a row lead to points of the boards of the order
pub pairs-below : (shape : Shape) (order : Option (Bor OrderGames)) → IfSome order (λ (o : Bor OrderGames). o.now.shape ≡ shape) → (base count n : ℕ) (pairs : List Pair) → n ≡ count → All (IsPairBelow (point_count shape) base count) pairs →
    IfSome order (λ (o : Bor OrderGames). ArePairsBelow (point_count o.now.shape) base pairs n)
pairs-below shape None same base count n pairs is all = tt
pairs-below shape (Some o) same base count n pairs is all =
    subst (λ (s : Shape). ArePairsBelow (point_count s) base pairs n) (sym same) (subst (λ (m : ℕ). ArePairsBelow (point_count shape) base pairs m) (sym is) all)

-- a pair of a row leads to points of the boards of the order
pub pair-below : (order : Option (Bor OrderGames)) (o : Bor OrderGames) → order ≡ Some o → (base n : ℕ) (pairs : List Pair) → IfSome order (λ (b : Bor OrderGames). ArePairsBelow (point_count b.now.shape) base pairs n) →
    (k : ℕ) → k < length pairs → IsPairBelow (point_count o.now.shape) base n (slice_index_or pairs k no_pair)
pair-below order o known base n pairs all k lt =
    subst (λ (q : Option (Bor OrderGames)). IfSome q (λ (b : Bor OrderGames). ArePairsBelow (point_count b.now.shape) base pairs n)) known all k no_pair lt

-- the points of a pair for a placement further along the row
pub pair-further : (order : OrderGames) (g base i stone empty : ℕ) → MayHaveStood order g (base + i + stone) (base + i + empty) → MayHaveStood order g (base + stone + i) (base + empty + i)
pair-further order g base i stone empty stood =
    let at : base + i + stone ≡ base + stone + i = omega arith in
    let beside : base + i + empty ≡ base + empty + i = omega arith in
    subst₂ (λ (p q : ℕ). MayHaveStood order g p q) at beside stood
