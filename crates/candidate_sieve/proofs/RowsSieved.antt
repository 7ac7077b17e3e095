-- The games of the placements of a row, by its words.
use Rattle.std.proofs.Common.{◌≡◌, ◌↔◌, ℕ, ◌+◌, ◌-◌, ◌<◌, ◌≤◌, List, Option, None, Some, drop, length, slice_index, slice_index_or, ap, sym, ◌∙◌, subst, arith}
use Rattle.std.specs.Borrow.{Bor}
use Rattle.std.specs.Int.{bit_at}
use Rattle.std.specs.Option.{IsSome}
use Rattle.std.specs.Prelude.{All, IfSome, slice_range}
use Rattle.std.proofs.lemmas.List.{get_or-drop, get_or-take, length-drop, length-take-le}
use Rattle.kb_geometry.specs.declared.shape.Shape.{Shape}
use Rattle.pattern_images.specs.Grid.{Grid}
use Rattle.pattern_images.specs.ImageList.{AreImages, ImageList, IsPlacedOn, grid_at, no_placement, placement_at}
use Rattle.pattern_images.specs.Placements.{Placement}
use Rattle.ready_images.specs.declared.row.Row.{Row}
use Rattle.ready_images.specs.declared.want.Want.{Want}
use Rattle.ready_images.specs.declared.pair.Pair.{Pair}
use Rattle.ready_images.specs.Pairs.{IsPairIn}
use Rattle.ready_images.specs.Prepared.{IsPreparedAs}
use Rattle.ready_images.specs.Rows.{IsRowIn}
use Rattle.ready_images.specs.Wants.{AreWantsOf, base_of}
use Rattle.final_index.specs.Planes.{PlaneGames}
use Rattle.candidate_sieve.specs.declared.candidates.Candidate.{Candidate}
use Rattle.final_index.specs.Order.{MayHaveStood, OrderGames}
use Rattle.candidate_sieve.specs.declared.order.SpanOrder.{SpanOrder}
use Rattle.candidate_sieve.specs.BlockGames.{AreAddedFor, HaveEach, IsSieved, numbers_in}
use Rattle.candidate_sieve.specs.Candidates.{IsPossibleIn}
use Rattle.candidate_sieve.specs.Ordered.{HadInOrder, MayStand, no_pair}
use Rattle.candidate_sieve.proofs.CandidateLists.{AreAddedTo, IsTold, added-row}
use Rattle.candidate_sieve.proofs.GamesTold.{possible-told}

-- ---- the part of a list from a place on

pub sliced-length : (xs : List ℕ) (start count : ℕ) → start + count ≤ length xs → length (slice_range xs start (start + count)) ≡ count
sliced-length xs start count within =
    let same : start + count - start ≡ count = omega arith in
    let few : start + count - start ≤ length (drop start xs) = omega (arith, within, length-drop start xs) in
    length-take-le (start + count - start) (drop start xs) few ∙ same

pub sliced-number : (xs : List ℕ) (start count k : ℕ) → k < count → slice_index (slice_range xs start (start + count)) k ≡ slice_index xs (start + k)
sliced-number xs start count k lt = get_or-take (start + count - start) (drop start xs) k 0 (omega (arith, lt)) ∙ get_or-drop start xs k 0

-- ---- a row

module _ (images : ImageList) (are-images : AreImages images) (planes : PlaneGames) (same : images.shape ≡ planes.shape) (numbers : List ℕ) (in_range : (k : ℕ) → k < length numbers → slice_index numbers k < length images.placements)
    (row : Row) (is : IsRowIn images numbers row) (wants : List Want) (are : AreWantsOf images.shape (grid_at images.grids row.class) wants) where
  -- a placement of the row
  abbrev here : ℕ → Placement
  here k = placement_at images.placements (slice_index numbers (row.start + k))

  placed : (k : ℕ) → k < row.count → IsPlacedOn planes.shape (here k)
  placed k lt = subst (λ (s : Shape). IsPlacedOn s (here k)) same (are-images.placed (slice_index numbers (row.start + k)) no_placement (in_range (row.start + k) (omega (arith, is.within, lt))))

  wants-of : (k : ℕ) → k < row.count → AreWantsOf planes.shape (here k).grid wants
  wants-of k lt = subst (λ (s : Shape). AreWantsOf s (here k).grid wants) same (subst (λ (g : Grid). AreWantsOf images.shape g wants) (is.classes k lt).cells are)

  at-base : (k : ℕ) → k < row.count → row.base + k ≡ base_of planes.shape (here k)
  at-base k lt = is.bases k lt ∙ ap (λ (s : Shape). base_of s (here k)) same

  own : (k : ℕ) → k < row.count → IsPreparedAs images (slice_index numbers (row.start + k)) (row.base + k) row.class
  own k lt = record { in_range = in_range (row.start + k) (omega (arith, is.within, lt)); has = is.classes k lt; at_base = is.bases k lt }

  pub row-told : (there : ℕ) (words : List ℕ) → ((g : ℕ) → g < 64 → bit_at there g ≡ 1 → IsSome (slice_index_or planes.games g None)) →
      ((k : ℕ) → k < row.count → HaveEach planes.games (row.base + k) wants there (length wants) (slice_index words k)) →
      (k g : ℕ) → k < row.count → g < 64 → (bit_at (slice_index words k) g ≡ 1) ↔ ((bit_at there g ≡ 1) × IsPossibleIn planes g (here k))
  row-told there words present have k g lt few =
      possible-told planes (here k) (placed k lt) wants (wants-of k lt) (row.base + k) (at-base k lt) there (slice_index words k) present (have k lt) g few

  -- what the order of stones asks of the row
  module _ (order : SpanOrder) (pairs : All (IsPairIn images.shape (grid_at images.grids row.class)) order.pairs.now) where
    -- a placement of the row that stands in order does so by each of the pairs
    in-order : (k : ℕ) → k < row.count → (o : Option (Bor OrderGames)) (g : ℕ) → MayStand o g images.shape (here k) → IfSome o (λ (b : Bor OrderGames). HadInOrder b.now (row.base + k) order.pairs.now (length order.pairs.now) g)
    in-order k lt None g stands = tt
    in-order k lt (Some b) g stands = λ i less.
        let pair : Pair = slice_index_or order.pairs.now i no_pair in
        let own-pair : IsPairIn images.shape (here k).grid pair = subst (λ (grid : Grid). IsPairIn images.shape grid pair) (is.classes k lt).cells (pairs i no_pair less) in
        subst (λ (n : ℕ). MayHaveStood b.now g (n + pair.stone) (n + pair.empty)) (sym (is.bases k lt)) (stands pair own-pair)

    -- the games of a placement's word are those that may have it
    sieved-told : (there : ℕ) → ((g : ℕ) → g < 64 → bit_at there g ≡ 1 → IsSome (slice_index_or planes.games g None)) → (k word : ℕ) → k < row.count → IsSieved planes.games wants there order (row.base + k) word →
        (g : ℕ) → g < 64 → IsTold planes order.order images there (slice_index numbers (row.start + k)) g (bit_at word g ≡ 1)
    sieved-told there present k word lt sieved g few =
        let told = possible-told planes (here k) (placed k lt) wants (wants-of k lt) (row.base + k) (at-base k lt) there sieved.had present sieved.have g few in
        record {
          sound = λ e. told.0 (sieved.cut.part g e);
          complete = λ met stands. sieved.cut.kept g few (told.1 met) (in-order k lt order.order g stands);
        }

    -- the candidates of the row are added
    pub row-added : (there : ℕ) → ((g : ℕ) → g < 64 → bit_at there g ≡ 1 → IsSome (slice_index_or planes.games g None)) →
        ((j k : ℕ) → j < length numbers → k < length numbers → slice_index numbers j ≡ slice_index numbers k → j ≡ k) →
        (old now next : List Candidate) → AreAddedTo planes order.order images there numbers row.start old now →
        (words : List ℕ) → ((k : ℕ) → k < row.count → IsSieved planes.games wants there order (row.base + k) (slice_index words k)) →
        AreAddedFor row (numbers_in numbers row) words now row.count next →
        AreAddedTo planes order.order images there numbers (row.start + row.count) old next
    row-added there present once old now next so_far words sieved added =
        added-row planes order.order images there numbers old once row.start now so_far row (numbers_in numbers row) words row.count next is.within (sliced-number numbers row.start row.count)
        (λ k g lt few. sieved-told there present k (slice_index words k) lt (sieved k lt) g few) own added
