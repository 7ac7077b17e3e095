-- The games of a block that have a placement's cells, in words of bits.
use Rattle.std.proofs.Common.{◌≡◌, ◌≢◌, ℕ, ◌+◌, ◌<◌, ◌≤◌, ◌↔◌, List, Option, None, Some, length, slice_index_or, refl, sym, ◌∙◌, ap, subst, arith, inl, inr}
use Rattle.std.specs.Int.{bit_at}
use Rattle.std.specs.Option.{IsSome, IsSomeAnd}
use Rattle.std.specs.Prelude.{Contains}
use Rattle.std.proofs.lemmas.Bool.{cases_lt, false≢true}
use Rattle.std.proofs.lemmas.List.{get_or_default}
use Rattle.kb_geometry.specs.declared.shape.Shape.{Shape}
use Rattle.kb_geometry.specs.declared.stone.Cell.{Cell}
use Rattle.kb_geometry.specs.declared.stone.Cell.TheVariants as stone
use Rattle.kb_geometry.specs.Board.{point_count}
use Rattle.pattern_images.specs.declared.cell.PatternCell.{PatternCell}
use Rattle.pattern_images.specs.declared.cell.PatternCell.TheVariants as cell
use Rattle.pattern_images.specs.Grid.{cell_in}
use Rattle.pattern_images.specs.Holds.{Allows, number_under}
use Rattle.pattern_images.specs.ImageList.{IsPlacedOn}
use Rattle.pattern_images.specs.Placements.{Placement}
use Rattle.ready_images.specs.declared.want.Want.{Want}
use Rattle.ready_images.specs.Wants.{AreWantsOf, base_of, no_want, rank_of, want_at}
use Rattle.ready_images.proofs.WantsOfPlacements.{number_under-base}
use Rattle.final_index.specs.declared.ever_sets.EverSets.{EverSets}
use Rattle.final_index.specs.Ever.{set_of}
use Rattle.final_index.specs.Planes.{PlaneGames}
use Rattle.candidate_sieve.specs.BlockGames.{AreEverEmpty, HadEach, HadWanted, HaveEach}
use Rattle.candidate_sieve.specs.Candidates.{IsPossibleIn, MeetsCells}

-- ---- the first wants

module _ (games : List (Option EverSets)) (base : ℕ) (wants : List Want) (there : ℕ) where
  pub each-start : HaveEach games base wants there 0 there
  each-start g lt = (λ e. (e, λ k none. absurd (omega (arith, none))), λ h. h.0)

  -- one want more is kept
  pub each-more : (count word next : ℕ) → HaveEach games base wants there count word →
      ((g : ℕ) → g < 64 → (bit_at next g ≡ 1) ↔ ((bit_at word g ≡ 1) × HadWanted games g (want_at wants count) (base + (want_at wants count).offset))) → HaveEach games base wants there (count + 1) next
  each-more count word next so_far kept g lt = (
    λ e.
        let parts = (kept g lt).0 e in
        let was = (so_far g lt).0 parts.0 in (
          was.0,
          λ k below. elim (cases_lt k count) [
            | inl before ↦ was.1 k before
            | inr last ↦
                let here : count ≡ k = omega (arith, below, last) in
                subst (λ (i : ℕ). HadWanted games g (want_at wants i) (base + (want_at wants i).offset)) here parts.1
          ],
        ),
    λ h. (kept g lt).1 ((so_far g lt).1 (h.0, λ k below. h.1 k (omega (arith, below))), h.1 count (omega arith)),
  )

-- one want more is kept in the word for the base
pub each-next : (games : List (Option EverSets)) (base : ℕ) (wants : List Want) (there count word next : ℕ) (want : Want) → want_at wants count ≡ want → HaveEach games base wants there count word →
    ((g : ℕ) → g < 64 → (bit_at next g ≡ 1) ↔ ((bit_at word g ≡ 1) × HadWanted games g want (base + want.offset))) → HaveEach games base wants there (count + 1) next
each-next games base wants there count word next want is so_far kept = each-more games base wants there count word next so_far
    (λ g lt. subst (λ (w : Want). (bit_at next g ≡ 1) ↔ ((bit_at word g ≡ 1) × HadWanted games g w (base + w.offset))) (sym is) (kept g lt))

-- one want more is kept in the word for a point behind the base
pub each-kept : (games : List (Option EverSets)) (base i : ℕ) (wants : List Want) (there count word next : ℕ) (want : Want) → want_at wants count ≡ want → HaveEach games (base + i) wants there count word →
    ((g : ℕ) → g < 64 → (bit_at next g ≡ 1) ↔ ((bit_at word g ≡ 1) × HadWanted games g want (base + want.offset + i))) → HaveEach games (base + i) wants there (count + 1) next
each-kept games base i wants there count word next want is so_far kept = each-more games (base + i) wants there count word next so_far
    (λ g lt. subst (λ (w : Want). (bit_at next g ≡ 1) ↔ ((bit_at word g ≡ 1) × HadWanted games g w (base + i + w.offset))) (sym is)
    (subst (λ (p : ℕ). (bit_at next g ≡ 1) ↔ ((bit_at word g ≡ 1) × HadWanted games g want p)) (omega arith) (kept g lt)))

-- the wants that are left are met by each game of the word
pub each-settled : (games : List (Option EverSets)) (base : ℕ) (wants : List Want) (there count n word : ℕ) → HaveEach games base wants there count word → count ≤ n →
    ((g : ℕ) → g < 64 → bit_at word g ≡ 1 → (k : ℕ) → count ≤ k → k < n → HadWanted games g (want_at wants k) (base + (want_at wants k).offset)) → HaveEach games base wants there n word
each-settled games base wants there count n word so_far few settled g lt = (
  λ e. let was = (so_far g lt).0 e in (
    was.0,
    λ k below. elim (cases_lt k count) [
      | inl before ↦ was.1 k before
      | inr from ↦ settled g lt e k from below
    ],
  ),
  λ h. (so_far g lt).1 (h.0, λ k below. h.1 k (omega (arith, below, few))),
)

-- a cell that allows an empty point has the rank of no stone
empty-rank : (c : PatternCell) → Allows c stone.Empty → 1 ≤ rank_of c
empty-rank cell.Empty allows = omega arith
empty-rank cell.Black allows = absurd cc
empty-rank cell.White allows = absurd cc
empty-rank cell.NotWhite allows = omega arith
empty-rank cell.NotBlack allows = omega arith
empty-rank cell.Any allows = omega arith

rank-empty : (c : PatternCell) → 1 ≤ rank_of c → Allows c stone.Empty
rank-empty cell.Empty some = refl
rank-empty cell.Black some = absurd (omega (arith, some))
rank-empty cell.White some = absurd (omega (arith, some))
rank-empty cell.NotWhite some = λ e. absurd cc
rank-empty cell.NotBlack some = λ e. absurd cc
rank-empty cell.Any some = tt

-- where each point was empty in the games of the word, wants that allow an empty point are met
pub ever_empty-settled : (planes : PlaneGames) (ever_empty base : ℕ) (wants : List Want) (there count word : ℕ) (want : Want) → want_at wants count ≡ want → AreEverEmpty planes ever_empty → ((j k : ℕ) → j < k → k < length wants → rank_of (want_at wants j).cell ≤ rank_of (want_at wants k).cell) → ((k : ℕ) → k < length wants → base + (want_at wants k).offset < point_count planes.shape) →
    HaveEach planes.games base wants there count word → count < length wants → ((g : ℕ) → bit_at word g ≡ 1 → (bit_at ever_empty g ≡ 1) × Allows want.cell stone.Empty) →
    HaveEach planes.games base wants there (length wants) word
ever_empty-settled planes ever_empty base wants there count word want is are in_order on_board so_far within settled =
    each-settled planes.games base wants there count (length wants) word so_far (omega (arith, within))
    (λ g lt e k from below asks.
    let here : 1 ≤ rank_of (want_at wants count).cell = empty-rank (want_at wants count).cell (subst (λ (w : Want). Allows w.cell stone.Empty) (sym is) (settled g e).1) in
    let rank : 1 ≤ rank_of (want_at wants k).cell = elim (cases_lt count k) [
      | inl behind ↦ omega (arith, here, in_order count k behind below)
      | inr last ↦ subst (λ (j : ℕ). 1 ≤ rank_of (want_at wants j).cell) (omega (arith, from, last)) here
    ] in
    (stone.Empty, rank-empty (want_at wants k).cell rank, are g (base + (want_at wants k).offset) lt (settled g e).0 (on_board k below)))

-- ---- a placement's cells by its wants

-- the wants are met by the sets of a game, if there is one
abbrev pub HadEachOf : Option EverSets → ℕ → List Want → ℕ → Type 0
HadEachOf o base wants count = (k : ℕ) → k < count → (want_at wants k).cell ≢ cell.Any →
    (c : Cell) × Allows (want_at wants k).cell c × IsSomeAnd o (λ sets. Contains (set_of sets c) (base + (want_at wants k).offset))

module _ (shape : Shape) (placement : Placement) (placed : IsPlacedOn shape placement) (wants : List Want) (are : AreWantsOf shape placement.grid wants) where
  module _ (sets : EverSets) where
    met-cells : HadEachOf (Some sets) (base_of shape placement) wants (length wants) → MeetsCells shape sets placement
    met-cells had dx dy in_cols in_rows other =
        let (k, w, lt, read, (at, is)) = are.complete dx dy in_cols in_rows other in
        let same : want_at wants k ≡ w = get_or_default wants k no_want w lt ∙ read in
        let pattern : (want_at wants k).cell ≡ cell_in placement.grid dx dy = ap (λ (v : Want). v.cell) same ∙ is in
        let h = had k lt (λ any. other (sym pattern ∙ any)) in
        let point : base_of shape placement + (want_at wants k).offset ≡ number_under shape placement dx dy =
        ap (λ (v : Want). base_of shape placement + v.offset) same ∙ ap (λ (i : ℕ). base_of shape placement + i) at ∙ sym (number_under-base shape placement placed dx dy) in
        (h.0, subst (λ (p : PatternCell). Allows p h.0) pattern h.1, subst (Contains (set_of sets h.0)) point h.2)

    cells-met : MeetsCells shape sets placement → HadEachOf (Some sets) (base_of shape placement) wants (length wants)
    cells-met meets k lt asks =
        let (dx, dy, in_cols, in_rows, (at, is)) = are.sound k no_want lt in
        let h = meets dx dy in_cols in_rows (λ any. asks (is ∙ any)) in
        let point : number_under shape placement dx dy ≡ base_of shape placement + (want_at wants k).offset =
        number_under-base shape placement placed dx dy ∙ ap (λ (i : ℕ). base_of shape placement + i) (sym at) in
        (h.0, subst (λ (p : PatternCell). Allows p h.0) (sym is) h.1, subst (Contains (set_of sets h.0)) point h.2)

  each-possible : (o : Option EverSets) → IsSome o → HadEachOf o (base_of shape placement) wants (length wants) ↔ IsSomeAnd o (λ sets. MeetsCells shape sets placement)
  each-possible None some = absurd (false≢true some)
  each-possible (Some sets) some = (met-cells sets, cells-met sets)

pub possible-told : (planes : PlaneGames) (placement : Placement) → IsPlacedOn planes.shape placement → (wants : List Want) → AreWantsOf planes.shape placement.grid wants → (base : ℕ) → base ≡ base_of planes.shape placement → (there word : ℕ) →
    ((g : ℕ) → g < 64 → bit_at there g ≡ 1 → IsSome (slice_index_or planes.games g None)) → HaveEach planes.games base wants there (length wants) word →
    (g : ℕ) → g < 64 → (bit_at word g ≡ 1) ↔ ((bit_at there g ≡ 1) × IsPossibleIn planes g placement)
possible-told planes placement placed wants are base at there word present have g lt =
    let possible : bit_at there g ≡ 1 → HadEach planes.games base wants (length wants) g ↔ IsPossibleIn planes g placement =
    λ e. subst (λ (b : ℕ). HadEach planes.games b wants (length wants) g ↔ IsPossibleIn planes g placement) (sym at) (each-possible planes.shape placement placed wants are (slice_index_or planes.games g None) (present g lt e)) in (
      λ e. let h = (have g lt).0 e in (h.0, (possible h.0).0 h.1),
      λ h. (have g lt).1 (h.0, (possible h.0).1 h.1),
    )
