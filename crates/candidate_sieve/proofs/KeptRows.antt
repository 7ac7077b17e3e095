-- The games that are kept by the first so many placements.
use Rattle.std.proofs.Common.{◌≡◌, ◌⊎◌, ◌↔◌, ℕ, ◌+◌, ◌-◌, ◌^◌, ◌<◌, ◌≤◌, List, None, Option, Some, ap, bit_and, bit_or, inl, inr, length, refl, slice_index, slice_index_or, sym, ◌∙◌, subst, arith}
use Rattle.std.specs.Borrow.{Bor}
use Rattle.std.specs.Int.{bit_at, bit_not, w64}
use Rattle.std.specs.Option.{IsSome, IsSomeAnd}
use Rattle.std.specs.Prelude.{slice_range}
use Rattle.std.proofs.lemmas.Bool.{cases_eq, cases_lt}
use Rattle.std.proofs.lemmas.Nat.Bits.{bit_at-lt, bit_at-zero, bit_at_not}
use Rattle.kb_geometry.specs.declared.shape.Shape.{Shape}
use Rattle.capture_board.specs.Deltas.{Deltas, node_count}
use Rattle.pattern_images.specs.ImageList.{ImageList, IsPlacedOn, placement_at}
use Rattle.pattern_images.specs.Placements.{Placement}
use Rattle.ready_images.specs.declared.row.Row.{Row}
use Rattle.ready_images.specs.Rows.{AreRowsOf, IsRowIn}
use Rattle.final_index.specs.declared.ever_sets.EverSets.{EverSets}
use Rattle.final_index.specs.Ever.{AreSetsOf}
use Rattle.final_index.specs.Planes.{PlaneGames}
use Rattle.final_index.proofs.KeptBits.{and-bit, or-bit}
use Rattle.candidate_sieve.specs.Candidates.{MeetsCells}
use Rattle.candidate_sieve.specs.Kept.{HadCorners, IsKeptBy, WereAllowed}
use Rattle.candidate_sieve.specs.KeptWords.{AreAmong, AreKeptOf, AreThose, HasNumbers, IsGameOf, IsInWords}
use Rattle.candidate_sieve.proofs.CellsTold.{meets-were, were-meets}
use Rattle.candidate_sieve.proofs.KeptPlacements.{kept-at, kept-by}
use Rattle.candidate_sieve.proofs.RowsSieved.{sliced-length, sliced-number}

-- ---- bits

-- the games that are there and aren't kept yet
pub left-bit : (present kept g : ℕ) → kept < 2 ^ 64 → g < 64 → (bit_at (bit_and present (bit_not w64 kept)) g ≡ 1) ↔ ((bit_at present g ≡ 1) × ¬ (bit_at kept g ≡ 1))
left-bit present kept g fits lt =
    let both = and-bit present (bit_not w64 kept) g in
    let turned : bit_at (bit_not w64 kept) g ≡ 1 - bit_at kept g = bit_at_not w64 kept g fits lt in (
      λ e. let t = both.0 e in (t.0, λ one. omega (arith, t.1, turned, one)),
      λ h. both.1 (h.0, elim (cases_eq (bit_at kept g) 1) [ inl one ↦ absurd (h.1 one) | inr other ↦ omega (arith, turned, other, bit_at-lt kept g) ]),
    )

-- ---- the games of the words of some placements

module _ (shape : Shape) (placements : List Placement) (numbers words : List ℕ) (before : ℕ) (corners : List (Bor (List (List ℕ)))) where
  -- one of the first so many placements has the game, of which each corner had its cells
  abbrev IsMetTo : ℕ → ℕ → Deltas → Type 0
  IsMetTo count g changes = (k : ℕ) × (k < count) × (bit_at (slice_index words k) g ≡ 1) × HadCorners changes (placement_at placements (slice_index numbers k))

  pub record AreMetTo (count word : ℕ) : Type 0 where
    pub exact : (g : ℕ) (changes : Deltas) → g < 64 → changes.shape ≡ shape → HasNumbers corners g changes → (bit_at word g ≡ 1) ↔ ((bit_at before g ≡ 1) ⊎ IsMetTo count g changes)
    pub among : (g : ℕ) → g < 64 → bit_at word g ≡ 1 → (bit_at before g ≡ 1) ⊎ IsInWords words g

  pub met-start : AreMetTo 0 before
  met-start = record {
    exact = λ g changes lt same numbers. (λ e. inl e, λ h. elim h [ inl was ↦ was | inr is ↦ absurd (omega (arith, is.1)) ]);
    among = λ g lt e. inl e;
  }

  module _ (count word new : ℕ) (within : count < length words) (fits : word < 2 ^ 64) (so_far : AreMetTo count word)
      (those : AreThose shape corners (λ changes. HadCorners changes (placement_at placements (slice_index numbers count))) (bit_and (slice_index words count) (bit_not w64 word)) new) (among : AreAmong new (bit_and (slice_index words count) (bit_not w64 word))) where
    -- the games of the next placement's word, of which those that were met already aren't asked
    new-in : (g : ℕ) → g < 64 → bit_at new g ≡ 1 → bit_at (slice_index words count) g ≡ 1
    new-in g lt e = ((left-bit (slice_index words count) word g fits lt).0 (among g lt e)).0

    met-more : (g : ℕ) (changes : Deltas) → (k : ℕ) × (k < count) × (bit_at (slice_index words k) g ≡ 1) × HadCorners changes (placement_at placements (slice_index numbers k)) → IsMetTo (count + 1) g changes
    met-more g changes t = (t.0, omega (arith, t.1), t.2, t.3)

    to-new : (g : ℕ) (changes : Deltas) → g < 64 → changes.shape ≡ shape → HasNumbers corners g changes → IsMetTo (count + 1) g changes → bit_at (bit_or word new) g ≡ 1
    to-new g changes lt same has h =
        let both = or-bit word new g in
        elim (cases_lt h.0 count) [
          | inl low ↦ both.1 (inl ((so_far.exact g changes lt same has).1 (inr (h.0, low, h.2, h.3))))
          | inr from ↦ elim (cases_eq (bit_at word g) 1) [
            | inl was ↦ both.1 (inl was)
            | inr other ↦
                let here : h.0 ≡ count = omega (arith, h.1, from) in
                let asked = (left-bit (slice_index words count) word g fits lt).1 (subst (λ (k : ℕ). bit_at (slice_index words k) g ≡ 1) here h.2, other) in
                both.1 (inr ((those g changes lt same has).1 (asked, subst (λ (k : ℕ). HadCorners changes (placement_at placements (slice_index numbers k))) here h.3)))
          ]
        ]

    pub met-next : AreMetTo (count + 1) (bit_or word new)
    met-next = record {
      exact = λ g changes lt same has.
          let both = or-bit word new g in
          let earlier = so_far.exact g changes lt same has in (
            λ e. elim (both.0 e) [
              | inl was ↦ elim (earlier.0 was) [ inl first ↦ inl first | inr t ↦ inr (met-more g changes t) ]
              | inr is ↦ let t = (those g changes lt same has).0 is in inr (count, omega arith, new-in g lt is, t.1)
            ],
            λ h. elim h [
              | inl first ↦ both.1 (inl (earlier.1 (inl first)))
              | inr t ↦ to-new g changes lt same has t
            ],
          );
      among = λ g lt e. elim ((or-bit word new g).0 e) [
        | inl was ↦ so_far.among g lt was
        | inr is ↦ inr (count, within, new-in g lt is)
      ];
    }

-- ---- sets that are there

some-of : (o : Option EverSets) (P : EverSets → Type 0) → IsSomeAnd o P → IsSome o
some-of None P h = absurd h
some-of (Some sets) P h = refl

-- by the sets of a game each cell of a placement was allowed at some node exactly where they meet it
pub cells-told : (changes : Deltas) (shape : Shape) (placement : Placement) (o : Option EverSets) → 0 < node_count changes → changes.shape ≡ shape → IsSomeAnd o (AreSetsOf changes) → IsPlacedOn shape placement → IsSomeAnd o (λ sets. MeetsCells shape sets placement) ↔ WereAllowed changes placement
cells-told changes shape placement None some same are placed = absurd are
cells-told changes shape placement (Some sets) some same are placed = (
  λ meets. meets-were changes sets are placement some (subst (λ (s : Shape). MeetsCells s sets placement) (sym same) meets),
  λ were. subst (λ (s : Shape). MeetsCells s sets placement) same (were-meets changes sets are placement (subst (λ (s : Shape). IsPlacedOn s placement) (sym same) placed) were),
)

-- the placements of a row are among those of the images
pub part-in_range : (images : ImageList) (numbers : List ℕ) → ((k : ℕ) → k < length numbers → slice_index numbers k < length images.placements) → (row : Row) → IsRowIn images numbers row → (part : List ℕ) → part ≡ slice_range numbers row.start (row.start + row.count) →
    (k : ℕ) → k < length part → slice_index part k < length images.placements
part-in_range images numbers in_range row is part same k lt =
    let below : k < row.count = omega (arith, lt, ap length same, sliced-length numbers row.start row.count is.within) in
    let at : slice_index part k ≡ slice_index numbers (row.start + k) = ap (λ (ns : List ℕ). slice_index ns k) same ∙ sliced-number numbers row.start row.count k below in
    omega (arith, at, in_range (row.start + k) (omega (arith, is.within, below)))

-- ---- the placements so far

module _ (images : ImageList) (planes : PlaneGames) (corners : List (Bor (List (List ℕ)))) (numbers : List ℕ) where
  -- one of the first so many placements of the list keeps the game with these changes
  abbrev pub IsKeptTo : ℕ → Deltas → Type 0
  IsKeptTo count changes = (k : ℕ) × (k < count) × IsKeptBy changes (placement_at images.placements (slice_index numbers k))

  pub record AreKeptTo (count word : ℕ) : Type 0 where
    pub exact : (g : ℕ) (changes : Deltas) → g < 64 → IsGameOf planes corners g changes → (bit_at word g ≡ 1) ↔ IsKeptTo count changes
    pub there : (g : ℕ) → g < 64 → bit_at word g ≡ 1 → IsSome (slice_index_or planes.games g None)

  pub kept-start : AreKeptTo 0 0
  kept-start = record {
    exact = λ g changes lt game. (λ e. absurd (omega (arith, e, bit_at-zero g)), λ h. absurd (omega (arith, h.1)));
    there = λ g lt e. absurd (omega (arith, e, bit_at-zero g));
  }

  module _ (present : ℕ) (told : (g : ℕ) → g < 64 → (bit_at present g ≡ 1) ↔ IsSome (slice_index_or planes.games g None)) where
    pub is-there : (g : ℕ) (changes : Deltas) → g < 64 → IsGameOf planes corners g changes → bit_at present g ≡ 1
    is-there g changes lt game = (told g lt).1 (some-of (slice_index_or planes.games g None) (AreSetsOf changes) game.sets)

    -- ---- all rows, or as many as it takes

    module _ (rows : List Row) (made : AreRowsOf images numbers rows) (word : ℕ) where
      kept-of : (count : ℕ) (changes : Deltas) → count ≤ length numbers → IsKeptTo count changes → (k : ℕ) × (k < length numbers) × IsKeptBy changes (placement_at images.placements (slice_index numbers k))
      kept-of count changes few (k, lt, by) = (k, omega (arith, few, lt), by)

      pub kept-all : AreKeptTo (length numbers) word → AreKeptOf planes images.placements corners word
      kept-all so_far = record {
        exact = λ g changes lt game.
            let told = so_far.exact g changes lt game in (
              λ e. let (k, below, by) = told.0 e in kept-by changes images.placements (slice_index numbers k) (made.in_range k below) by,
              λ kept.
                  let (i, below, by) = kept-at changes images.placements kept in
                  let (k, within, at) = made.complete i below in
                  told.1 (k, within, subst (λ (n : ℕ). IsKeptBy changes (placement_at images.placements n)) (sym at) by),
            );
        there = so_far.there;
      }

      -- where no game is left, the rest of the rows keeps none more
      pub kept-early : (count : ℕ) → count ≤ length numbers → word < 2 ^ 64 → bit_and present (bit_not w64 word) ≡ 0 → AreKeptTo count word → AreKeptOf planes images.placements corners word
      kept-early count few fits none so_far = record {
        exact = λ g changes lt game. (
          λ e. let (k, below, by) = (so_far.exact g changes lt game).0 e in kept-by changes images.placements (slice_index numbers k) (made.in_range k (omega (arith, few, below))) by,
          λ kept. elim (cases_eq (bit_at word g) 1) [
            | inl was ↦ was
            | inr other ↦
                let bit = (left-bit present word g fits lt).1 (is-there g changes lt game, other) in
                absurd (omega (arith, bit, ap (λ (w : ℕ). bit_at w g) none, bit_at-zero g))
          ],
        );
        there = so_far.there;
      }
