-- The games of a word of which each corner that a placement covers had its cells.
use Rattle.std.proofs.Common.{◌≡◌, ◌≢◌, ◌↔◌, ℕ, ◌+◌, ◌<◌, ◌≤◌, Contains, List, Some, get_or, inl, inr, length, refl, sym, ◌∙◌, subst, arith}
use Rattle.std.specs.Borrow.{Bor}
use Rattle.std.specs.Int.{bit_at}
use Rattle.std.specs.List.{slice_get}
use Rattle.std.proofs.lemmas.Bool.{cases_eq}
use Rattle.std.proofs.lemmas.Option.{get_or_from_slice_get, slice_get_within}
use Rattle.pattern_images.specs.ImageList.{ImageList, IsPlacedOn, placement_at}
use Rattle.corner_index.specs.Corners.{keys_of}
use Rattle.ready_images.specs.declared.corner_number.CornerNumber.{CornerNumber}
use Rattle.ready_images.specs.Corners.{AreCornersOf}
use Rattle.candidate_sieve.specs.Kept.{HadCorners}
use Rattle.candidate_sieve.specs.KeptWords.{AreAmong, AreThose, HadKey}
use Rattle.candidate_sieve.proofs.CornersTold.{IsMet, all-had, covered_at, one-had}

-- ---- the games with a number

-- the games before a place are asked, and those from it on are as before
pub record AreAskedTo (corners : List (Bor (List (List ℕ)))) (corner key games at left : ℕ) : Type 0 where
  pub those : (g : ℕ) (keys : Bor (List (List ℕ))) → g < at → slice_get corners g ≡ Some keys → (bit_at left g ≡ 1) ↔ ((bit_at games g ≡ 1) × Contains (keys_of keys.now corner) key)
  pub rest : (g : ℕ) → at ≤ g → g < 64 → bit_at left g ≡ bit_at games g
  pub among : AreAmong left games

module _ (corners : List (Bor (List (List ℕ)))) (corner key games : ℕ) where
  pub asked-start : AreAskedTo corners corner key games 0 games
  asked-start = record { those = λ g keys lt. absurd (omega (arith, lt)); rest = λ g le lt. refl; among = λ g lt e. e }

  module _ (at left new : ℕ) (here : Bor (List (List ℕ))) (low : at < 64) (is : here ≡ get_or corners at here) (so_far : AreAskedTo corners corner key games at left)
      (told : (bit_at new at ≡ 1) ↔ ((bit_at left at ≡ 1) × Contains (keys_of here.now corner) key)) (others : (g : ℕ) → g < 64 → g ≢ at → bit_at new g ≡ bit_at left g) where
    asked-here : (keys : Bor (List (List ℕ))) → slice_get corners at ≡ Some keys → (bit_at new at ≡ 1) ↔ ((bit_at games at ≡ 1) × Contains (keys_of keys.now corner) key)
    asked-here keys there =
        let same : here ≡ keys = is ∙ get_or_from_slice_get corners at keys here there in
        let said = subst (λ (k : Bor (List (List ℕ))). (bit_at new at ≡ 1) ↔ ((bit_at left at ≡ 1) × Contains (keys_of k.now corner) key)) same told in
        let as_before : bit_at left at ≡ bit_at games at = so_far.rest at (omega arith) low in (
          λ e. let t = said.0 e in (sym as_before ∙ t.0, t.1),
          λ t. said.1 (as_before ∙ t.0, t.1),
        )

    pub asked-next : AreAskedTo corners corner key games (at + 1) new
    asked-next = record {
      those = λ g keys lt there. elim (cases_eq g at) [
        | inl same ↦
            subst (λ (n : ℕ). (bit_at new n ≡ 1) ↔ ((bit_at games n ≡ 1) × Contains (keys_of keys.now corner) key)) (sym same)
            (asked-here keys (subst (λ (n : ℕ). slice_get corners n ≡ Some keys) same there))
        | inr other ↦
            let same = others g (omega (arith, lt, low)) other in
            let before = so_far.those g keys (omega (arith, lt, other)) there in
            (λ e. before.0 (sym same ∙ e), λ t. same ∙ before.1 t)
      ];
      rest = λ g le lt. others g lt (λ same. absurd (omega (arith, le, same))) ∙ so_far.rest g (omega (arith, le)) lt;
      among = λ g lt e. elim (cases_eq g at) [
        | inl same ↦ so_far.among g lt (subst (λ (n : ℕ). bit_at left n ≡ 1) (sym same) (told.0 (subst (λ (n : ℕ). bit_at new n ≡ 1) same e)).0)
        | inr other ↦ so_far.among g lt (sym (others g lt other) ∙ e)
      ];
    }

  pub asked-end : (at left : ℕ) → length corners ≤ at → AreAskedTo corners corner key games at left → HadKey corners corner key games left
  asked-end at left all so_far g keys lt there = so_far.those g keys (omega (arith, all, slice_get_within corners g keys there)) there

-- ---- the corners that a placement covers

-- of the games those are left of which the first so many of these corners had their numbers
pub record AreLeftBy (corners : List (Bor (List (List ℕ)))) (covered : List CornerNumber) (games count left : ℕ) : Type 0 where
  pub those : (g : ℕ) (keys : Bor (List (List ℕ))) → g < 64 → slice_get corners g ≡ Some keys → (bit_at left g ≡ 1) ↔ ((bit_at games g ≡ 1) × ((k : ℕ) → k < count → IsMet keys.now covered k))
  pub among : AreAmong left games

module _ (corners : List (Bor (List (List ℕ)))) (covered : List CornerNumber) (games : ℕ) where
  pub left-start : AreLeftBy corners covered games 0 games
  left-start = record { those = λ g keys lt at. (λ e. (e, λ k none. absurd (omega (arith, none))), λ h. h.0); among = λ g lt e. e }

  pub left-next : (count left new : ℕ) (corner : CornerNumber) → covered_at covered count ≡ corner → AreLeftBy corners covered games count left → HadKey corners corner.corner corner.number left new → AreAmong new left → AreLeftBy corners covered games (count + 1) new
  left-next count left new corner is so_far had among = record {
    those = λ g keys lt at.
        let before = so_far.those g keys lt at in
        let now = subst (λ (c : CornerNumber). (bit_at new g ≡ 1) ↔ ((bit_at left g ≡ 1) × Contains (keys_of keys.now c.corner) c.number)) (sym is) (had g keys lt at) in (
          λ e.
              let t = now.0 e in
              let was = before.0 t.0 in (
                was.0,
                λ k less. elim (cases_eq k count) [
                  | inl here ↦ subst (IsMet keys.now covered) (sym here) t.1
                  | inr other ↦ was.1 k (omega (arith, less, other))
                ],
              ),
          λ h. now.1 (before.1 (h.0, λ k less. h.1 k (omega (arith, less))), h.1 count (omega arith)),
        );
    among = λ g lt e. so_far.among g lt (among g lt e);
  }

  pub left-end : (count left : ℕ) → count ≡ length covered → AreLeftBy corners covered games count left → (images : ImageList) (i : ℕ) → AreCornersOf images i covered → IsPlacedOn images.shape (placement_at images.placements i) → AreThose images.shape corners (λ changes. HadCorners changes (placement_at images.placements i)) games left
  left-end count left all so_far images i of placed g changes lt same numbers =
      let told = so_far.those g numbers.keys lt numbers.at in (
        λ e. let t = told.0 e in (t.0, all-had changes images i same placed covered of numbers.keys.now numbers.are (λ k less. t.1 k (omega (arith, less, all)))),
        λ h. told.1 (h.0, λ k less. one-had changes images i same placed covered of numbers.keys.now numbers.are h.1 k (omega (arith, less, all))),
      )
