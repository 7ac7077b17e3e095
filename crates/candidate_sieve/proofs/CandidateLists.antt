-- Candidates that are listed row by row, a placement after the other.
use Rattle.std.proofs.Common.{◌≡◌, ℕ, ◌+◌, ◌<◌, ◌≤◌, ◌↔◌, ◌⊎◌, List, [], ◌∷◌, ◌++◌, Option, None, length, get_or, slice_index, slice_index_or, bit_and, append_assoc, refl, sym, ◌∙◌, ap, subst, arith, inl, inr}
use mathlib.Core.List.{IsPrefix}
use Rattle.std.specs.Borrow.{Bor}
use Rattle.std.specs.Int.{bit_at}
use Rattle.std.specs.Option.{IsSome, IsSomeAnd}
use Rattle.std.specs.Prelude.{◌≢◌, All, AllPairs, Any, Some}
use Rattle.std.proofs.lemmas.Bool.{cases_lt}
use Rattle.std.proofs.lemmas.List.{append-nil, get_or_append_left, get_or_push, length_push}
use Rattle.std.proofs.lemmas.List.Elements.{All-nil, All-push, All-weaker}
use Rattle.std.proofs.lemmas.List.Quantifiers.{all_pairs_push}
use Rattle.std.proofs.lemmas.Nat.Bits.{bit_at-zero}
use Rattle.kb_geometry.proofs.Lists.{Any-kept}
use Rattle.kb_geometry.proofs.Prefixes.{prefix_same, prefix_trans}
use Rattle.pattern_images.specs.ImageList.{ImageList, placement_at}
use Rattle.ready_images.specs.declared.row.Row.{Row}
use Rattle.ready_images.specs.Prepared.{IsPreparedAs}
use Rattle.final_index.specs.declared.ever_sets.EverSets.{EverSets}
use Rattle.final_index.specs.Order.{OrderGames}
use Rattle.final_index.specs.Planes.{PlaneGames}
use Rattle.candidate_sieve.specs.declared.candidates.Candidate.{Candidate}
use Rattle.candidate_sieve.specs.BlockGames.{AreAddedFor, IsAddedFor}
use Rattle.candidate_sieve.specs.BlockGames.AreAddedFor.{nothing, one_more}
use Rattle.candidate_sieve.specs.Candidates.{AreCandidatesAdded, IsPossibleIn, MeetsCells}
use Rattle.candidate_sieve.specs.Ordered.{MayStand}
use Rattle.final_index.proofs.KeptBits.{and-bit}

-- ---- what was in the list stays in front
pub unchanged-behind : (old new : List Candidate) → new ≡ old → IsPrefix old new
unchanged-behind old new same = ([], append-nil old ∙ sym same)

one-behind : (row : Row) (k i games : ℕ) (old new : List Candidate) → IsAddedFor row k i games old new → IsPrefix old new
one-behind row k i games old new (inl none) = unchanged-behind old new none.1
one-behind row k i games old new (inr pushed) = (record { placement = i; base = row.base + k; class = row.class; games = games } ∷ [], sym pushed.1)

pub added-behind : (row : Row) (numbers words : List ℕ) (old : List Candidate) (k : ℕ) (new : List Candidate) → AreAddedFor row numbers words old k new → IsPrefix old new
added-behind row numbers words old _ _ nothing = prefix_same old
added-behind row numbers words old _ next (one_more k now _ so_far last) =
    prefix_trans old now next (added-behind row numbers words old k now so_far) (one-behind row k (slice_index numbers k) (slice_index words k) now next last)

-- ---- some element

Any-last : {X : Type 0} (P : X → Type 0) (xs : List X) (y : X) → P y → Any P (xs ++ y ∷ [])
Any-last P xs y holds = (length xs, y, omega (arith, length_push xs y), get_or_push xs y y (length xs) refl, holds)

Any-cases : {X : Type 0} (P : X → Type 0) (xs : List X) (y : X) → Any P (xs ++ y ∷ []) → Any P xs ⊎ P y
Any-cases P xs y (k, x, lt, is, holds) =
    elim (cases_lt k (length xs)) [
      | inl below ↦ inl (k, x, below, sym (get_or_append_left xs (y ∷ []) x k below) ∙ is, holds)
      | inr last ↦
          let here : length xs ≡ k = omega (arith, lt, last, length_push xs y) in
          inr (subst P (sym (sym (get_or_push xs y x k here) ∙ is)) holds)
    ]

-- ---- the candidates so far

-- a candidate is for the placement, and game g is one of its games
abbrev pub IsFor : ℕ → ℕ → Candidate → Type 0
IsFor i g c = (c.placement ≡ i) × (bit_at c.games g ≡ 1)

-- the candidate is for a placement of the images, with its base and its class
abbrev IsOwn : ImageList → Candidate → Type 0
IsOwn images c = IsPreparedAs images c.placement c.base c.class

-- two candidates are for two placements
abbrev pub IsForAnother : Candidate → Candidate → Type 0
IsForAnother c d = c.placement ≢ d.placement

-- the number is one of the first so many of the list
abbrev pub IsAmong : List ℕ → ℕ → ℕ → Type 0
IsAmong numbers count i = (j : ℕ) × (j < count) × (slice_index numbers j ≡ i)

-- game g is there and its sets meet the placement with a number
abbrev pub IsMet : PlaneGames → ImageList → ℕ → ℕ → ℕ → Type 0
IsMet planes images there i g = (bit_at there g ≡ 1) × IsPossibleIn planes g (placement_at images.placements i)

-- a candidate's game is met, and each one that is met is a candidate's if it may be by the order of stones
pub record IsTold (planes : PlaneGames) (order : Option (Bor OrderGames)) (images : ImageList) (there i g : ℕ) (found : Type 0) : Type 0 where
  pub sound : found → IsMet planes images there i g
  pub complete : IsMet planes images there i g → MayStand order g images.shape (placement_at images.placements i) → found

-- the candidates are, for each of the first placements of the list, games that may have it, and all that
-- may by the order of stones too
pub record AreCandidatesTo (planes : PlaneGames) (order : Option (Bor OrderGames)) (images : ImageList) (there : ℕ) (numbers : List ℕ) (count : ℕ) (found : List Candidate) : Type 0 where
  pub before : All (λ (c : Candidate). IsAmong numbers count c.placement) found
  pub prepared : All (IsOwn images) found
  pub some_game : All (λ (c : Candidate). 0 < c.games) found
  pub distinct : AllPairs IsForAnother found
  pub told : (j g : ℕ) → j < count → g < 64 → IsTold planes order images there (slice_index numbers j) g (Any (IsFor (slice_index numbers j) g) found)

-- the list has gained such candidates
pub record AreAddedTo (planes : PlaneGames) (order : Option (Bor OrderGames)) (images : ImageList) (there : ℕ) (numbers : List ℕ) (count : ℕ) (old new : List Candidate) : Type 0 where
  pub more : List Candidate
  pub added : new ≡ old ++ more
  pub are : AreCandidatesTo planes order images there numbers count more

module _ (planes : PlaneGames) (order : Option (Bor OrderGames)) (images : ImageList) (there : ℕ) (numbers : List ℕ) (old : List Candidate) where
  pub added-start : AreAddedTo planes order images there numbers 0 old old
  added-start = record {
    more = [];
    added = sym (append-nil old);
    are = record { before = All-nil (λ (c : Candidate). IsAmong numbers 0 c.placement); prepared = All-nil (IsOwn images); some_game = All-nil (λ (c : Candidate). 0 < c.games); distinct = λ i j d before lt. absurd (omega (arith, lt)); told = λ j g lt. absurd (omega arith) };
  }

  -- each number stands in the list once
  module _ (once : (j k : ℕ) → j < length numbers → k < length numbers → slice_index numbers j ≡ slice_index numbers k → j ≡ k) where
    module _ (count : ℕ) (within : count < length numbers) (now next : List Candidate) (so_far : AreAddedTo planes order images there numbers count old now) (games : ℕ)
        (told : (g : ℕ) → g < 64 → IsTold planes order images there (slice_index numbers count) g (bit_at games g ≡ 1))
        (row : Row) (k : ℕ) (own : IsPreparedAs images (slice_index numbers count) (row.base + k) row.class) where
      abbrev here : ℕ
      here = slice_index numbers count

      among-more : (i : ℕ) → IsAmong numbers count i → IsAmong numbers (count + 1) i
      among-more i (j, lt, is) = (j, omega (arith, lt), is)

      -- the next number isn't among those so far
      new-number : IsAmong numbers count here → ⊥
      new-number (j, lt, is) =
          let same : j ≡ count = once j count (omega (arith, lt, within)) within is in
          omega (arith, lt, same)

      -- no candidate so far is for the next placement
      not-next : (g : ℕ) → Any (IsFor here g) so_far.more → ⊥
      not-next g (j, c, lt, is, at) =
          let same : (get_or so_far.more j c).placement ≡ here = ap (λ (d : Candidate). d.placement) is ∙ at.0 in
          new-number (subst (IsAmong numbers count) same (so_far.are.before j c lt))

      -- the games of one of the placements so far, and of the next one
      by-place : (Q : ℕ → Type 0) → ((j : ℕ) → j < count → Q j) → Q count → (j : ℕ) → j < count + 1 → Q j
      by-place Q earlier last j lt =
          elim (cases_lt j count) [
            | inl below ↦ earlier j below
            | inr from ↦ let at : count ≡ j = omega (arith, lt, from) in subst Q at last
          ]

      added-none : games ≡ 0 → next ≡ now → AreAddedTo planes order images there numbers (count + 1) old next
      added-none none same = record {
        more = so_far.more;
        added = same ∙ so_far.added;
        are = record {
          before = All-weaker (λ (c : Candidate). IsAmong numbers count c.placement) (λ (c : Candidate). IsAmong numbers (count + 1) c.placement) (λ c. among-more c.placement) so_far.more so_far.are.before;
          prepared = so_far.are.prepared;
          some_game = so_far.are.some_game;
          distinct = so_far.are.distinct;
          told = λ j g lt few. by-place (λ j. IsTold planes order images there (slice_index numbers j) g (Any (IsFor (slice_index numbers j) g) so_far.more))
              (λ j below. so_far.are.told j g below few)
              (record {
                sound = λ h. absurd (not-next g h);
                complete = λ met stands. let one = (told g few).complete met stands in absurd (omega (arith, one, ap (λ (n : ℕ). bit_at n g) none, bit_at-zero g));
              })
              j lt;
        };
      }

      abbrev last_one : Candidate
      last_one = record { placement = here; base = row.base + k; class = row.class; games = games }

      told-more : (j g : ℕ) → j < count + 1 → g < 64 → IsTold planes order images there (slice_index numbers j) g (Any (IsFor (slice_index numbers j) g) (so_far.more ++ last_one ∷ []))
      told-more j g lt few =
          by-place (λ j. IsTold planes order images there (slice_index numbers j) g (Any (IsFor (slice_index numbers j) g) (so_far.more ++ last_one ∷ [])))
          (λ j below. record {
            sound = λ h. elim (Any-cases (IsFor (slice_index numbers j) g) so_far.more last_one h) [
              | inl was ↦ (so_far.are.told j g below few).sound was
              | inr last ↦ absurd (new-number (j, below, sym last.0))
            ];
            complete = λ met stands. Any-kept (IsFor (slice_index numbers j) g) so_far.more last_one ((so_far.are.told j g below few).complete met stands);
          })
          (record {
            sound = λ h. elim (Any-cases (IsFor here g) so_far.more last_one h) [
              | inl was ↦ absurd (not-next g was)
              | inr last ↦ (told g few).sound last.1
            ];
            complete = λ met stands. Any-last (IsFor here g) so_far.more last_one (refl, (told g few).complete met stands);
          })
          j lt

      added-one : 0 < games → next ≡ now ++ last_one ∷ [] → AreAddedTo planes order images there numbers (count + 1) old next
      added-one some pushed = record {
        more = so_far.more ++ last_one ∷ [];
        added = pushed ∙ ap (λ (xs : List Candidate). xs ++ last_one ∷ []) so_far.added ∙ append_assoc old so_far.more (last_one ∷ []);
        are = record {
          before = All-push (λ (c : Candidate). IsAmong numbers (count + 1) c.placement) so_far.more last_one
              (All-weaker (λ (c : Candidate). IsAmong numbers count c.placement) (λ (c : Candidate). IsAmong numbers (count + 1) c.placement) (λ c. among-more c.placement) so_far.more so_far.are.before) (count, omega arith, refl);
          prepared = All-push (IsOwn images) so_far.more last_one so_far.are.prepared own;
          some_game = All-push (λ (c : Candidate). 0 < c.games) so_far.more last_one so_far.are.some_game some;
          distinct = all_pairs_push IsForAnother so_far.more last_one so_far.are.distinct (λ k d lt e. new-number (subst (IsAmong numbers count) e (so_far.are.before k d lt)));
          told = told-more;
        };
      }

      added-more : IsAddedFor row k here games now next → AreAddedTo planes order images there numbers (count + 1) old next
      added-more (inl none) = added-none none.0 none.1
      added-more (inr pushed) = added-one pushed.0 pushed.1

    -- ---- a row of placements

    module _ (start : ℕ) (now : List Candidate) (so_far : AreAddedTo planes order images there numbers start old now) (row : Row) (part words : List ℕ) where
      pub added-row : (n : ℕ) (next : List Candidate) → start + n ≤ length numbers → ((k : ℕ) → k < n → slice_index part k ≡ slice_index numbers (start + k)) →
          ((k g : ℕ) → k < n → g < 64 → IsTold planes order images there (slice_index numbers (start + k)) g (bit_at (slice_index words k) g ≡ 1)) →
          ((k : ℕ) → k < n → IsPreparedAs images (slice_index numbers (start + k)) (row.base + k) row.class) →
          AreAddedFor row part words now n next → AreAddedTo planes order images there numbers (start + n) old next
      added-row n next within same told own nothing = let at : start ≡ start + 0 = omega arith in subst (λ (m : ℕ). AreAddedTo planes order images there numbers m old now) at so_far
      added-row n next within same told own (one_more k before _ those last) =
          let at : start + k + 1 ≡ start + (k + 1) = omega arith in
          subst (λ (m : ℕ). AreAddedTo planes order images there numbers m old next) at
          (added-more (start + k) (omega (arith, within)) before next
          (added-row k before (omega (arith, within)) (λ j lt. same j (omega (arith, lt))) (λ j g lt. told j g (omega (arith, lt))) (λ j lt. own j (omega (arith, lt))) those)
          (slice_index words k) (λ g. told k g (omega arith)) row k (own k (omega arith)) (subst (λ (i : ℕ). IsAddedFor row k i (slice_index words k) before next) (same k (omega arith)) last))

  -- ---- all placements

  some-and : (o : Option EverSets) (P : EverSets → Type 0) → IsSomeAnd o P → IsSome o
  some-and None P h = absurd h
  some-and (Some sets) P h = refl

  module _ (asked present : ℕ) (new : List Candidate) (is : there ≡ bit_and asked present) (on_shape : (g : ℕ) → g < 64 → (bit_at present g ≡ 1) ↔ IsSome (slice_index_or planes.games g None))
      (all : (i : ℕ) → i < length images.placements → IsAmong numbers (length numbers) i) (so_far : AreAddedTo planes order images there numbers (length numbers) old new) where
    -- what is told of the placement with a number
    of-placement : (i g : ℕ) → i < length images.placements → g < 64 → IsTold planes order images there i g (Any (IsFor i g) so_far.more)
    of-placement i g lt few =
        let among = all i lt in
        subst (λ (n : ℕ). IsTold planes order images there n g (Any (IsFor n g) so_far.more)) among.2 (so_far.are.told among.0 g among.1 few)

    -- a game that is asked for is there, if its sets meet the placement
    asked-there : (i g : ℕ) → g < 64 → bit_at asked g ≡ 1 → IsPossibleIn planes g (placement_at images.placements i) → bit_at there g ≡ 1
    asked-there i g few bit possible =
        let present-bit = (on_shape g few).1 (some-and (slice_index_or planes.games g None) (λ sets. MeetsCells planes.shape sets (placement_at images.placements i)) possible) in
        ap (λ (n : ℕ). bit_at n g) is ∙ (and-bit asked present g).1 (bit, present-bit)

    there-asked : (g : ℕ) → bit_at there g ≡ 1 → bit_at asked g ≡ 1
    there-asked g bit = ((and-bit asked present g).0 (sym (ap (λ (n : ℕ). bit_at n g) is) ∙ bit)).0

    pub added-end : AreCandidatesAdded planes order images asked old new
    added-end = record {
      more = so_far.more;
      added = so_far.added;
      are = record {
        prepared = so_far.are.prepared;
        some_game = so_far.are.some_game;
        distinct = so_far.are.distinct;
        sound = λ i g lt few h. let met = (of-placement i g lt few).sound h in (there-asked g met.0, met.1);
        complete = λ i g lt few bit possible stands. (of-placement i g lt few).complete (asked-there i g few bit possible, possible) stands;
      };
    }
