-- Versions that get the segments of an import, one after another.
use Rattle.std.proofs.Common.{◌≡◌, inl, inr, ℕ, ◌+◌, ◌-◌, ◌^◌, ◌<◌, ◌≤◌, List, [], ◌∷◌, ◌++◌, Option, length, length-append, length-drop, refl, sym, ap, ◌∙◌, append_assoc, append-nil, arith}
use Rattle.std.proofs.lemmas.Bool.{cases_lt}
use Rattle.std.proofs.lemmas.List.{nil_from_length}
use Rattle.kb_edges.specs.Files.{File}
use Rattle.node_position.specs.Games.{Game}
use Rattle.version_publisher.specs.Contents.{items_in}
use Rattle.version_publisher.specs.declared.state.VersionState.{VersionState}
use Rattle.import_work.specs.Course.{trees_in}
use Rattle.import_work.specs.Imports.{ImportState, IsStep, nothing, one_more}
use Rattle.import_work.specs.Log.{Segment, games_of_segments}
use Rattle.import_work.specs.Outcome.{counts_of}
use Rattle.import_work.specs.Rooms.{AreAdded}
use Rattle.import_work.specs.declared.outcome.Counts.{Counts}
use Rattle.import_work.proofs.GivenSegments.{GoesOn, goes_on}
use Rattle.import_work.proofs.RoomLemmas.{counts_of-more, length-trees}
use Rattle.import_work.proofs.SegmentLemmas.{games_of_segments-append}
use Rattle.import_segments.specs.Stores.{HasFewGames, HasTaken, IsPushed}

-- the items of a version's parts are the games of segments
pub items_in-games_of_segments : (segments : List Segment) → items_in segments ≡ games_of_segments segments
items_in-games_of_segments [] = refl
items_in-games_of_segments (s ∷ segments) = ap (λ gs. s ++ gs) (items_in-games_of_segments segments)

-- no segment yet
pub IsPushed-none : (version : VersionState Game) → IsPushed version version []
IsPushed-none version = record { number = omega arith; parts = sym (append-nil version.parts) }

-- one segment more
pub IsPushed-more : (before now after : VersionState Game) (segments : List Segment) (s : Segment) → IsPushed before now segments → after.number ≡ now.number + 1 → after.parts ≡ now.parts ++ s ∷ [] → IsPushed before after (segments ++ s ∷ [])
IsPushed-more before now after segments s h number parts = record {
  number = rw length-append (omega (arith, number, h.number));
  parts = parts ∙ ap (λ ps. ps ++ s ∷ []) h.parts ∙ append_assoc before.parts segments (s ∷ []);
}

-- the games of a version with segments more
pub games_pushed : (before after : VersionState Game) (segments : List Segment) → IsPushed before after segments → items_in after.parts ≡ items_in before.parts ++ games_of_segments segments
games_pushed before after segments h =
    ap items_in h.parts ∙ items_in-games_of_segments (before.parts ++ segments) ∙ games_of_segments-append before.parts segments
    ∙ ap (λ gs. gs ++ games_of_segments segments) (sym (items_in-games_of_segments before.parts))

-- nothing is taken yet
pub HasTaken-none : (told : Option (List File)) (batch : ℕ) (start : ImportState) (version : VersionState Game) (first : ℕ) → HasTaken told batch start start version version first first
HasTaken-none told batch start version first = record { segments = []; given = nothing; pushed = IsPushed-none version }

module _ (told : Option (List File)) (batch : ℕ) (between now : ImportState) (segment : Segment) (before last : ℕ) (version after : VersionState Game) (s : IsStep told batch between now segment before last) (counted : between.counts ≡ counts_of (trees_in (items_in version.parts))) (few : HasFewGames between.counts) where
  -- one segment more is taken
  pub HasTaken-more : (start : ImportState) (at_first : VersionState Game) (first : ℕ) → HasTaken told batch start between at_first version first before → after.number ≡ version.number + 1 → after.parts ≡ version.parts ++ segment ∷ [] → HasTaken told batch start now at_first after first last
  HasTaken-more start at_first first h number parts = record {
    segments = h.segments ++ segment ∷ [];
    given = one_more now segment last h.given s;
    pushed = IsPushed-more at_first version after h.segments segment h.pushed number parts;
  }

  step : GoesOn batch between now segment
  step = goes_on told batch between now segment before last s

  added : AreAdded between.counts now.counts (trees_in segment)
  added = step.counts

  counts_then : now.counts.games ≡ length (items_in version.parts) + length segment
  counts_then =
      let had : between.counts.games ≡ length (items_in version.parts) = ap (λ (c : Counts). c.games) counted ∙ length-trees (items_in version.parts) in
      let more : now.counts.games ≡ between.counts.games + length segment = ap (λ (c : Counts). c.games) added ∙ ap (λ n. between.counts.games + n) (length-trees segment) in
      omega (arith, had, more)

  -- few games are counted then
  pub few_then : HasFewGames now.counts
  few_then = elim (cases_lt 0 (length segment)) [
    | inl some ↦ (step.room (λ none. omega (arith, some, ap length none))).0
    | inr none ↦
        let had : between.counts.games ≡ length (items_in version.parts) = ap (λ (c : Counts). c.games) counted ∙ length-trees (items_in version.parts) in
        omega (arith, counts_then, had, none, few)
  ]

  -- there is room for the segment
  pub room_to_push : length (items_in version.parts) + length segment ≤ 400000
  room_to_push = omega (arith, counts_then, few_then)

  -- the counts are those of the version with it
  pub counted_then : after.parts ≡ version.parts ++ segment ∷ [] → now.counts ≡ counts_of (trees_in (items_in after.parts))
  counted_then parts =
      let one : IsPushed version (record { number = version.number + 1; parts = after.parts }) (segment ∷ []) = record { number = omega arith; parts = parts } in
      counts_of-more between.counts now.counts (items_in version.parts) segment (items_in after.parts) counted added
      (games_pushed version (record { number = version.number + 1; parts = after.parts }) (segment ∷ []) one ∙ ap (λ gs. items_in version.parts ++ gs) (append-nil segment))

  -- a name fewer is left
  pub number_then : 1 ≤ batch → after.number ≡ version.number + 1 → version.number + length between.left < 2 ^ 64 → after.number + length now.left < 2 ^ 64
  number_then any number below =
      let rest : length now.left ≡ length between.left - batch = ap length step.left ∙ length-drop batch between.left in
      omega (arith, rest, number, below, some_left, any)
    where
      some_left : 0 < length between.left
      some_left = elim (cases_lt 0 (length between.left)) [
        | inl some ↦ some
        | inr none ↦ absurd (step.some (nil_from_length between.left (omega (arith, none))))
      ]
