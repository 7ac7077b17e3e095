-- The segments that an import gives, one after another, whatever the folder tells.
use Rattle.std.proofs.Common.{◌≡◌, ◌≢◌, inl, inr, ℕ, ◌+◌, ◌<◌, ◌≤◌, List, [], ◌∷◌, ◌++◌, Option, length, length-append, length-drop, drop, append-nil, refl, sym, ap, ◌∙◌, subst, arith}
use Rattle.std.proofs.lemmas.Bool.{cases_lt}
use Rattle.std.proofs.lemmas.List.{map-append, nil_from_length}
use Rattle.std.proofs.lemmas.List.Sums.{sum_by-append}
use Rattle.kb_edges.specs.Files.{File}
use Rattle.import_work.specs.Batches.{games_added, games_told, line_report, line_reports}
use Rattle.import_work.specs.Course.{FileReport, trees_in}
use Rattle.import_work.specs.Imports.{AddsUp, HasGiven, ImportState, IsFileStep, IsStep, games_reported, nothing, of_files, of_made, one_more}
use Rattle.import_work.specs.Log.{Segment, games_of_segments}
use Rattle.import_work.specs.Outcome.{with_games}
use Rattle.import_work.specs.Rooms.{AreAdded, AreCountsWithinLimits}
use Rattle.import_work.proofs.RoomLemmas.{AreAdded-more, AreAdded-none, with_games-none}
use Rattle.import_work.proofs.SegmentLemmas.{games_of_segments-push}
use Rattle.import_work.proofs.Turns.{games_counted}

-- What holds of a step whatever it takes: it goes on with the files that are left, and the counts and
-- the report tell the games that it gives.
pub record GoesOn (batch : ℕ) (before after : ImportState) (segment : Segment) : Type 0 where
  pub some : before.left ≢ []
  pub source : after.source ≡ before.source
  pub line : after.line ≡ before.line
  pub number : after.number ≡ before.number
  pub left : after.left ≡ drop batch before.left
  pub counts : after.counts ≡ with_games before.counts (trees_in segment)
  pub given : after.given ≡ before.given + 1
  pub told : games_reported after.body ≡ games_reported before.body + length segment
  pub room : segment ≢ [] → AreCountsWithinLimits after.counts

module _ (told : Option (List File)) (batch : ℕ) (between now : ImportState) (segment : Segment) (before after : ℕ) where
  told-more : (path : List ℕ) (s : IsFileStep told path batch between now segment before after) → games_reported now.body ≡ games_reported between.body + length segment
  told-more path s =
      let body : games_reported now.body ≡ games_told (line_reports (s.lines ++ s.more)) = ap (λ i. games_reported i.body) s.goes_on in
      let earlier : games_reported between.body ≡ games_told (line_reports s.lines) = ap games_reported s.listed in
      let own : games_told (line_reports s.more) ≡ length segment = games_counted told path between.counts before (line_reports s.more) segment after s.in_turn in
      let lines : games_told (line_reports (s.lines ++ s.more)) ≡ games_told (line_reports s.lines) + games_told (line_reports s.more) =
      ap games_told (map-append line_report s.lines s.more) ∙ sum_by-append (λ (r : FileReport). games_added r.outcome) (line_reports s.lines) (line_reports s.more) in
      omega (arith, body, earlier, own, lines)

  pub goes_on : IsStep told batch between now segment before after → GoesOn batch between now segment
  goes_on (of_files path s) = record {
    some = s.some;
    source = ap (λ i. i.source) s.goes_on;
    line = ap (λ i. i.line) s.goes_on;
    number = ap (λ i. i.number) s.goes_on;
    left = ap (λ i. i.left) s.goes_on;
    counts = ap (λ i. i.counts) s.goes_on;
    given = ap (λ i. i.given) s.goes_on;
    told = told-more path s;
    room = s.room;
  }
  goes_on (of_made games start s still) = record {
    some = s.some;
    source = ap (λ i. i.source) s.goes_on;
    line = ap (λ i. i.line) s.goes_on;
    number = ap (λ i. i.number) s.goes_on;
    left = ap (λ i. i.left) s.goes_on;
    counts = ap (λ i. i.counts) s.goes_on;
    given = ap (λ i. i.given) s.goes_on;
    told = ap (λ i. games_reported i.body) s.goes_on ∙ ap (λ b. games_reported b + length segment) (sym s.told);
    room = s.room;
  }

-- nothing is given yet
AddsUp-start : (start : ImportState) → AddsUp start start []
AddsUp-start start = record {
  source = refl;
  line = refl;
  number = refl;
  counted = AreAdded-none start.counts;
  given = omega arith;
  told = omega arith;
  few = omega arith;
  room = λ some. absurd (some refl);
}

module _ (batch : ℕ) (any : 1 ≤ batch) (start between now : ImportState) (segments : List Segment) (segment : Segment) (h : AddsUp start between segments) (s : GoesOn batch between now segment) where
  counted_then : AreAdded start.counts now.counts (trees_in (games_of_segments (segments ++ segment ∷ [])))
  counted_then =
      AreAdded-more start.counts between.counts now.counts (games_of_segments segments) (games_of_segments (segments ++ segment ∷ [])) h.counted
      (record { added = segment; pushed = games_of_segments-push segments segment; counted = s.counts })

  told_then : games_reported now.body ≡ games_reported start.body + length (games_of_segments (segments ++ segment ∷ []))
  told_then =
      let all : length (games_of_segments (segments ++ segment ∷ [])) ≡ length (games_of_segments segments) + length segment = ap length (games_of_segments-push segments segment) ∙ length-append (games_of_segments segments) segment in
      omega (arith, s.told, h.told, all)

  some_left : 0 < length between.left
  some_left = elim (cases_lt 0 (length between.left)) [
    | inl some ↦ some
    | inr none ↦ absurd (s.some (nil_from_length between.left (omega (arith, none))))
  ]

  few_then : length (segments ++ segment ∷ []) + length now.left ≤ length start.left
  few_then =
      let rest : length now.left ≡ length (drop batch between.left) = ap length s.left in
      let fewer : length (drop batch between.left) < length between.left = rw length-drop (omega (arith, some_left, any)) in
      rw length-append (omega (arith, rest, fewer, h.few))

  room_then : games_of_segments (segments ++ segment ∷ []) ≢ [] → AreCountsWithinLimits now.counts
  room_then some = elim (cases_lt 0 (length segment)) [
    | inl more ↦ s.room (λ none. omega (arith, more, ap length none))
    | inr none ↦
        let empty : segment ≡ [] = nil_from_length segment (omega (arith, none)) in
        let same : games_of_segments (segments ++ segment ∷ []) ≡ games_of_segments segments = games_of_segments-push segments segment ∙ ap (λ gs. games_of_segments segments ++ gs) empty ∙ append-nil (games_of_segments segments) in
        let counts : between.counts ≡ now.counts = sym (s.counts ∙ ap (λ gs. with_games between.counts (trees_in gs)) empty ∙ with_games-none between.counts) in
        subst AreCountsWithinLimits counts (h.room (λ nil. some (same ∙ nil)))
  ]

  AddsUp-more : AddsUp start now (segments ++ segment ∷ [])
  AddsUp-more = record {
    source = s.source ∙ h.source;
    line = s.line ∙ h.line;
    number = s.number ∙ h.number;
    counted = counted_then;
    given = rw length-append (omega (arith, s.given, h.given));
    told = told_then;
    few = few_then;
    room = room_then;
  }

pub adds_up : (told : Option (List File)) (batch : ℕ) (start : ImportState) (first : ℕ) (now : ImportState) (segments : List Segment) (last : ℕ) → 1 ≤ batch → HasGiven told batch start first segments now last → AddsUp start now segments
adds_up told batch start first _ _ _ any nothing = AddsUp-start start
adds_up told batch start first _ _ _ any (one_more {segments = segments} {between = between} {faults = faults} now segment last h s) =
    AddsUp-more batch any start between now segments segment (adds_up told batch start first between segments faults any h) (goes_on told batch between now segment faults last s)

-- an import without a name gives nothing
pub record IsStill (start now : ImportState) (segments : List Segment) (first last : ℕ) : Type 0 where
  pub none : segments ≡ []
  pub same : now ≡ start
  pub faults : last ≡ first

pub none_given : (told : Option (List File)) (batch : ℕ) (start : ImportState) (first : ℕ) (now : ImportState) (segments : List Segment) (last : ℕ) → start.left ≡ [] → HasGiven told batch start first segments now last → IsStill start now segments first last
none_given told batch start first _ _ _ empty nothing = record { none = refl; same = refl; faults = refl }
none_given told batch start first _ _ _ empty (one_more {segments = segments} {between = between} {faults = faults} now segment last h s) =
    let before = none_given told batch start first between segments faults empty h in
    absurd ((goes_on told batch between now segment faults last s).some (ap (λ i. i.left) before.same ∙ empty))
