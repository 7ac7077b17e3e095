-- Published parts that are merged from their end.
use Rattle.std.proofs.Common.{◌≡◌, ◌<◌, ◌≤◌, inl, inr, false, true, nat_lt, List, [], ◌∷◌, ◌++◌, fold, length, length-append, refl, reverse, subst, sym, ap, ◌∙◌, append_assoc, append-nil, arith}
use Rattle.std.proofs.lemmas.Bool.{cases_lt, cond-false, cond-true, le-ltb, lt-ltb}
use Rattle.std.proofs.lemmas.List.{nil_from_length, reverse-append, reverse-reverse}
use Rattle.std.proofs.lemmas.List.Sums.{fold-append}
use Rattle.node_position.specs.Games.{Game}
use Rattle.version_publisher.specs.Contents.{last_two_joined, merged_last}
use Rattle.version_publisher.specs.declared.state.PublisherState.{PublisherState}
use Rattle.import_work.specs.Log.{Segment}
use Rattle.import_segments.specs.Merged.{AreMerged, MergesEach, with_part}
use Rattle.import_segments.specs.Published.{AreToMerge, with_last}
use Rattle.import_segments.specs.Publishing.{IsIdle}

-- ---- parts that end with two

-- of these the last has fewer games
merged-end : (front : List Segment) (before last : Segment) → length last < length before → AreMerged (front ++ before ∷ last ∷ [])
merged-end [] before last fewer = fewer
merged-end (a ∷ []) before last fewer = fewer
merged-end (a ∷ b ∷ []) before last fewer = fewer
merged-end (a ∷ b ∷ c ∷ front) before last fewer = merged-end (b ∷ c ∷ front) before last fewer

-- one part in the place of both
merged_last-end : (front : List Segment) (before last both : Segment) → merged_last (front ++ before ∷ last ∷ []) both ≡ front ++ both ∷ []
merged_last-end [] before last both = refl
merged_last-end (a ∷ []) before last both = refl
merged_last-end (a ∷ b ∷ []) before last both = refl
merged_last-end (a ∷ b ∷ c ∷ front) before last both = ap (λ ps. a ∷ ps) (merged_last-end (b ∷ c ∷ front) before last both)

-- the games of both
last_two_joined-end : (front : List Segment) (before last : Segment) → last_two_joined (front ++ before ∷ last ∷ []) ≡ before ++ last
last_two_joined-end [] before last = refl
last_two_joined-end (a ∷ []) before last = refl
last_two_joined-end (a ∷ b ∷ []) before last = refl
last_two_joined-end (a ∷ b ∷ c ∷ front) before last = last_two_joined-end (b ∷ c ∷ front) before last

-- the last first
reverse-end : (front : List Segment) (before last : Segment) → reverse (front ++ before ∷ last ∷ []) ≡ last ∷ before ∷ reverse front
reverse-end front before last = reverse-append front (before ∷ last ∷ [])

-- ---- a part that takes in those before it

-- it takes in the one before it
with_part-no_fewer : (parts : List Segment) (before part : Segment) → length before ≤ length part → with_part (before ∷ parts) part ≡ with_part parts (before ++ part)
with_part-no_fewer parts before part no_fewer = cond-false (nat_lt (length part) (length before)) _ _ (le-ltb (length part) (length before) no_fewer)

-- it stays behind it
with_part-fewer : (parts : List Segment) (before part : Segment) → length part < length before → with_part (before ∷ parts) part ≡ part ∷ before ∷ parts
with_part-fewer parts before part fewer = cond-true (nat_lt (length part) (length before)) _ _ (lt-ltb (length part) (length before) fewer)

-- then the last part has fewer games than the one before it
with_part-merged : (parts : List Segment) (part : Segment) → AreMerged (reverse (with_part parts part))
with_part-merged [] part = tt
with_part-merged (before ∷ parts) part = elim (cases_lt (length part) (length before)) [
  | inl fewer ↦
      let is : reverse (with_part (before ∷ parts) part) ≡ reverse parts ++ before ∷ part ∷ [] =
      ap reverse (with_part-fewer parts before part fewer) ∙ reverse-append (part ∷ before ∷ []) parts in
      subst AreMerged (sym is) (merged-end (reverse parts) before part fewer)
  | inr no_fewer ↦
      subst AreMerged (sym (ap reverse (with_part-no_fewer parts before part no_fewer))) (with_part-merged parts (before ++ part))
]

-- so it is where one part more came at least
with_parts-merged : (parts : List Segment) (part : Segment) (more : List Segment) → AreMerged (reverse (fold with_part parts (part ∷ more)))
with_parts-merged parts part [] = with_part-merged parts part
with_parts-merged parts part (next ∷ more) = with_parts-merged (with_part parts part) next more

-- ---- one merge

module _ (parts : List Segment) (both : Segment) (h : AreToMerge parts both) where
  -- these are the games that the publisher asks for
  pub joined_is : both ≡ last_two_joined parts
  joined_is = h.both_are ∙ sym (ap last_two_joined h.parts_are ∙ last_two_joined-end h.front h.before h.last)

  merged_is : merged_last parts both ≡ h.front ++ both ∷ []
  merged_is = ap (λ ps. merged_last ps both) h.parts_are ∙ merged_last-end h.front h.before h.last both

  -- there is a part fewer
  pub one_fewer : length (merged_last parts both) < length parts
  one_fewer = omega (arith, ap length merged_is, ap length h.parts_are, length-append h.front (h.before ∷ h.last ∷ []), length-append h.front (both ∷ []))

  -- and it leads to the same
  pub merge_leads : with_last (reverse (merged_last parts both)) ≡ with_last (reverse parts)
  merge_leads =
      ap (λ ps. with_last (reverse ps)) merged_is
      ∙ ap with_last (reverse-append h.front (both ∷ []))
      ∙ ap (with_part (reverse h.front)) h.both_are
      ∙ sym (ap (λ ps. with_last (reverse ps)) h.parts_are ∙ ap with_last (reverse-end h.front h.before h.last) ∙ with_part-no_fewer (reverse h.front) h.before h.last h.no_fewer)

-- A merge waited at an idle publisher, and then it was published: the log stays, and one part stands
-- in the place of the last two.
pub record IsMergeOf (before after : PublisherState Game) (both : Segment) : Type 0 where
  pub idle : IsIdle after
  pub log : after.log ≡ before.log
  pub opening : after.opening ≡ before.opening
  pub parts : after.parts ≡ merged_last before.parts both

pub merge_published : (before waiting after : PublisherState Game) (both : Segment) → IsIdle before
    → waiting ≡ record before { next_parts = merged_last before.parts both; has_pending = true }
    → after ≡ record waiting { log = waiting.log ++ waiting.pending; published = waiting.published ++ (waiting.log ++ waiting.pending) ∷ []; pending = []; parts = waiting.next_parts; has_pending = false }
    → IsMergeOf before after both
merge_published before waiting after both idle waits published = record {
  idle = (ap (λ (p : PublisherState Game). p.has_pending) published, ap (λ (p : PublisherState Game). p.pending) published);
  log =
      ap (λ (p : PublisherState Game). p.log) published
      ∙ ap (λ (p : PublisherState Game). p.log ++ p.pending) waits
      ∙ ap (λ ps. before.log ++ ps) idle.1
      ∙ append-nil before.log;
  opening = ap (λ (p : PublisherState Game). p.opening) published ∙ ap (λ (p : PublisherState Game). p.opening) waits;
  parts = ap (λ (p : PublisherState Game). p.parts) published ∙ ap (λ (p : PublisherState Game). p.next_parts) waits;
}

-- ---- segments one after another

pub MergesEach-none : (log parts : List Segment) → MergesEach log log parts parts
MergesEach-none log parts = record { segments = []; grown = sym (append-nil log); merged = refl }

module _ (log_before log_now parts_before parts_now : List Segment) (h : MergesEach log_before log_now parts_before parts_now) where
  -- one segment more is published, and parts are merged behind it
  pub MergesEach-more : (s : Segment) (log parts published : List Segment) → log ≡ log_now ++ s ∷ [] → published ≡ parts_now ++ s ∷ [] → reverse parts ≡ with_last (reverse published) → MergesEach log_before log parts_before parts
  MergesEach-more s log parts published grown more merged = record {
    segments = h.segments ++ s ∷ [];
    grown = grown ∙ ap (λ ss. ss ++ s ∷ []) h.grown ∙ append_assoc log_before h.segments (s ∷ []);
    merged =
        merged
        ∙ ap (λ ps. with_last (reverse ps)) more
        ∙ ap with_last (reverse-append parts_now (s ∷ []))
        ∙ ap (λ ps. with_part ps s) h.merged
        ∙ sym (fold-append with_part (reverse parts_before) h.segments (s ∷ []));
  }

  -- without a segment the parts are as before
  pub parts_stay : log_now ≡ log_before → parts_now ≡ parts_before
  parts_stay same =
      let none : h.segments ≡ [] = nil_from_length h.segments (omega (arith, ap length same, ap length h.grown, length-append log_before h.segments)) in
      let back : reverse parts_now ≡ reverse parts_before = h.merged ∙ ap (fold with_part (reverse parts_before)) none in
      sym (reverse-reverse parts_now) ∙ ap reverse back ∙ reverse-reverse parts_before

  -- with one the last part has fewer games than the one before it
  pub merged_after : length log_before < length log_now → AreMerged parts_now
  merged_after longer = by_segments h.segments h.grown h.merged
    where
      by_segments : (segments : List Segment) → log_now ≡ log_before ++ segments → reverse parts_now ≡ fold with_part (reverse parts_before) segments → AreMerged parts_now
      by_segments [] grown merged = absurd (omega (arith, longer, ap length grown, length-append log_before []))
      by_segments (s ∷ segments) grown merged = subst AreMerged (sym (ap reverse merged) ∙ reverse-reverse parts_now) (with_parts-merged (reverse parts_before) s segments)

  -- so it has where it had before
  pub merged_still : AreMerged parts_before → AreMerged parts_now
  merged_still before = elim (cases_lt (length log_before) (length log_now)) [
    | inl longer ↦ merged_after longer
    | inr no_longer ↦
        let none : h.segments ≡ [] = nil_from_length h.segments (omega (arith, no_longer, ap length h.grown, length-append log_before h.segments)) in
        let same : log_now ≡ log_before = h.grown ∙ ap (λ ss. log_before ++ ss) none ∙ append-nil log_before in
        subst AreMerged (sym (parts_stay same)) before
  ]
