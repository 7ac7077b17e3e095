-- What an import of made games gives: the segments of all of them.
use Rattle.std.proofs.Common.{◌≡◌, ◌⊎◌, inl, inr, ℕ, suc, min, ◌+◌, ◌*◌, ◌<◌, ◌≤◌, List, [], ◌∷◌, ◌++◌, Option, Some, length, length-append, drop, replicate, take, append-nil, refl, sym, ap, ◌∙◌, subst, suc-mul, zero-mul, arith}
use Rattle.std.proofs.lemmas.Bool.{cases_lt}
use Rattle.std.proofs.lemmas.List.{drop_all, length-replicate, length-take, nil_from_length, take-append-drop}
use Rattle.kb_geometry.proofs.Prefixes.{prefix_same}
use Rattle.kb_edges.specs.Files.{File}
use mathlib.Core.List.{IsPrefix}
use Rattle.import_work.specs.Batches.{full_told, line_reports, unread_in}
use Rattle.import_work.specs.Course.{AreMade, HasMade, ImportFile, IsImported, Made, Unlisted, games_of_files, made_name, nothing_lost, reports_of, trees_in}
use Rattle.import_work.specs.Imports.{FindsIn, GivesAll, GivesFirst, GivesMade, HasGiven, ImportState, IsListed, IsMadeStep, IsStep, Tells, lines_in, nothing, of_files, of_made, one_more}
use Rattle.import_work.specs.Log.{Segment, segments_of}
use Rattle.import_work.specs.Outcome.{with_games}
use Rattle.import_work.specs.declared.outcome.Counts.{Counts}
use Rattle.import_work.specs.declared.report.ReportBody.TheVariants as report
use Rattle.import_work.specs.declared.source.Source.TheVariants as source
use Rattle.import_work.proofs.FileLemmas.{rose_by_none}
use Rattle.import_work.proofs.MadeFiles.{full-append, games-append, made-counted, made-found, made-then}
use Rattle.import_work.proofs.ReadFiles.{counts_after}
use Rattle.import_work.proofs.RoomLemmas.{with_games-none}
use Rattle.import_work.proofs.SegmentLemmas.{segments-more, segments_first, segments_of-none}

-- what an import of made games has made so far
pub record HasMadeTo (games seed batch : ℕ) (start now : ImportState) (segments : List Segment) (first last : ℕ) : Type 0 where
  pub files : List ImportFile
  pub made : AreMade seed 0 start.counts files
  pub source : now.source ≡ source.Made games seed
  pub body : now.body ≡ report.Made (length (games_of_files files)) (full_told (reports_of files))
  pub left : length files + length now.left ≡ games
  pub segments_are : segments ≡ segments_of batch (Made files)
  pub counted : now.counts ≡ with_games start.counts (trees_in (games_of_files files))
  pub whole : (now.left ≡ []) ⊎ ((k : ℕ) × (length files ≡ k * batch))
  pub still : last ≡ first

HasMadeTo-start : (games seed batch : ℕ) → 1 ≤ batch → (start : ImportState) (first : ℕ) → start.source ≡ source.Made games seed → start.body ≡ report.Made 0 0 → start.left ≡ replicate games made_name → HasMadeTo games seed batch start start [] first first
HasMadeTo-start games seed batch any start first from told left = record {
  files = [];
  made = AreMade.nothing;
  source = from;
  body = told;
  left = omega (arith, ap length left, length-replicate games made_name);
  segments_are = sym (segments_of-none batch any);
  counted = sym (with_games-none start.counts);
  whole = inr (0, sym (zero-mul batch));
  still = refl;
}

-- a step makes more games
module _ (games seed batch : ℕ) (any : 1 ≤ batch) (start between now : ImportState) (segments : List Segment) (segment : Segment) (first before : ℕ) (h : HasMadeTo games seed batch start between segments first before) (s : IsMadeStep games seed batch between now segment) where
  told_is : report.Made s.added s.full ≡ report.Made (length (games_of_files h.files)) (full_told (reports_of h.files))
  told_is = sym s.told ∙ h.body

  added_is : s.added ≡ length (games_of_files h.files)
  added_is = let both = told_is in cc

  full_is : s.full ≡ full_told (reports_of h.files)
  full_is = let both = told_is in cc

  next_is : s.added + s.full ≡ 0 + length h.files
  next_is = omega (arith, added_is, full_is, made-counted seed 0 start.counts h.files h.made)

  body_then : now.body ≡ report.Made (length (games_of_files (h.files ++ s.files))) (full_told (reports_of (h.files ++ s.files)))
  body_then =
      let more : s.added + length segment ≡ length (games_of_files (h.files ++ s.files)) =
      omega (arith, added_is, ap length s.segment_is, ap length (games-append h.files s.files), length-append (games_of_files h.files) (games_of_files s.files)) in
      let fuller : s.full + full_told (reports_of s.files) ≡ full_told (reports_of (h.files ++ s.files)) = omega (arith, full_is, full-append h.files s.files) in
      ap (λ i. i.body) s.goes_on ∙ ap (λ n. report.Made n (s.full + full_told (reports_of s.files))) more ∙ ap (report.Made (length (games_of_files (h.files ++ s.files)))) fuller

  rest_is : now.left ≡ drop batch between.left
  rest_is = ap (λ i. i.left) s.goes_on

  parts : length (take batch between.left) + length (drop batch between.left) ≡ length between.left
  parts = sym (length-append (take batch between.left) (drop batch between.left)) ∙ ap length (take-append-drop batch between.left)

  some_left : 0 < length between.left
  some_left = elim (cases_lt 0 (length between.left)) [
    | inl some ↦ some
    | inr none ↦ absurd (s.some (nil_from_length between.left (omega (arith, none))))
  ]

  made_whole : (k : ℕ) → length h.files ≡ k * batch → HasMadeTo games seed batch start now (segments ++ segment ∷ []) first before
  made_whole k whole =
      let counted : length s.files ≡ min batch (length between.left) = s.many ∙ length-take batch between.left in record {
        files = h.files ++ s.files;
        made = made-then seed 0 start.counts between.counts h.files (s.added + s.full) h.made h.counted next_is s.files s.made;
        source = ap (λ i. i.source) s.goes_on ∙ h.source;
        body = body_then;
        left = omega (arith, length-append h.files s.files, s.many, parts, ap length rest_is, h.left);
        segments_are =
            ap (λ ss. ss ++ segment ∷ []) h.segments_are
            ∙ ap (λ g. segments_of batch (Made h.files) ++ g ∷ []) s.segment_is
            ∙ sym (segments-more batch h.files s.files k whole (omega (arith, counted, any, some_left)) (omega (arith, counted)));
        counted = ap (λ i. i.counts) s.goes_on ∙ ap (λ gs. with_games between.counts (trees_in gs)) s.segment_is ∙ counts_after start.counts between.counts h.files s.files h.counted;
        whole = elim (cases_lt batch (length between.left)) [
          | inl more ↦ inr (suc k, length-append h.files s.files ∙ omega (arith, whole, counted, more, suc-mul k batch))
          | inr few ↦ inl (rest_is ∙ drop_all batch between.left (omega (arith, few)))
        ];
        still = h.still;
      }

  HasMadeTo-more : HasMadeTo games seed batch start now (segments ++ segment ∷ []) first before
  HasMadeTo-more = elim h.whole [
    | inl none ↦ absurd (s.some none)
    | inr whole ↦ made_whole whole.0 whole.1
  ]

-- a step of an import of made games makes more of them, and the folder isn't asked
made_step : (told : Option (List File)) (games seed batch : ℕ) (between now : ImportState) (segment : Segment) (before last : ℕ) → between.source ≡ source.Made games seed → IsStep told batch between now segment before last → IsMadeStep games seed batch between now segment × (last ≡ before)
made_step told games seed batch between now segment before last from (of_files path s) =
    let both : source.Under path ≡ source.Made games seed = sym s.under ∙ from in
    cc
made_step told games seed batch between now segment before last from (of_made own other s still) =
    let both : source.Made own other ≡ source.Made games seed = sym s.made_from ∙ from in
    let same : own ≡ games = cc in
    let seeds : other ≡ seed = cc in
    (subst (λ n. IsMadeStep games n batch between now segment) seeds (subst (λ n. IsMadeStep n other batch between now segment) same s), still)

pub has_made : (folder : Option (List File)) (games seed batch : ℕ) → 1 ≤ batch → (start : ImportState) (first : ℕ) (now : ImportState) (segments : List Segment) (last : ℕ) → start.source ≡ source.Made games seed → start.body ≡ report.Made 0 0 → start.left ≡ replicate games made_name → HasGiven folder batch start first segments now last → HasMadeTo games seed batch start now segments first last
has_made folder games seed batch any start first _ _ _ from told left nothing = HasMadeTo-start games seed batch any start first from told left
has_made folder games seed batch any start first _ _ _ from told left (one_more {segments = segments} {between = between} {faults = faults} now segment last h s) =
    let so_far = has_made folder games seed batch any start first between segments faults from told left h in
    let step = made_step folder games seed batch between now segment faults last so_far.source s in
    subst (λ n. HasMadeTo games seed batch start now (segments ++ segment ∷ []) first n) (sym step.1)
    (HasMadeTo-more games seed batch any start between now segments segment first faults so_far step.0)

module _ (all : List File) (batch : ℕ) (any : 1 ≤ batch) (start now : ImportState) (segments : List Segment) (first last : ℕ) (given : HasGiven (Some all) batch start first segments now last) (games seed : ℕ) (from : start.source ≡ source.Made games seed) (told : start.body ≡ report.Made 0 0) (left : start.left ≡ replicate games made_name) where
  so_far : HasMadeTo games seed batch start now segments first last
  so_far = has_made (Some all) games seed batch any start first now segments last from told left given

  -- it finds these files, which are all games
  finds_made : (files : List ImportFile) → AreMade seed 0 start.counts files → length files ≡ games → last ≡ first → FindsIn all start first last
  finds_made files made many still = record {
    entry = nothing_lost;
    finding = Made files;
    imported = subst (λ s. IsImported all s start.counts nothing_lost (Made files)) (sym from) (record { all = many; made = made }, refl);
    unlisted = λ is. absurd (other files is);
    paid = rose_by_none first last (omega (arith, still));
  }
    where
      other : (files : List ImportFile) → Made files ≡ Unlisted → ⊥
      other files is = cc

  pub made_all : now.left ≡ [] → GivesAll all batch start segments now.body first last
  unfolding finds_made
  made_all none =
      let h = so_far in
      let many : length h.files ≡ games = omega (arith, h.left, ap length none) in record {
        finds = finds_made h.files h.made many h.still;
        segments_are = h.segments_are;
        tells = subst (λ b. Tells b (Made h.files)) (sym h.body) (h.files, refl, refl, refl);
        unread_are = sym (ap (λ b. unread_in (line_reports (lines_in b))) h.body);
      }

  pub made_first : GivesFirst all batch start segments first last
  unfolding finds_made
  made_first =
      let h = so_far in
      let rest = made-found seed 0 start.counts h.files h.made (length now.left) in
      let many : length (h.files ++ rest.more) ≡ games = length-append h.files rest.more ∙ omega (arith, h.left, rest.many) in
      let begins : IsPrefix (segments_of batch (Made h.files)) (segments_of batch (Made (h.files ++ rest.more))) = elim h.whole [
        | inl none ↦
            let empty : rest.more ≡ [] = nil_from_length rest.more (rest.many ∙ ap length none) in
            subst (λ fs. IsPrefix (segments_of batch (Made h.files)) (segments_of batch (Made fs))) (sym (ap (λ fs. h.files ++ fs) empty ∙ append-nil h.files)) (prefix_same (segments_of batch (Made h.files)))
        | inr whole ↦ segments_first batch any h.files rest.more whole.0 whole.1
      ] in record {
        finds = finds_made (h.files ++ rest.more) rest.made many h.still;
        prefix = subst (λ ss. IsPrefix ss (segments_of batch (Made (h.files ++ rest.more)))) (sym h.segments_are) begins;
      }

-- whatever the folder tells, an import of made games that has none left has given the segments of all
pub made_given : (folder : Option (List File)) (batch : ℕ) (any : 1 ≤ batch) (start now : ImportState) (segments : List Segment) (first last games seed : ℕ) → start.source ≡ source.Made games seed → IsListed (source.Made games seed) start.body start.left → HasGiven folder batch start first segments now last → now.left ≡ [] → GivesMade batch games seed start now segments
made_given folder batch any start now segments first last games seed from listed given none =
    let h = has_made folder games seed batch any start first now segments last from listed.0 listed.1 given in
    let many : length h.files ≡ games = omega (arith, h.left, ap length none) in record {
      files = h.files;
      made = record { all = many; made = h.made };
      segments_are = h.segments_are;
      tells = subst (λ b. Tells b (Made h.files)) (sym h.body) (h.files, refl, refl, refl);
    }

-- of so many made games each is added, or there is no room for it
pub made_all_told : (games seed : ℕ) (before : Counts) (files : List ImportFile) → HasMade games seed before files → length (games_of_files files) + full_told (reports_of files) ≡ games
made_all_told games seed before files h = omega (arith, made-counted seed 0 before files h.made, h.all)
