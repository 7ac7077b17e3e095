-- What an import finds in a folder that tells its files, and the segments that it gives there.
use Rattle.std.proofs.Common.{◌≡◌, ◌⊎◌, inl, inr, ℕ, suc, true, false, ◌*◌, ◌<◌, ◌≤◌, min, List, [], ◌∷◌, ◌++◌, Some, length, length-append, drop, take, append-nil, append_assoc, refl, sym, ap, ◌∙◌, subst, suc-mul, zero-mul, arith}
use Rattle.std.specs.Prelude.{All, filter}
use Rattle.std.proofs.lemmas.Bool.{cases_lt}
use Rattle.std.proofs.lemmas.List.{drop_all, length-map, length-take, map-append, nil_from_length, take-append-drop}
use Rattle.kb_geometry.proofs.Lists.{All-before}
use Rattle.kb_geometry.proofs.Prefixes.{prefix_same}
use Rattle.kb_edges.specs.Faults.{RoseBy}
use Rattle.kb_edges.specs.Files.{File, HasFile, HasPath}
use mathlib.Core.List.{IsPrefix}
use Rattle.import_work.specs.Batches.{line_report, line_reports, unread_in}
use Rattle.import_work.specs.Course.{AreNames, AreRead, Files, Finding, HasTooMany, ImportCourse, ImportFile, IsImported, IsUnlisted, TooMany, Unlisted, games_of_files, names_of, nothing_lost, reports_of, trees_in}
use Rattle.import_work.specs.Imports.{FindsIn, GivesAll, GivesFirst, HasGiven, ImportState, IsFileStep, IsListed, IsListedIn, IsStep, Tells, lines_in, nothing, of_files, of_made, one_more}
use Rattle.import_work.specs.Log.{Segment, segments_of}
use Rattle.import_work.specs.Outcome.{with_games}
use Rattle.import_work.specs.declared.batch.FileLine.{FileLine}
use Rattle.import_work.specs.declared.report.ReportBody.{ReportBody}
use Rattle.import_work.specs.declared.report.ReportBody.TheVariants as report
use Rattle.import_work.specs.declared.source.Source.{Source}
use Rattle.import_work.specs.declared.source.Source.TheVariants as source
use Rattle.import_work.proofs.BatchLemmas.{batch_in_turn}
use Rattle.import_work.proofs.FileLemmas.{RoseBy-then, rose_by_none}
use Rattle.import_work.proofs.ImportsExist.{all-read, filter-none}
use Rattle.import_work.proofs.NameLemmas.{AreNames-there, has_path_or_none}
use Rattle.import_work.proofs.ReadFiles.{All_behind, AreRead-then, counts_after, paid_there, unread_among, unread_told}
use Rattle.import_work.proofs.RoomLemmas.{with_games-none}
use Rattle.import_work.proofs.SegmentLemmas.{segments-more, segments_first, segments_of-none}
use Rattle.import_work.proofs.GivenSegments.{IsStill, none_given}
use Rattle.import_work.proofs.MadeSegments.{made_all, made_first}

-- what an import has found so far
record HasFound (all : List File) (path : List ℕ) (batch : ℕ) (start now : ImportState) (segments : List Segment) (first last : ℕ) : Type 0 where
  files : List ImportFile
  unread : List (List ℕ)
  lines : List FileLine
  read : AreRead all path start.counts files unread
  under : now.source ≡ source.Under path
  body : now.body ≡ report.Files lines
  reports : line_reports lines ≡ reports_of files
  named : start.left ≡ names_of files ++ now.left
  segments_are : segments ≡ segments_of batch (Files files)
  counted : now.counts ≡ with_games start.counts (trees_in (games_of_files files))
  whole : (now.left ≡ []) ⊎ ((k : ℕ) × (length files ≡ k * batch))
  paid : RoseBy (length unread) first last

HasFound-start : (all : List File) (path : List ℕ) (batch : ℕ) → 1 ≤ batch → (start : ImportState) (first : ℕ) → start.source ≡ source.Under path → start.body ≡ report.Files [] → HasFound all path batch start start [] first first
HasFound-start all path batch any start first under listed = record {
  files = [];
  unread = [];
  lines = [];
  read = AreRead.nothing;
  under = under;
  body = listed;
  reports = refl;
  named = refl;
  segments_are = sym (segments_of-none batch any);
  counted = sym (with_games-none start.counts);
  whole = inr (0, sym (zero-mul batch));
  paid = rose_by_none first first (omega arith);
}

-- one batch more is found
module _ (all : List File) (path : List ℕ) (batch : ℕ) (any : 1 ≤ batch) (start between now : ImportState) (segments : List Segment) (segment : Segment) (first before last : ℕ) (there : All (HasFile all path) start.left) (h : HasFound all path batch start between segments first before) (s : IsFileStep (Some all) path batch between now segment before last) where
  abbrev name_of : ImportFile → List ℕ
  name_of f = f.report.name

  same_count : (k : ℕ) (files more : List ImportFile) → length files ≡ k * batch → length more ≡ batch → length (files ++ more) ≡ suc k * batch
  same_count k files more whole one = length-append files more ∙ omega (arith, whole, one, suc-mul k batch)

  HasFound-then : (k : ℕ) → length h.files ≡ k * batch → HasFound all path batch start now (segments ++ segment ∷ []) first last
  HasFound-then k whole =
      let here = batch_in_turn all path between.counts before (line_reports s.more) segment last s.in_turn in
      let named : names_of here.files ≡ take batch between.left = here.named ∙ s.named in
      let counted : length here.files ≡ min batch (length between.left) = sym (length-map here.files name_of) ∙ ap length named ∙ length-take batch between.left in
      let rest : now.left ≡ drop batch between.left = ap (λ i. i.left) s.goes_on in
      let all_names : start.left ≡ names_of (h.files ++ here.files) ++ now.left =
      h.named ∙ ap (λ ns. names_of h.files ++ ns) (sym (take-append-drop batch between.left))
      ∙ ap (λ ns. names_of h.files ++ (ns ++ drop batch between.left)) (sym named)
      ∙ ap (λ ns. names_of h.files ++ (names_of here.files ++ ns)) (sym rest)
      ∙ sym (append_assoc (names_of h.files) (names_of here.files) now.left)
      ∙ ap (λ ns. ns ++ now.left) (sym (map-append name_of h.files here.files)) in
      let own_there : All (HasFile all path) (names_of here.files) =
      All-before (HasFile all path) (names_of here.files) now.left
      (All_behind (HasFile all path) (names_of h.files) (names_of here.files ++ now.left)
      (subst (All (HasFile all path)) (all_names ∙ ap (λ ns. ns ++ now.left) (map-append name_of h.files here.files) ∙ append_assoc (names_of h.files) (names_of here.files) now.left) there)) in
      let lost : RoseBy (length here.unread) before last = paid_there all path here.unread before last here.paid (unread_among all path between.counts (HasFile all path) here.files here.unread here.read own_there) in
      record {
        files = h.files ++ here.files;
        unread = h.unread ++ here.unread;
        lines = s.lines ++ s.more;
        read = AreRead-then all path start.counts between.counts h.files h.unread h.read h.counted here.files here.unread here.read;
        under = ap (λ i. i.source) s.goes_on ∙ h.under;
        body = ap (λ i. i.body) s.goes_on;
        reports =
            let lines : s.lines ≡ h.lines = ap lines_in (sym s.listed ∙ h.body) in
            map-append line_report s.lines s.more ∙ ap (λ ls. line_reports ls ++ line_reports s.more) lines ∙ ap (λ rs. rs ++ line_reports s.more) h.reports
            ∙ ap (λ rs. reports_of h.files ++ rs) (sym here.reports_are) ∙ sym (map-append (λ (f : ImportFile). f.report) h.files here.files);
        named = all_names;
        segments_are =
            ap (λ ss. ss ++ segment ∷ []) h.segments_are
            ∙ ap (λ g. segments_of batch (Files h.files) ++ g ∷ []) (sym here.games_are)
            ∙ sym (segments-more batch h.files here.files k whole (omega (arith, counted, any, some_left)) (omega (arith, counted)));
        counted = ap (λ i. i.counts) s.goes_on ∙ ap (λ gs. with_games between.counts (trees_in gs)) (sym here.games_are)
            ∙ counts_after start.counts between.counts h.files here.files h.counted;
        whole = elim (cases_lt batch (length between.left)) [
          | inl more ↦ inr (suc k, same_count k h.files here.files whole (omega (arith, counted, more)))
          | inr few ↦ inl (rest ∙ drop_all batch between.left (omega (arith, few)))
        ];
        paid = rw length-append (RoseBy-then (length h.unread) (length here.unread) first before last h.paid lost);
      }
    where
      some_left : 0 < length between.left
      some_left = elim (cases_lt 0 (length between.left)) [
        | inl some ↦ some
        | inr none ↦ absurd (s.some (nil_from_length between.left (omega (arith, none))))
      ]

  HasFound-more : HasFound all path batch start now (segments ++ segment ∷ []) first last
  HasFound-more = elim h.whole [
    | inl none ↦ absurd (s.some none)
    | inr whole ↦ HasFound-then whole.0 whole.1
  ]

-- a step of an import of a path takes files of it
file_step : (all : List File) (path : List ℕ) (batch : ℕ) (between now : ImportState) (segment : Segment) (before last : ℕ) → between.source ≡ source.Under path → IsStep (Some all) batch between now segment before last → IsFileStep (Some all) path batch between now segment before last
file_step all path batch between now segment before last under (of_files own s) =
    let both : source.Under own ≡ source.Under path = sym s.under ∙ under in
    let same : own ≡ path = cc in
    subst (λ p. IsFileStep (Some all) p batch between now segment before last) same s
file_step all path batch between now segment before last under (of_made games start s still) =
    let both : source.Made games start ≡ source.Under path = sym s.made_from ∙ under in
    cc

has_found : (all : List File) (path : List ℕ) (batch : ℕ) → 1 ≤ batch → (start : ImportState) (first : ℕ) (now : ImportState) (segments : List Segment) (last : ℕ) → start.source ≡ source.Under path → All (HasFile all path) start.left → start.body ≡ report.Files [] → HasGiven (Some all) batch start first segments now last → HasFound all path batch start now segments first last
has_found all path batch any start first _ _ _ under there listed nothing = HasFound-start all path batch any start first under listed
has_found all path batch any start first _ _ _ under there listed (one_more {segments = segments} {between = between} {faults = faults} now segment last h s) =
    let so_far = has_found all path batch any start first between segments faults under there listed h in
    HasFound-more all path batch any start between now segments segment first faults last there so_far (file_step all path batch between now segment faults last so_far.under s)

-- ---- what an import finds

module _ (all : List File) (batch : ℕ) (any : 1 ≤ batch) (start now : ImportState) (segments : List Segment) (first last : ℕ) (given : HasGiven (Some all) batch start first segments now last) where
  -- an import of a path
  module _ (path : List ℕ) (under : start.source ≡ source.Under path) where
    imported_under : (entry : ImportCourse) (finding : Finding) → IsImported all (source.Under path) start.counts entry finding → IsImported all start.source start.counts entry finding
    imported_under entry finding is = subst (λ s. IsImported all s start.counts entry finding) (sym under) is

    -- an import whose names were listed
    module _ (path_there : HasPath all path) (are : AreNames all path start.left) (few : length start.left ≤ 100000) (listed : start.body ≡ report.Files []) where
      found : HasFound all path batch start now segments first last
      found = has_found all path batch any start first now segments last under (AreNames-there all path start.left are) listed given

      -- it finds these files, whose names are all of them
      finds_files : (files : List ImportFile) (unread : List (List ℕ)) → AreRead all path start.counts files unread → names_of files ≡ start.left → RoseBy (length unread) first last → FindsIn all start first last
      finds_files files unread are_read named paid =
          let counted : length files ≡ length start.left = sym (length-map files (λ (f : ImportFile). f.report.name)) ∙ ap length named in record {
            entry = record { unlisted = false; unread = unread };
            finding = Files files;
            imported = imported_under (record { unlisted = false; unread = unread }) (Files files) (record {
              path_there = path_there;
              names = subst (AreNames all path) (sym named) are;
              few = omega (arith, counted, few);
              read = are_read;
              listed = refl;
            });
            unlisted = λ is. absurd (other files is);
            paid = paid;
          }
        where
          other : (files : List ImportFile) → Files files ≡ Unlisted → ⊥
          other files is = cc

      listed_all : now.left ≡ [] → GivesAll all batch start segments now.body first last
      unfolding finds_files
      listed_all none =
          let h = found in
          let named : names_of h.files ≡ start.left = sym (h.named ∙ ap (λ ns. names_of h.files ++ ns) none ∙ append-nil (names_of h.files)) in
          let told : line_reports (lines_in now.body) ≡ reports_of h.files = ap (λ b. line_reports (lines_in b)) h.body ∙ h.reports in record {
            finds = finds_files h.files h.unread h.read named h.paid;
            segments_are = h.segments_are;
            tells = subst (λ b. Tells b (Files h.files)) (sym h.body) (h.files, refl, h.reports);
            unread_are = unread_told all path start.counts h.files h.unread h.read ∙ ap unread_in (sym told);
          }

      listed_first : GivesFirst all batch start segments first last
      unfolding finds_files
      listed_first =
          let h = found in
          let left_there : All (HasFile all path) now.left = All_behind (HasFile all path) (names_of h.files) now.left (subst (All (HasFile all path)) h.named (AreNames-there all path start.left are)) in
          let rest = all-read all path start.counts h.files h.unread (λ name. false) now.left left_there h.read in
          let unread : h.unread ++ filter (λ (name : List ℕ). false) now.left ≡ h.unread = ap (λ us. h.unread ++ us) (filter-none now.left) ∙ append-nil h.unread in
          let named : names_of (h.files ++ rest.more) ≡ start.left = map-append (λ (f : ImportFile). f.report.name) h.files rest.more ∙ ap (λ ns. names_of h.files ++ ns) rest.named ∙ sym h.named in
          let same : length rest.more ≡ length now.left = sym (length-map rest.more (λ (f : ImportFile). f.report.name)) ∙ ap length rest.named in
          let begins : IsPrefix (segments_of batch (Files h.files)) (segments_of batch (Files (h.files ++ rest.more))) = elim h.whole [
            | inl none ↦
                let empty : rest.more ≡ [] = nil_from_length rest.more (same ∙ ap length none) in
                subst (λ fs. IsPrefix (segments_of batch (Files h.files)) (segments_of batch (Files fs))) (sym (ap (λ fs. h.files ++ fs) empty ∙ append-nil h.files)) (prefix_same (segments_of batch (Files h.files)))
            | inr whole ↦ segments_first batch any h.files rest.more whole.0 whole.1
          ] in record {
            finds = finds_files (h.files ++ rest.more) h.unread (subst (AreRead all path start.counts (h.files ++ rest.more)) unread rest.read) named h.paid;
            prefix = subst (λ ss. IsPrefix ss (segments_of batch (Files (h.files ++ rest.more)))) (sym h.segments_are) begins;
          }

    -- an import that has no name from the first
    module _ (empty : start.left ≡ []) where
      still : IsStill start now segments first last
      still = none_given (Some all) batch start first now segments last empty given

      later : RoseBy 0 first last
      later = rose_by_none first last (omega (arith, still.faults))

      body_is : now.body ≡ start.body
      body_is = ap (λ i. i.body) still.same

      -- it was not listed, though its path is there or since it isn't
      unlisted_entry : (entry : ImportCourse) × IsUnlisted all path entry
      unlisted_entry = elim (has_path_or_none all path) [
        | inl has ↦ (record { unlisted = true; unread = [] }, (inl (refl, has), refl))
        | inr none ↦ (nothing_lost, (inr (refl, none), refl))
      ]

      unlisted_all : start.body ≡ report.Unlisted → GivesAll all batch start segments now.body first last
      unlisted_all is =
          let e = unlisted_entry in
          let told : now.body ≡ report.Unlisted = body_is ∙ is in record {
            finds = record {
              entry = e.0;
              finding = Unlisted;
              imported = imported_under e.0 Unlisted e.1;
              unlisted = λ same. is;
              paid = subst (λ us. RoseBy (length us) first last) (sym e.1.1) later;
            };
            segments_are = still.none;
            tells = subst (λ b. Tells b Unlisted) (sym told) refl;
            unread_are = e.1.1 ∙ sym (ap (λ b. unread_in (line_reports (lines_in b))) told);
          }

      many_all : (listed : ℕ) → start.body ≡ report.TooMany listed → HasTooMany all path listed → GivesAll all batch start segments now.body first last
      many_all listed is many =
          let told : now.body ≡ report.TooMany listed = body_is ∙ is in record {
            finds = record {
              entry = nothing_lost;
              finding = TooMany listed;
              imported = imported_under nothing_lost (TooMany listed) (many, refl);
              unlisted = λ same. absurd (other listed same);
              paid = later;
            };
            segments_are = still.none;
            tells = subst (λ b. Tells b (TooMany listed)) (sym told) refl;
            unread_are = sym (ap (λ b. unread_in (line_reports (lines_in b))) told);
          }
        where
          other : (listed : ℕ) → TooMany listed ≡ Unlisted → ⊥
          other listed is = cc

  -- what is given in all is given first
  first_of_all : (body : ReportBody) → GivesAll all batch start segments body first last → GivesFirst all batch start segments first last
  first_of_all body whole = record {
    finds = whole.finds;
    prefix = subst (λ ss. IsPrefix segments ss) whole.segments_are (prefix_same segments);
  }

  pub gives_all : (from : Source) (body : ReportBody) → start.source ≡ from → start.body ≡ body → IsListed from body start.left → IsListedIn all from body start.left → now.left ≡ [] → GivesAll all batch start segments now.body first last
  gives_all (source.Under path) (report.Files lines) under is listed there none = listed_all path under there.0 there.1 listed.2 (is ∙ ap report.Files listed.0) none
  gives_all (source.Under path) report.Unlisted under is listed there none = unlisted_all path under listed is
  gives_all (source.Under path) (report.TooMany count) under is listed there none = many_all path under listed.1 count is there
  gives_all (source.Under path) (report.Made games full) under is listed there none = absurd listed
  gives_all (source.Made games seed) body from is listed there none = made_all all batch any start now segments first last given games seed from (is ∙ listed.0) listed.1 none

  pub gives_first : (from : Source) (body : ReportBody) → start.source ≡ from → start.body ≡ body → IsListed from body start.left → IsListedIn all from body start.left → GivesFirst all batch start segments first last
  gives_first (source.Under path) (report.Files lines) under is listed there = listed_first path under there.0 there.1 listed.2 (is ∙ ap report.Files listed.0)
  gives_first (source.Under path) report.Unlisted under is listed there = first_of_all now.body (unlisted_all path under listed is)
  gives_first (source.Under path) (report.TooMany count) under is listed there = first_of_all now.body (many_all path under listed.1 count is there)
  gives_first (source.Under path) (report.Made games full) under is listed there = absurd listed
  gives_first (source.Made games seed) body from is listed there = made_first all batch any start now segments first last given games seed from (is ∙ listed.0) listed.1

-- the count of faults may rise further
pub gives_first_later : (all : List File) (batch : ℕ) (start : ImportState) (segments : List Segment) (first last after : ℕ) → last ≤ after → GivesFirst all batch start segments first last → GivesFirst all batch start segments first after
gives_first_later all batch start segments first last after later h = record {
  finds = record {
    entry = h.finds.entry;
    finding = h.finds.finding;
    imported = h.finds.imported;
    unlisted = h.finds.unlisted;
    paid = omega (arith, h.finds.paid, later);
  };
  prefix = h.prefix;
}
