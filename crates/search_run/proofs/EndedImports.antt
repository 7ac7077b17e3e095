-- How the import of a job ends: the log, the report, and what the folder's count says of losses.
use Rattle.std.proofs.Common.{◌≡◌, ◌⊎◌, inl, inr, ℕ, ◌≤◌, ◌+◌, List, [], ◌++◌, Option, Some, length, length-append, refl, sym, ap, ◌∙◌, subst, arith}
use Rattle.std.specs.Prelude.{IfOk, Result}
use Rattle.std.proofs.lemmas.List.{append-nil}
use Rattle.std.proofs.lemmas.Result.{IfOk-weaker}
use Rattle.kb_geometry.specs.declared.memory.NoMemory.{NoMemory}
use Rattle.kb_edges.specs.Faults.{Rose}
use Rattle.kb_edges.specs.Files.{File}
use Rattle.kb_edges.specs.Told.{IfTold}
use Rattle.version_publisher.specs.Contents.{BookName, items_in}
use Rattle.version_publisher.specs.declared.state.PublisherState.{PublisherState}
use Rattle.node_position.specs.Games.{Game}
use Rattle.import_work.specs.Course.{IsImported, nothing_lost, trees_in}
use Rattle.import_work.specs.Imports.{FindsIn, ImportState, IsListed, IsNotThere, IsOpened, games_reported}
use Rattle.import_work.specs.Log.{Segment, games_of_segments, segments_of}
use Rattle.import_work.specs.Outcome.{counts_of}
use Rattle.import_work.specs.declared.report.Report.{Report}
use Rattle.import_work.specs.declared.report.ReportBody.TheVariants as report
use Rattle.import_work.specs.declared.source.Source.{Source}
use Rattle.import_work.proofs.FileLemmas.{rose_by_none}
use Rattle.import_work.proofs.ImportsExist.{lossless-found}
use Rattle.import_work.proofs.GivenSegments.{adds_up}
use Rattle.import_work.proofs.Losses.{loses}
use Rattle.import_work.proofs.RoomLemmas.{length-trees}
use Rattle.search_run.specs.Beside.{EndsWith, EndsWithFirst, Finds, HasEnded}
use Rattle.import_segments.specs.Merged.{AreMerged}
use Rattle.import_segments.specs.Publishing.{IsIdle, IsOpenedWith, IsLogWithinLimits, PublishesAll, PublishesFirst}
use Rattle.session_core.specs.ImportTexts.{told_text}
use Rattle.search_run.specs.declared.importer.ImportJob.{ImportJob}
use Rattle.import_work.proofs.SegmentLemmas.{games_of_segments-append}
use Rattle.serial_run.proofs.ImportReports.{few_left, no_games, text_told}
use Rattle.import_segments.proofs.PushedSegments.{items_in-games_of_segments}

-- the path is there, or the count rose
cause_there : (files : List File) (told : Option (List File)) (from : Source) (faults now : ℕ) → told ≡ Some files → Rose faults now ⊎ ((all : List File) × (told ≡ Some all) × IsNotThere all from) → Rose faults now ⊎ IsNotThere files from
cause_there files told from faults now here (inl rose) = inl rose
cause_there files told from faults now here (inr (all, also, gone)) =
    let both : Some files ≡ Some all = sym here ∙ also in
    let same : files ≡ all = cc in
    inr (subst (λ fs. IsNotThere fs from) (sym same) gone)

-- The import of a job was opened with this log, at a time when the count of faults was this.
pub record WasOpened (told : Option (List File)) (job : ImportJob) (log : List Segment) (first opened_at : ℕ) (start : ImportState) : Type 0 where
  pub opened : IsOpened job.source job.line job.before (length log) start
  pub listed : IsListed job.source start.body start.left
  pub unlisted : start.body ≡ report.Unlisted → Rose first opened_at ⊎ ((all : List File) × (told ≡ Some all) × IsNotThere all job.source)
  pub counted : job.before ≡ counts_of (trees_in (items_in log))
  pub few : length log ≤ 9000000000000000000
  pub later : first ≤ opened_at

module _ (told : Option (List File)) (job : ImportJob) (some : 1 ≤ job.batch) (log : List Segment) (first opened_at : ℕ) (start : ImportState) (was : WasOpened told job log first opened_at start) where
  source_is : start.source ≡ job.source
  source_is = ap (λ (i : ImportState). i.source) was.opened

  counts_are : start.counts ≡ job.before
  counts_are = ap (λ (i : ImportState). i.counts) was.opened

  -- so it may be published
  pub opened_with : IsOpenedWith log start
  opened_with = record {
    none_given = ap (λ (i : ImportState). i.given) was.opened;
    number = ap (λ (i : ImportState). i.number) was.opened;
    few = was.few;
    counts = counts_are ∙ was.counted;
    listed = subst (λ s. IsListed s start.body start.left) (sym source_is) was.listed;
  }

  -- what it finds in a folder that tells its files
  finds : (files : List File) → told ≡ Some files → (last : ℕ) → opened_at ≤ last → FindsIn files start opened_at last → Finds files job.source log first last
  finds files here last after f = record {
    entry = f.entry;
    finding = f.finding;
    imported = subst (λ c. IsImported files job.source c f.entry f.finding) (counts_are ∙ was.counted ∙ ap (λ gs. counts_of (trees_in gs)) (items_in-games_of_segments log))
        (subst (λ p. IsImported files p start.counts f.entry f.finding) source_is f.imported);
    paid = loses files start first opened_at last f
        (λ is. subst (λ p. Rose first opened_at ⊎ (IsNotThere files p)) (sym source_is) (cause_there files told job.source first opened_at here (was.unlisted is)))
        was.later after;
  }

  -- the log has grown by its first segments
  pub ends_first : (log_now : List Segment) (last : ℕ) → opened_at ≤ last → PublishesFirst told job.batch start log log_now opened_at last → IfTold told (λ files. EndsWithFirst files job log log_now first last)
  unfolding finds
  ends_first log_now last after h = λ files here.
      let g = h.first files here in record {
        finds = finds files here last after g.finds;
        segments = h.segments;
        grown = h.grown;
        first = g.prefix;
      }

  module _ (log_now : List Segment) (last : ℕ) (after : opened_at ≤ last) (report : Report) (h : PublishesAll told job.batch start log log_now report opened_at last) where
    games_are : games_reported report.body ≡ length (games_of_segments h.segments)
    games_are = omega (arith, ap games_reported h.body, (adds_up told job.batch start opened_at h.now h.segments last some h.given).told, no_games job.source start.body start.left was.listed)

    -- the report tells few games
    pub few_games : IsLogWithinLimits log_now → games_reported report.body ≤ 400000
    few_games limits =
        let all : length (items_in log_now) ≡ length (games_of_segments log) + length (games_of_segments h.segments) =
        ap length (items_in-games_of_segments log_now ∙ ap games_of_segments h.grown ∙ games_of_segments-append log h.segments) ∙ length-append (games_of_segments log) (games_of_segments h.segments) in
        omega (arith, games_are, all, length-trees (items_in log_now), limits.0)

    -- the log has grown by all its segments, and the report tells what it found
    pub ends_all : (files : List File) → told ≡ Some files → EndsWith files job log log_now first last report
    unfolding finds
    ends_all files here =
        let g = h.all files here in
        let line : report.line ≡ job.line = h.line ∙ ap (λ (i : ImportState). i.line) was.opened in record {
          finds = finds files here last after g.finds;
          grown = h.grown ∙ ap (λ ss. log ++ ss) g.segments_are;
          text =
              ap (λ l. told_text l report.body report.version) line
              ∙ ap (λ n. told_text job.line report.body n) h.version
              ∙ text_told job.batch some job.line (length log_now) report.body g.finds.finding g.tells (games_are ∙ ap (λ (ss : List Segment). length (games_of_segments ss)) g.segments_are);
        }

  -- how it ends
  pub ended : (opening : BookName) (told_now : Option (List File)) (last : ℕ) (publisher : PublisherState Game) (result : Result Report NoMemory) → publisher.opening ≡ opening → length publisher.log ≤ length log + length start.left → IsLogWithinLimits publisher.log → told_now ≡ told → opened_at ≤ last →
      PublishesFirst told job.batch start log publisher.log opened_at last → IfOk result (λ r. IsIdle publisher × PublishesAll told job.batch start log publisher.log r opened_at last) → IfOk result (λ r. AreMerged publisher.parts) → HasEnded told first job opening log told_now last publisher result
  ended opening told_now last publisher result opened few limits same after first_of all merged = record {
    opened = opened;
    few = omega (arith, few, few_left job.source start.body start.left was.listed);
    limits = limits;
    same = same;
    later = omega (arith, was.later, after);
    idle = IfOk-weaker result _ _ (λ r h. h.0) all;
    merged = merged;
    few_told = IfOk-weaker result _ _ (λ r h. few_games publisher.log last after r h.1 limits) all;
    ends = λ files here. IfOk-weaker result _ _ (λ r h. ends_all publisher.log last after r h.1 files here) all;
    first = ends_first publisher.log last after first_of;
  }

-- an import that couldn't be opened has found something by which nothing is lost
pub not_opened : (told : Option (List File)) (job : ImportJob) (log : List Segment) (faults now : ℕ) → faults ≤ now → IfTold told (λ files. EndsWithFirst files job log log faults now)
not_opened told job log faults now later = λ files here.
    let found = lossless-found files job.source (counts_of (trees_in (games_of_segments log))) in record {
      finds = record {
        entry = nothing_lost;
        finding = found.0;
        imported = found.1;
        paid = rose_by_none faults now later;
      };
      segments = [];
      grown = sym (append-nil log);
      first = (segments_of job.batch found.0, refl);
    }
