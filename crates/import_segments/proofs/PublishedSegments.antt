-- What an importer has published of an import, by what the import has given.
use Rattle.std.proofs.Common.{◌≡◌, inl, inr, ℕ, ◌+◌, ◌≤◌, List, [], ◌++◌, Option, Some, length, refl, sym, ap, ◌∙◌, subst, append-nil, arith}
use Rattle.std.proofs.lemmas.List.{nil_from_length}
use Rattle.std.proofs.lemmas.Bool.{cases_lt}
use Rattle.kb_edges.specs.Files.{File}
use Rattle.kb_edges.specs.Told.{IfTold}
use Rattle.version_publisher.specs.Contents.{items_in}
use Rattle.import_work.specs.Course.{trees_in}
use Rattle.import_work.specs.Imports.{GivesAll, HasGiven, ImportState, IsListedIn}
use Rattle.import_work.specs.Log.{Segment, games_of_segments}
use Rattle.import_work.specs.Outcome.{counts_of}
use Rattle.import_work.specs.Rooms.{AreCountsWithinLimits}
use Rattle.import_work.specs.declared.report.Report.{Report}
use Rattle.import_work.proofs.FoundSegments.{gives_all, gives_first}
use Rattle.import_work.proofs.GivenSegments.{adds_up}
use Rattle.import_work.proofs.RoomLemmas.{counts_of-more}
use Rattle.import_segments.specs.Publishing.{IsOpenedWith, IsLogWithinLimits, PublishesAll, PublishesFirst}
use Rattle.import_segments.specs.Published.{HasPublished, HasPublishedAll, version_of}
use Rattle.import_segments.proofs.PushedSegments.{games_pushed}

module _ (told : Option (List File)) (batch : ℕ) (any : 1 ≤ batch) (start : ImportState) (log_before log_now : List Segment) (first last : ℕ) (opened : IsOpenedWith log_before start) where
  module _ (there : IfTold told (λ all. IsListedIn all start.source start.body start.left)) where
    pub publishes_first : HasPublished told batch start log_before log_now first last → PublishesFirst told batch start log_before log_now first last
    publishes_first h = record {
      segments = h.taken.segments;
      now = h.now;
      faults = h.faults;
      grown = h.taken.pushed.parts;
      given = h.taken.given;
      later = h.later;
      first = λ all is.
          let given : HasGiven (Some all) batch start first h.taken.segments h.now h.faults = subst (λ t. HasGiven t batch start first h.taken.segments h.now h.faults) is h.taken.given in
          let g = gives_first all batch any start h.now h.taken.segments first h.faults given start.source start.body refl refl opened.listed (there all is) in record {
            finds = record {
              entry = g.finds.entry;
              finding = g.finds.finding;
              imported = g.finds.imported;
              unlisted = g.finds.unlisted;
              paid = omega (arith, g.finds.paid, h.later);
            };
            prefix = g.prefix;
          };
    }

    pub publishes_all : (now : ImportState) (report : Report) → HasPublishedAll told batch start now log_before log_now first last → report.line ≡ now.line → report.body ≡ now.body → report.version ≡ now.number + now.given → PublishesAll told batch start log_before log_now report first last
    publishes_all now report h line body version =
        let adds = adds_up told batch start first now h.taken.segments last any h.taken.given in record {
          segments = h.taken.segments;
          now = now;
          grown = h.taken.pushed.parts;
          given = h.taken.given;
          nothing_left = h.none;
          line = line ∙ adds.line;
          body = body;
          version = omega (arith, version, adds.number, adds.given, opened.number, opened.none_given, h.taken.pushed.number);
          all = λ all is.
              let given : HasGiven (Some all) batch start first h.taken.segments now last = subst (λ t. HasGiven t batch start first h.taken.segments now last) is h.taken.given in
              subst (λ b. GivesAll all batch start h.taken.segments b first last) (sym body)
              (gives_all all batch any start now h.taken.segments first last given start.source start.body refl refl opened.listed (there all is) h.none);
        }

  module _ (h : HasPublished told batch start log_before log_now first last) where
    pub few_published : length log_now ≤ length log_before + length start.left
    few_published = omega (arith, h.taken.pushed.number, (adds_up told batch start first h.now h.taken.segments h.faults any h.taken.given).few)

    -- the counts are those of the log now
    counts_now : h.now.counts ≡ counts_of (trees_in (items_in log_now))
    counts_now =
        let adds = adds_up told batch start first h.now h.taken.segments h.faults any h.taken.given in
        counts_of-more start.counts h.now.counts (items_in log_before) (games_of_segments h.taken.segments) (items_in log_now) opened.counts adds.counted
        (games_pushed (version_of log_before) (version_of log_now) h.taken.segments h.taken.pushed)

    pub limits_kept : IsLogWithinLimits log_before → IsLogWithinLimits log_now
    limits_kept within = elim (cases_lt 0 (length (games_of_segments h.taken.segments))) [
      | inl some ↦
          let adds = adds_up told batch start first h.now h.taken.segments h.faults any h.taken.given in
          subst AreCountsWithinLimits counts_now (adds.room (λ none. omega (arith, some, ap length none)))
      | inr none ↦
          let empty : games_of_segments h.taken.segments ≡ [] = nil_from_length (games_of_segments h.taken.segments) (omega (arith, none)) in
          let same : items_in log_now ≡ items_in log_before = games_pushed (version_of log_before) (version_of log_now) h.taken.segments h.taken.pushed ∙ ap (λ gs. items_in log_before ++ gs) empty ∙ append-nil (items_in log_before) in
          subst (λ gs. AreCountsWithinLimits (counts_of (trees_in gs))) (sym same) within
    ]
