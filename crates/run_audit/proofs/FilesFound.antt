-- What an import of files finds, as a record shows it.
use Rattle.std.proofs.Common.{◌≡◌, ◌∙◌, ◌⊎◌, inl, inr, ℕ, ◌≤◌, Bool, true, false, List, [], All, get_or, length, refl, sym, ap, subst, append-nil, arith, true≢false}
use Rattle.std.specs.Prelude.{filter}
use Rattle.std.proofs.lemmas.List.{length-map}
use Rattle.std.proofs.lemmas.List.Elements.{Contains-get_or}
use Rattle.kb_edges.specs.Files.{File, HasFile, HasPath}
use Rattle.import_work.specs.Course.{AreNames, Files, HasTooMany, ImportFile, TooMany, Unlisted, names_of, nothing_lost}
use Rattle.import_work.specs.declared.batch.FileLine.{FileLine}
use Rattle.import_work.specs.declared.report.ReportBody.TheVariants as report
use Rattle.import_work.specs.declared.source.Source.TheVariants as source
use Rattle.import_work.proofs.NameLemmas.{has_path_or_none}
use Rattle.run_audit.specs.Importing.{FilesTo, ImportsBy}
use Rattle.run_audit.specs.Standing.{Kept}

module _ (all : List File) (path : List ℕ) (batch : ℕ) (lost : Bool) (is_lost : List ℕ → Bool) where
  -- it is lost as a whole, or has no path that is there
  pub import-unlisted : (kept : Kept) → (lost ≡ true) ⊎ (¬ HasPath all path) → ImportsBy all (source.Under path) batch lost is_lost kept kept report.Unlisted
  import-unlisted kept why = elim (has_path_or_none all path) [
    | inl has ↦ record {
      finds = record {
        entry = record { unlisted = true; unread = [] };
        finding = Unlisted;
        imported = (inl (refl, has), refl);
        unlisted = ((λ e. (whole why has, has)), (λ e. refl));
        unread = refl;
      };
      tells = refl;
      ahead = sym (append-nil kept.ahead);
      held = refl;
      waiting = refl;
    }
    | inr none ↦ record {
      finds = record {
        entry = nothing_lost;
        finding = Unlisted;
        imported = (inr (refl, none), refl);
        unlisted = ((λ e. absurd (true≢false (sym e))), (λ e. absurd (none e.1)));
        unread = refl;
      };
      tells = refl;
      ahead = sym (append-nil kept.ahead);
      held = refl;
      waiting = refl;
    }
  ]
    where
      whole : (lost ≡ true) ⊎ (¬ HasPath all path) → HasPath all path → lost ≡ true
      whole (inl is) has = is
      whole (inr none) has = absurd (none has)

  module _ (kept_whole : lost ≡ false) where
    -- it has too many names
    pub import-too-many : (kept : Kept) (count : ℕ) → HasTooMany all path count → ImportsBy all (source.Under path) batch lost is_lost kept kept (report.TooMany count)
    import-too-many kept count many = record {
      finds = record {
        entry = nothing_lost;
        finding = TooMany count;
        imported = (many, refl);
        unlisted = ((λ e. absurd (true≢false (sym e))), (λ e. absurd (true≢false (sym e.0 ∙ kept_whole))));
        unread = refl;
      };
      tells = refl;
      ahead = sym (append-nil kept.ahead);
      held = refl;
      waiting = refl;
    }

    -- its files were read, but for those that are lost
    pub import-found : (names : List (List ℕ)) (before after : Kept) (lines : List FileLine) → HasPath all path → AreNames all path names → length names ≤ 100000 → FilesTo all path batch is_lost names [] before after lines
        → ImportsBy all (source.Under path) batch lost is_lost before after (report.Files lines)
    import-found names before after lines there are few so_far =
        let named : names_of so_far.files ≡ names = so_far.named ∙ sym (append-nil so_far.done) ∙ sym so_far.parts in record {
          finds = record {
            entry = record { unlisted = false; unread = so_far.unread };
            finding = Files so_far.files;
            imported = record {
              path_there = there;
              names = subst (AreNames all path) (sym named) are;
              few = omega (arith, few, ap length named, length-map so_far.files (λ (f : ImportFile). f.report.name));
              read = so_far.read;
              listed = refl;
            };
            unlisted = ((λ e. absurd (true≢false (sym e))), (λ e. absurd (true≢false (sym e.0 ∙ kept_whole))));
            unread = so_far.lost_are ∙ ap (filter is_lost) (sym so_far.named);
          };
          tells = (so_far.files, refl, so_far.lines_are);
          ahead = so_far.ahead;
          held = so_far.held;
          waiting = so_far.waiting;
        }

-- each name is that of a file
pub all-files : (all : List File) (path : List ℕ) (names : List (List ℕ)) → AreNames all path names → All (HasFile all path) names
all-files all path names are k d below = ((are.each (get_or names k d)).0 (Contains-get_or names k d below)).0
