-- What an import loses in a folder that tells its files.
use Rattle.std.proofs.Common.{◌≡◌, ◌⊎◌, inl, inr, cond, ℕ, ◌+◌, ◌≤◌, List, [], ◌∷◌, ◌++◌, length, refl, arith}
use Rattle.std.proofs.lemmas.List.Sums.{sum_by-append}
use Rattle.kb_edges.specs.Faults.{Rose, RoseBy}
use Rattle.kb_edges.specs.Files.{File}
use Rattle.import_work.specs.Course.{Files, Finding, ImportCourse, IsImported, Made, TooMany, Unlisted, losses_of}
use Rattle.import_work.specs.Imports.{FindsIn, ImportState, IsNotThere}
use Rattle.import_work.specs.declared.outcome.Counts.{Counts}
use Rattle.import_work.specs.declared.report.ReportBody.TheVariants as report
use Rattle.import_work.specs.declared.source.Source.{Source}
use Rattle.import_work.specs.declared.source.Source.TheVariants as source

-- the losses of two courses
pub losses_of-append : (course more : List ImportCourse) → losses_of (course ++ more) ≡ losses_of course + losses_of more
losses_of-append course more = sum_by-append (λ (c : ImportCourse). cond c.unlisted 1 0 + length c.unread) course more

-- an entry that says unlisted has no unread file, and its import found nothing
losses_of_entry : (all : List File) (from : Source) (before : Counts) (entry : ImportCourse) (finding : Finding) (faults first last : ℕ) → IsImported all from before entry finding → (finding ≡ Unlisted → Rose faults first ⊎ IsNotThere all from) → faults ≤ first → first ≤ last → RoseBy (length entry.unread) first last → RoseBy (losses_of (entry ∷ [])) faults last
losses_of_entry all (source.Under path) before entry Unlisted faults first last (inl (lost, there), none) cause later after paid =
    elim (cause refl) [
      | inl rose ↦ rw (lost, none) (omega (arith, rose, after))
      | inr gone ↦ absurd (gone there)
    ]
losses_of_entry all (source.Under path) before entry Unlisted faults first last (inr (kept, gone), none) cause later after paid = rw (kept, none) (omega (arith, later, after))
losses_of_entry all (source.Under path) before entry (TooMany count) faults first last is cause later after paid = rw is.1 (omega (arith, later, after))
losses_of_entry all (source.Under path) before entry (Files files) faults first last is cause later after paid = rw is.listed (omega (arith, later, paid))
losses_of_entry all (source.Under path) before entry (Made files) faults first last is cause later after paid = absurd is
losses_of_entry all (source.Made games seed) before entry (Made files) faults first last is cause later after paid = rw is.1 (omega (arith, later, after))
losses_of_entry all (source.Made games seed) before entry Unlisted faults first last is cause later after paid = absurd is
losses_of_entry all (source.Made games seed) before entry (TooMany count) faults first last is cause later after paid = absurd is
losses_of_entry all (source.Made games seed) before entry (Files files) faults first last is cause later after paid = absurd is

-- what an import loses is at most the rise of the count of faults, from its opening on
pub loses : (all : List File) (start : ImportState) (before first last : ℕ) (finds : FindsIn all start first last) → (start.body ≡ report.Unlisted → Rose before first ⊎ IsNotThere all start.source) → before ≤ first → first ≤ last → RoseBy (losses_of (finds.entry ∷ [])) before last
loses all start before first last finds cause later after =
    losses_of_entry all start.source start.counts finds.entry finds.finding before first last finds.imported (λ is. cause (finds.unlisted is)) later after finds.paid
