-- What an import finds is one thing where it is given what is lost, and so is the entry of the course that
-- a record shows.
use Rattle.std.proofs.Common.{◌≡◌, ◌∙◌, inl, inr, ℕ, Bool, true, false, List, length, refl, sym, ap, subst, arith}
use Rattle.std.specs.Prelude.{filter}
use Rattle.std.proofs.lemmas.Bool.{false≢true}
use Rattle.std.proofs.lemmas.List.{length-map}
use Rattle.kb_edges.specs.Files.{File, HasPath}
use Rattle.import_work.specs.Course.{Files, Finding, FindsBy, FindsFiles, HasTooMany, ImportCourse, ImportFile, IsImported, IsUnlisted, Made, TooMany, Unlisted, names_found, names_of, nothing_lost}
use Rattle.import_work.specs.declared.outcome.Counts.{Counts}
use Rattle.import_work.specs.declared.source.Source.{Source}
use Rattle.import_work.specs.declared.source.Source.TheVariants as source
use Rattle.import_work.proofs.NamesExist.{names-one}
use Rattle.import_work.proofs.OneFinding.{finding-one}
use Rattle.run_audit.specs.Shown.{IsShown, is_shown_unlisted, is_shown_unread}

same_flag : (x y : Bool) → (x ≡ true → y ≡ true) → (y ≡ true → x ≡ true) → x ≡ y
same_flag true true there back = refl
same_flag false false there back = refl
same_flag true false there back = absurd (false≢true (there refl))
same_flag false true there back = absurd (false≢true (back refl))

module _ (all : List File) (path : List ℕ) (before : Counts) where
  -- an import that is unlisted, and not as a loss, has no path
  unlisted_away : (entry : ImportCourse) → IsUnlisted all path entry → entry.unlisted ≡ false → ¬ HasPath all path
  unlisted_away entry (inl (lost, there), none) listed = absurd (false≢true (sym listed ∙ lost))
  unlisted_away entry (inr (kept, gone), none) listed = gone

  -- it can't have too many names and few ones
  many_few : (entry : ImportCourse) (count : ℕ) (files : List ImportFile) → HasTooMany all path count → FindsFiles all path before entry files → ⊥
  many_few entry count files many few =
      let names = names-one all path many.names (names_of files) many.are_names few.names in
      let same : length many.names ≡ length files = ap length names ∙ length-map files (λ (f : ImportFile). f.report.name) in
      omega (arith, many.counted, many.many, few.few, same)

  names-found-one : (entry also : ImportCourse) (a b : Finding) → entry.unlisted ≡ also.unlisted → IsImported all (source.Under path) before entry a → IsImported all (source.Under path) before also b → names_found a ≡ names_found b
  names-found-one entry also Unlisted Unlisted same one other = refl
  names-found-one entry also Unlisted (TooMany n) same one other = refl
  names-found-one entry also Unlisted (Files files) same one other = absurd (unlisted_away entry one (same ∙ other.listed) other.path_there)
  names-found-one entry also (TooMany m) Unlisted same one other = refl
  names-found-one entry also (TooMany m) (TooMany n) same one other = refl
  names-found-one entry also (TooMany m) (Files files) same one other = absurd (many_few also m files one.0 other)
  names-found-one entry also (Files files) Unlisted same one other = absurd (unlisted_away also other (sym same ∙ one.listed) one.path_there)
  names-found-one entry also (Files files) (TooMany n) same one other = absurd (many_few entry n files other.0 one)
  names-found-one entry also (Files files) (Files more) same one other = names-one all path (names_of files) (names_of more) one.names other.names
  names-found-one entry also Unlisted (Made more) same one other = absurd other
  names-found-one entry also (TooMany m) (Made more) same one other = absurd other
  names-found-one entry also (Files files) (Made more) same one other = absurd other
  names-found-one entry also (Made files) b same one other = absurd one

-- the one entry of made games
pub made-entry : (all : List File) (games start : ℕ) (before : Counts) (entry : ImportCourse) (finding : Finding) → IsImported all (source.Made games start) before entry finding → entry ≡ nothing_lost
made-entry all games start before entry (Made files) is = is.1
made-entry all games start before entry Unlisted is = absurd is
made-entry all games start before entry (TooMany count) is = absurd is
made-entry all games start before entry (Files files) is = absurd is

module _ (all : List File) (before : Counts) (lost : Bool) (is_lost : List ℕ → Bool) where
  pub finds-entry-one : (from : Source) (a b : FindsBy all from before lost is_lost) → a.entry ≡ b.entry
  finds-entry-one (source.Made games start) a b =
      made-entry all games start before a.entry a.finding a.imported ∙ sym (made-entry all games start before b.entry b.finding b.imported)
  finds-entry-one (source.Under path) a b =
      let unlisted : a.entry.unlisted ≡ b.entry.unlisted = same_flag a.entry.unlisted b.entry.unlisted (λ e. b.unlisted.1 (a.unlisted.0 e)) (λ e. a.unlisted.1 (b.unlisted.0 e)) in
      let names = names-found-one all path before a.entry b.entry a.finding b.finding unlisted a.imported b.imported in
      let unread : a.entry.unread ≡ b.entry.unread = a.unread ∙ ap (filter is_lost) names ∙ sym b.unread in
      λ i. record { unlisted = unlisted i; unread = unread i }

  -- it finds one thing, by one entry of the course
  pub finds-one : (from : Source) (a b : FindsBy all from before lost is_lost) → (a.entry ≡ b.entry) × (a.finding ≡ b.finding)
  finds-one from a b =
      let entry = finds-entry-one from a b in
      (entry, finding-one all from before b.entry a.finding b.finding (subst (λ e. IsImported all from before e a.finding) entry a.imported) b.imported)

pub shown-one : (recorded : List ℕ) (line : ℕ) (all : List File) (from : Source) (before : Counts) (a b : ImportCourse) → IsShown recorded line all from before a → IsShown recorded line all from before b → a ≡ b
shown-one recorded line all from before a b one other =
    one.entry_is
    ∙ finds-entry-one all before (is_shown_unlisted recorded line) (is_shown_unread recorded line) from one.finds other.finds
    ∙ sym other.entry_is
